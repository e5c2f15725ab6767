use Rattle.std.proofs.Common.{option_map, ap, ◌∙◌}
use Rattle.deploy_session.specs.Shown.{shown_session}
use Rattle.deploy_session.proofs.FileLemmas.{option_map-copied}
use Rattle.deploy_session.proofs.KnownLemmas.{found}
use Rattle.deploy_session.proofs.known.session_of.Goals as goal

pub returns : goal.returns
returns g c =
    option_map-copied (λ s. shown_session (c.args.number, s)) c.get.result
    ∙ ap (option_map (λ s. shown_session (c.args.number, s))) c.get.ensures.value
    ∙ found c.args.number c.args.known.now.entries
