use Rattle.std.proofs.Common.{◌∙◌, ap, refl, nat_cmp}
use Rattle.std.specs.BTreeMap.{is_at}
use Rattle.std.specs.Map.{remove_entry}
use Rattle.deploy_session.specs.Shown.{shown_sessions}
use Rattle.deploy_session.proofs.KnownLemmas.{taken_out}
use Rattle.deploy_session.proofs.recording.begin.Goals as goal

pub returns-in-Err-clause-err : goal.returns-in-Err-clause-err
returns-in-Err-clause-err g c =
    let n = c.args.number in
    ap shown_sessions
    (c.remove.ensures.entries
    ∙ ap (remove_entry (is_at (nat_cmp n))) c.in_ok-add.ensures.ok
    ∙ taken_out n n _ c.args.known.now.entries refl c.requires.drawn)
