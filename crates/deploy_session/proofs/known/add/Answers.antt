use Rattle.std.proofs.Common.{refl, ◌∙◌}
use Rattle.deploy_session.proofs.KnownLemmas.{inserted}
use Rattle.deploy_session.proofs.known.add.Goals as goal

pub returns-clause-ok : goal.returns-clause-ok
returns-clause-ok g c = c.in_ok-insert.ensures.entries ∙ inserted c.args.number c.args.number c.args.session c.args.known.now.entries refl c.requires
