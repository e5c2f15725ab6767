use Rattle.deploy_session.proofs.FileLemmas.{inserted}
use Rattle.deploy_session.proofs.files.add.Goals as goal

pub returns-clause-ok : goal.returns-clause-ok
returns-clause-ok g c = rw c.in_ok-insert.ensures.entries (inserted c.args.path.now c.in_ok-path.path _ c.args.files.now.entries c.in_ok-path.ensures.ok c.requires)
