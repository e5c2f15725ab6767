use Rattle.mvn_digest.specs.Sides.{bytes_in}
use Rattle.repo_model.specs.Shown.{shown_reply}
use Rattle.repo_core.proofs.SideLemmas.{turned-staged-side}
use Rattle.repo_core.proofs.machine.Machine.stage_side.Goals as goal

pub returns : goal.returns
returns g c = rw (← c.self.view_is) (turned-staged-side _ c.args.number c.args.path.now (bytes_in c.args.said) (shown_reply c.compare_staged.result) c.compare_staged.ensures)
