use Rattle.mvn_digest.specs.Sides.{bytes_in}
use Rattle.repo_model.specs.Shown.{shown_reply}
use Rattle.repo_core.proofs.SideLemmas.{turned-side}
use Rattle.repo_core.proofs.machine.Machine.put_side.Goals as goal

pub returns : goal.returns
returns g c =
    rw (← c.self.view_is)
    (turned-side _ c.args.repo.now c.args.path.now (bytes_in c.args.said) (shown_reply c.compare_side.result) (rw c.deref.ensures.value at c.compare_side.ensures))
