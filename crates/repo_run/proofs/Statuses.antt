-- The statuses of a demonstration.
use Rattle.std.proofs.Common.{ℕ, List, inl, inr}
use Rattle.repo_core.specs.declared.faults.StartFault.{StartFault}
use Rattle.repo_core.specs.declared.faults.StartFault.TheVariants.{Damaged, NoMemory, NotOurs, Row, Store}
use Rattle.run_lines.specs.Printing.{Output}
use Rattle.repo_run.specs.Begun.{RefusesStart}
use Rattle.repo_run.specs.Demo.{Demonstrates, TellsSummary, not_started, starved, told}
use Rattle.repo_run.specs.Status.{IsStatusOfDemo}
use Rattle.repo_run.specs.Surroundings.{DeskState, View}

refused-ends : (fault : StartFault) (old new : Output) (ends : ℕ) → RefusesStart fault old new ends → IsStatusOfDemo ends
refused-ends NoMemory old new ends refused = inr (inr (inr (inr refused.1)))
refused-ends Store old new ends refused = inr (inl refused.1)
refused-ends NotOurs old new ends refused = inr (inl refused.1)
refused-ends (Row frame at) old new ends (inl refused) = inr (inl refused.1)
refused-ends (Row frame at) old new ends (inr refused) = inr (inr (inr (inr refused.1)))
refused-ends (Damaged damage) old new ends (inl refused) = inr (inr (inl refused.1))
refused-ends (Damaged damage) old new ends (inr refused) = inr (inr (inr (inr refused.1)))

told-ends : (text : List ℕ) (old new : Output) (ends : ℕ) → TellsSummary text old new ends → IsStatusOfDemo ends
told-ends text old new ends (inl all) = inl all.1
told-ends text old new ends (inr (inl part)) = inr (inr (inr (inl part.1)))
told-ends text old new ends (inr (inr none)) = inr (inr (inr (inr none.1)))

pub demo-ends : {X : Type 0} (tells : Type 0) (from requests : ℕ) (old new : View (DeskState X)) (ends : ℕ) → Demonstrates tells from requests old new ends → IsStatusOfDemo ends
demo-ends tells from requests old new ends (not_started fault blobs fails place clock refused) = refused-ends fault old.out new.out ends refused
demo-ends tells from requests old new ends (starved n answers last calls fits shown printed is) = inr (inr (inr (inr is)))
demo-ends tells from requests old new ends (told answers asked calls files fading cached documents sessions shown none command reply tells_so) =
    told-ends _ old.out new.out ends tells_so
