use Rattle.std.proofs.Common.{length}
use Rattle.thread_jobs.proofs.jobs.+fn-run_all-join+arg3+run_all.Given as goal

abbrev pub decreases-join+arg3 : goal.decreases-join+arg3
decreases-join+arg3 g l = length l.jobs.items

abbrev pub decreases-run_all : goal.decreases-run_all
decreases-run_all g l = length l.jobs.items
