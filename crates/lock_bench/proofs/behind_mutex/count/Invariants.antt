use Rattle.std.proofs.Common.{◌≡◌, length}
use Rattle.lock_bench.proofs.behind_mutex.count.Given as goal

abbrev pub invariant-loop : goal.invariant-loop
invariant-loop g l = length l.jobs.items ≡ l.counter
