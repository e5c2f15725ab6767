-- The greatest of those so far.
use Rattle.std.proofs.Common.{◌≡◌, ◌<◌, ℕ, cond, max, fold, take}
use Rattle.std.specs.Prelude.{nat_lt}
use Rattle.repo_model.specs.State.{number_end}
use Rattle.repo_restart.proofs.numbers.greatest_from.Given as goal

abbrev pub invariant-loop-number : goal.invariant-loop-number
invariant-loop-number l = record {
  value : l.greatest ≡ fold (λ (m n : ℕ). cond (nat_lt n number_end) (max m n) m) l.least (take l.number-index l.numbers);
  below : l.greatest < number_end;
}
