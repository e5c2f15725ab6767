use Rattle.std.proofs.Common.{◌≡◌, drop}
use Rattle.hosted_repo.specs.Fades.{listed_back}
use Rattle.hosted_repo.proofs.purge.list_back.Given as goal

-- those that are left come back over the rows now as all do over the rows before
abbrev pub invariant-loop-i : goal.invariant-loop-i
invariant-loop-i g l = listed_back (drop l.i l.paths) (drop l.i l.moments) l.rows ≡ listed_back l.paths l.moments l.fn.rows
