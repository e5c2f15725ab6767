-- What a function that loads gives: what loading by the definition gives, unless memory runs out.
use Rattle.std.specs.Prelude.{◌≡◌, ℕ, List, Result, Ok, Err}
use Rattle.repo_model.specs.Tables.{Tables}
use Rattle.row_tables.specs.Loading.{after_frame}
use Rattle.record_journal.specs.declared.faults.FrameFault.{FrameFault}
use Rattle.record_journal.specs.declared.faults.FrameFault.TheVariants as frame
use Rattle.row_tables.specs.declared.faults.LoadFault.{LoadFault}
use Rattle.row_tables.specs.declared.faults.LoadFault.TheVariants.{Failed, NoMemory, NotOurs, Row}

-- the change of a payload was applied, or where the payload is at fault
abbrev pub AppliesFrame : Tables → List ℕ → Tables → Result (Unit {0}) FrameFault → Type 0
AppliesFrame old payload new (Ok done) = after_frame old payload ≡ Ok new
AppliesFrame old payload new (Err frame.NoMemory) = Unit {0}
AppliesFrame old payload new (Err (frame.At at)) = after_frame old payload ≡ Err at

-- the tables or the refusal that is expected, unless memory runs out
abbrev pub Loads : Result Tables LoadFault → Result Tables LoadFault → Type 0
Loads expected (Ok t) = expected ≡ Ok t
Loads expected (Err Failed) = ⊥
Loads expected (Err NoMemory) = Unit {0}
Loads expected (Err NotOurs) = expected ≡ Err NotOurs
Loads expected (Err (Row frame at)) = expected ≡ Err (Row frame at)
