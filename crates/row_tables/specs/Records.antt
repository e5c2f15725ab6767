-- What the answers of records say of their count of faults, which of them are refusals, and what records in memory are.
use Rattle.std.specs.Prelude.{◌≡◌, ℕ, List, Result, Ok, Err}
use Rattle.outside.specs.Faults.{Rose}
use Rattle.outside_memory.specs.Script.{Script, script_failed, script_passed}
use Rattle.repo_model.specs.declared.item.Item.{Item}
use Rattle.repo_model.specs.Tables.{Tables}
use Rattle.row_tables.specs.declared.faults.CommitFault.{CommitFault}
use Rattle.row_tables.specs.declared.faults.CommitFault.TheVariants as commit
use Rattle.row_tables.specs.declared.faults.LoadFault.{LoadFault}
use Rattle.row_tables.specs.declared.faults.LoadFault.TheVariants.{Failed, NoMemory, NotOurs, Row}

-- a call that fails has raised the count; any other leaves it
abbrev pub HasLoadCause : {T : Type 0} → ℕ → ℕ → Result T LoadFault → Type 0
HasLoadCause before after (Ok value) = after ≡ before
HasLoadCause before after (Err Failed) = Rose before after
HasLoadCause before after (Err NoMemory) = after ≡ before
HasLoadCause before after (Err NotOurs) = after ≡ before
HasLoadCause before after (Err (Row frame at)) = after ≡ before

-- what is recorded cannot be read
abbrev pub IsRefusal : {T : Type 0} → Result T LoadFault → Type 0
IsRefusal (Ok value) = ⊥
IsRefusal (Err Failed) = ⊥
IsRefusal (Err NoMemory) = ⊥
IsRefusal (Err NotOurs) = Unit {0}
IsRefusal (Err (Row frame at)) = Unit {0}

-- the tables or the refusal that a load gives
abbrev pub Expected : Type 0
Expected = Result Tables LoadFault

-- a load gives what is expected, unless it fails or runs out of memory
abbrev pub LoadsUnlessFailed : Expected → Result Tables LoadFault → Type 0
LoadsUnlessFailed expected (Ok t) = expected ≡ Ok t
LoadsUnlessFailed expected (Err Failed) = Unit {0}
LoadsUnlessFailed expected (Err NoMemory) = Unit {0}
LoadsUnlessFailed expected (Err NotOurs) = expected ≡ Err NotOurs
LoadsUnlessFailed expected (Err (Row frame at)) = expected ≡ Err (Row frame at)

-- records in memory: the items committed, and which calls fail
pub record MemState : Type 0 where
  pub items : List Item
  pub script : Script

-- after a load with this answer: a refusal and out of memory are no failures
abbrev pub script_after_load : {T : Type 0} → Script → Result T LoadFault → Script
script_after_load script (Ok value) = script_passed script
script_after_load script (Err Failed) = script_failed script
script_after_load script (Err NoMemory) = script_passed script
script_after_load script (Err NotOurs) = script_passed script
script_after_load script (Err (Row frame at)) = script_passed script

-- after a commit with this answer
abbrev pub script_after_commit : {T : Type 0} → Script → Result T CommitFault → Script
script_after_commit script (Ok value) = script_passed script
script_after_commit script (Err commit.Failed) = script_failed script
script_after_commit script (Err commit.NoMemory) = script_passed script
