-- What a function that reads gives: what reading by the definition gives, unless memory runs out.
use Rattle.std.specs.Prelude.{◌≡◌, ℕ, Result, Ok, Err}
use Rattle.repo_rows.specs.declared.faults.ReadFault.{ReadFault}
use Rattle.repo_rows.specs.declared.faults.ReadFault.TheVariants.{NoMemory, Refused}
use Rattle.repo_rows.specs.declared.faults.RowFault.{RowFault}
use Rattle.repo_rows.specs.declared.faults.RowFault.TheVariants as row

abbrev pub Fails : {Y : Type 0} → ReadFault → Result Y ℕ → Type 0
Fails NoMemory read = Unit {0}
Fails (Refused left) read = read ≡ Err left

abbrev pub Gives : {X Y : Type 0} → (X → Y) → Result X ReadFault → Result Y ℕ → Type 0
Gives view (Ok x) read = read ≡ Ok (view x)
Gives view (Err fault) read = Fails fault read

-- The same of a whole change.
abbrev pub RowFails : {Y : Type 0} → RowFault → Result Y ℕ → Type 0
RowFails row.NoMemory read = Unit {0}
RowFails (row.BadField at) read = read ≡ Err at

abbrev pub GivesRows : {X Y : Type 0} → (X → Y) → Result X RowFault → Result Y ℕ → Type 0
GivesRows view (Ok x) read = read ≡ Ok (view x)
GivesRows view (Err fault) read = RowFails fault read
