-- What a put did, as the machine's plain data.
use Rattle.std.specs.Prelude.{◌≡◌, ◌<◌, ◌≤◌, ◌∷◌, [], ℕ, List, IsTrue}
use Rattle.outside.specs.declared.parcels.Parcel.{Parcel}
use Rattle.outside.specs.declared.stores.Held.{Ghosts}
use Rattle.repo_model.specs.Data.{Blob, Hosted}
use Rattle.repo_model.specs.History.{latest_moment}
use Rattle.repo_model.specs.Prints.{recorded_print}
use Rattle.repo_model.specs.declared.item.Item.{Item}
use Rattle.repo_model.specs.declared.item.Item.TheVariants.{HostedPut, Relisted}
use Rattle.row_tables.specs.Items.{is_file_path, is_number}
use Rattle.repo_model.specs.Reply.{Reply, created, same, relisted, taken, no_memory, store_fault}
use Rattle.repo_model.specs.Shown.{shown_print}
use Rattle.repo_model.specs.State.{number_end, row_at}
use Rattle.repo_model.specs.Turn.{Turn, put_at}
use Rattle.hosted_repo.specs.declared.put.Put.{Put}
use Rattle.hosted_repo.specs.declared.put.Put.TheVariants as did

-- the reply that says what a put did
abbrev pub shown_put : {X : Type 0} {G : Ghosts X} → Put X G → Reply
shown_put did.Created = created
shown_put (did.Same parcel) = same
shown_put (did.Relisted parcel) = relisted
shown_put (did.Taken kept sent) = taken kept (shown_print sent)
shown_put (did.StoreFault parcel) = store_fault
shown_put (did.NoMemory parcel) = no_memory

-- the turn of a put of a stored blob at a path of a repository
abbrev pub put_turn : Hosted → List ℕ → Blob → ℕ → Turn
put_turn h path blob now = put_at h.rule.id path blob.number blob now (row_at path h.rows)

-- a stored blob may be put at the path of a file: its number and length have their ranges, and the moment is of a turn
pub record IsPut (path : List ℕ) (blob : Blob) (now : ℕ) : Type 0 where
  pub moment : now ≤ latest_moment
  pub file : IsTrue (is_file_path path)
  pub number : IsTrue (is_number blob.number)
  pub length : blob.print.length < number_end

-- what is recorded of a new row, and of one that is listed again
abbrev pub puts_row : List ℕ → List ℕ → Blob → ℕ → List Item
puts_row repo path blob now = HostedPut repo path blob.number (recorded_print blob.print) now ∷ []

abbrev pub lists_row : List ℕ → List ℕ → ℕ → List Item
lists_row repo path now = Relisted repo path now ∷ []

-- the parcel that was sent comes back, but for a new row
abbrev pub GivesBack : {X : Type 0} {G : Ghosts X} → Put X G → Parcel X G → Type 0
GivesBack did.Created parcel = Unit {0}
GivesBack (did.Same back) parcel = back ≡ parcel
GivesBack (did.Relisted back) parcel = back ≡ parcel
GivesBack (did.Taken kept back) parcel = back ≡ parcel
GivesBack (did.StoreFault back) parcel = back ≡ parcel
GivesBack (did.NoMemory back) parcel = back ≡ parcel
