-- What it comes to that rows are given their further digests.
use Rattle.std.proofs.Common.{◌≡◌, ℕ, List, ◌∷◌, ◌++◌, map, Option, Some, None, refl, sym, ap, ◌∙◌, subst}
use Rattle.std.specs.Prelude.{IfSome}
use Rattle.std.specs.Option.{option_map}
use Rattle.std.proofs.lemmas.Bool.{both_ways}
use Rattle.std.proofs.lemmas.List.{map-append}
use Rattle.outside.specs.Blobs.{Shelf}
use Rattle.repo_model.specs.Prints.{lacks_further}
use Rattle.repo_model.specs.Restart.{blobs_named}
use Rattle.repo_model.specs.Tables.{AreComplete, RecordedRow, Tables}
use Rattle.repo_laws.specs.InRange as laws
use Rattle.row_completion.specs.Completion.{AreDigested, IsComplete, IsDigested, IsDigestedWhereTold, bare_row, given, none, same}
use Rattle.row_completion.proofs.Outcomes.{as-they-are}

pub the-same : (shelf : Shelf) (t : Tables) → IsDigested shelf t t
the-same shelf t = record { hosted = as-they-are shelf t.hosted; cached = as-they-are shelf t.cached; documents = refl; sessions = refl }

rows-stay : (shelf : Shelf) (old new : List RecordedRow) → AreComplete old → AreDigested shelf old new → new ≡ old
rows-stay shelf old new complete none = refl
rows-stay shelf old new complete (same r rows rows' so) = ap (λ them. r ∷ them) (rows-stay shelf rows rows' complete.1 so)
rows-stay shelf old new complete (given r further rows rows' lacks is so) = absurd (both_ways (lacks_further r.row.blob.print) complete.0 lacks)

pub tables-stay : (shelf : Shelf) (old new : Tables) → IsComplete old → IsDigested shelf old new → new ≡ old
tables-stay shelf old new complete so = λ i. record {
  hosted = rows-stay shelf old.hosted new.hosted complete.hosted so.hosted i;
  cached = rows-stay shelf old.cached new.cached complete.cached so.cached i;
  documents = so.documents i;
  sessions = so.sessions i;
}

pub bare-stay : (shelf : Shelf) (old new : List RecordedRow) → AreDigested shelf old new → map bare_row new ≡ map bare_row old
bare-stay shelf old new none = refl
bare-stay shelf old new (same r rows rows' so) = ap (λ them. bare_row r ∷ them) (bare-stay shelf rows rows' so)
bare-stay shelf old new (given r further rows rows' lacks is so) = ap (λ them. bare_row r ∷ them) (bare-stay shelf rows rows' so)

-- whatever their contents are
rows-completed : (shelf : Shelf) (old new : List RecordedRow) → AreDigested shelf old new → laws.AreCompleted old new
rows-completed shelf old new none = laws.none
rows-completed shelf old new (same r rows rows' so) = laws.same r rows rows' (rows-completed shelf rows rows' so)
rows-completed shelf old new (given r further rows rows' lacks is so) = laws.given r further rows rows' lacks (rows-completed shelf rows rows' so)

pub completes-so : (shelf : Shelf) (old new : Tables) → IsDigested shelf old new → laws.Completes old new
completes-so shelf old new so = record {
  hosted = rows-completed shelf old.hosted new.hosted so.hosted;
  cached = rows-completed shelf old.cached new.cached so.cached;
  documents = so.documents;
  sessions = so.sessions;
}

numbers-stay : (shelf : Shelf) (old new : List RecordedRow) → AreDigested shelf old new → map (λ (r : RecordedRow). r.row.blob.number) new ≡ map (λ (r : RecordedRow). r.row.blob.number) old
numbers-stay shelf old new none = refl
numbers-stay shelf old new (same r rows rows' so) = ap (λ ns. r.row.blob.number ∷ ns) (numbers-stay shelf rows rows' so)
numbers-stay shelf old new (given r further rows rows' lacks is so) = ap (λ ns. r.row.blob.number ∷ ns) (numbers-stay shelf rows rows' so)

pub named-stay : (shelf : Shelf) (old new : Tables) → IsDigested shelf old new → blobs_named new ≡ blobs_named old
named-stay shelf old new so =
    let number : RecordedRow → ℕ = λ r. r.row.blob.number in
    map-append number new.hosted new.cached
    ∙ (λ i. numbers-stay shelf old.hosted new.hosted so.hosted i ++ numbers-stay shelf old.cached new.cached so.cached i)
    ∙ sym (map-append number old.hosted old.cached)

-- the same said of tables that are told, or not
pub where-told : (shelf : Shelf) (told : Option Tables) (old new : Tables) → IfSome told (λ t. old ≡ t) → IsDigested shelf old new → IsDigestedWhereTold shelf told (option_map (λ t. new) told)
where-told shelf None old new alike so = refl
where-told shelf (Some t) old new alike so = (new, refl, subst (λ (u : Tables). IsDigested shelf u new) alike so)

pub told-same : (shelf : Shelf) (told now : Option Tables) → now ≡ told → IsDigestedWhereTold shelf told now
told-same shelf None now is = is
told-same shelf (Some t) now is = (t, is, the-same shelf t)
