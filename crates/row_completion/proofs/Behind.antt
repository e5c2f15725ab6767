-- A row after others: it is found at its place, and changed there alone.
use Rattle.std.proofs.Common.{◌≡◌, true, false, cond, List, [], ◌∷◌, ◌++◌, find, Option, Some, refl, sym, ap, ◌∙◌}
use Rattle.std.specs.List.{AllByRecursion}
use Rattle.std.specs.Option.{option_map, option_map_or}
use Rattle.repo_model.specs.Data.{Row}
use Rattle.repo_model.specs.Prints.{lacks_further}
use Rattle.repo_model.specs.Tables.{AreComplete, RecordedRow, change_recorded, lacks_at}
use Rattle.row_completion.proofs.Weaving.{Apart, apart-turned, at_place, place-itself}

-- of these rows none stands at the place of one of those
abbrev pub Before : List RecordedRow → List RecordedRow → Type 0
Before done rows = AllByRecursion (λ r. Apart r done) rows

apart-more : (r new : RecordedRow) (done : List RecordedRow) → Apart r done → at_place r new ≡ false → Apart r (done ++ new ∷ [])
apart-more r new [] apart other = (other, tt)
apart-more r new (d ∷ done) apart other = (apart.0, apart-more r new done apart.1 other)

-- one more row, which stands where one stood that is apart from the rest
pub before-more : (done : List RecordedRow) (r new : RecordedRow) (rows : List RecordedRow) → ((s : RecordedRow) → at_place s r ≡ at_place s new) → Before done rows → Apart r rows → Before (done ++ new ∷ []) rows
before-more done r new [] alike before apart = tt
before-more done r new (s ∷ rows) alike before apart =
    (apart-more s new done before.0 (sym (alike s) ∙ apart-turned r s apart.0), before-more done r new rows alike before.1 apart.1)

pub complete-more : (done : List RecordedRow) (r : RecordedRow) → AreComplete done → lacks_further r.row.blob.print ≡ false → AreComplete (done ++ r ∷ [])
complete-more [] r all is = (is, tt)
complete-more (d ∷ done) r all is = (all.0, complete-more done r all.1 is)

module _ (r : RecordedRow) where
  found-after : (done rest : List RecordedRow) → Apart r done → find (at_place r) (done ++ r ∷ rest) ≡ Some r
  found-after [] rest apart = ap (λ b. cond b (Some r) (find (at_place r) rest)) (place-itself r)
  found-after (d ∷ done) rest apart = ap (λ b. cond b (Some d) (find (at_place r) (done ++ r ∷ rest))) apart.0 ∙ found-after done rest apart.1

  pub lacks-after : (done rest : List RecordedRow) → Apart r done → lacks_at r.repo r.row.path (done ++ r ∷ rest) ≡ lacks_further r.row.blob.print
  lacks-after done rest apart =
      ap (λ (found : Option RecordedRow). option_map_or (λ (row : Row). lacks_further row.blob.print) (option_map (λ (s : RecordedRow). s.row) found) false) (found-after done rest apart)

  -- none of these lacks its digests there
  pub lacks-none : (done rest : List RecordedRow) → AreComplete done → Apart r rest → lacks_at r.repo r.row.path (done ++ rest) ≡ false
  lacks-none [] [] complete apart = refl
  lacks-none [] (s ∷ rest) complete apart =
      ap (λ b. option_map_or (λ (row : Row). lacks_further row.blob.print) (option_map (λ (one : RecordedRow). one.row) (cond b (Some s) (find (at_place r) rest))) false) apart.0
      ∙ lacks-none [] rest complete apart.1
  lacks-none (d ∷ done) rest complete apart =
      elim (at_place r d)
      as (λ b. option_map_or (λ (row : Row). lacks_further row.blob.print) (option_map (λ (one : RecordedRow). one.row) (cond b (Some d) (find (at_place r) (done ++ rest)))) false ≡ false) [
        | true ↦ complete.0
        | false ↦ lacks-none done rest complete.1 apart
      ]

  module _ (f : Row → Row) where
    unchanged : (rows : List RecordedRow) → Apart r rows → change_recorded r.repo r.row.path f rows ≡ rows
    unchanged [] apart = refl
    unchanged (s ∷ rows) apart = λ i. cond (apart.0 i) (record s { row = f s.row }) s ∷ unchanged rows apart.1 i

    pub changed-after : (done rest : List RecordedRow) → Apart r done → Apart r rest → change_recorded r.repo r.row.path f (done ++ r ∷ rest) ≡ done ++ record r { row = f r.row } ∷ rest
    changed-after [] rest before behind = λ i. cond (place-itself r i) (record r { row = f r.row }) r ∷ unchanged rest behind i
    changed-after (d ∷ done) rest before behind = λ i. cond (before.0 i) (record d { row = f d.row }) d ∷ changed-after done rest before.1 behind i
