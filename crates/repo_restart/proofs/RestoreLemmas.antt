-- Repositories that have the rows so far have them and one more, once it is taken up.
use Rattle.std.proofs.Common.{◌≡◌, ℕ, Bool, true, false, cond, List, [], ◌∷◌, ◌++◌, map, filter, find, Option, Some, None, Less, refl, sym, ap, ◌∙◌, subst, append-nil, bytes_eq}
use Rattle.std.specs.Prelude.{◌==◌, IfSome, option_and_then}
use Rattle.std.specs.List.{AllByRecursion}
use Rattle.std.proofs.lemmas.Bool.{false≢true, eqb-true, eq-eqb}
use Rattle.std.proofs.lemmas.List.{map-append}
use Rattle.std.proofs.lemmas.List.Elements.{filter-append}
use Rattle.std.proofs.lemmas.Option.{none-some}
use Rattle.std.proofs.lemmas.Slice.Eq.{bytes_eq-Decides}
use Rattle.outside.specs.Blobs.{Shelf, Numbered, bytes_at, standing_at}
use Rattle.repo_model.specs.Data as plain
use Rattle.repo_model.specs.Effect.{with_row}
use Rattle.repo_model.specs.Restart.{with_bytes, is_of, recorded_of, hosted_from}
use Rattle.repo_model.specs.Settings.{Rule}
use Rattle.repo_model.specs.State.{new_hosted}
use Rattle.repo_model.specs.Tables.{RecordedRow}
use Rattle.ordered_rows.proofs.LastRows.{last}
use Rattle.repo_laws.specs.Holds.{row_cmp}
use Rattle.repo_laws.specs.Sound.{AreNamedApart}
use Rattle.repo_restart.specs.Rows.{AreRowsRestored}
use Rattle.repo_restart.specs.Taking.{holding, with_taken}
use Rattle.repo_restart.proofs.FrontLemmas.{names, recorded-before}

-- the bytes of one more blob are told
abbrev pub telling : (ℕ → Option (List ℕ)) → ℕ → Option (List ℕ) → ℕ → Option (List ℕ)
telling tells n bytes m = cond (m == n) bytes (tells m)

-- another row has the bytes that were told
same-row : (tells : ℕ → Option (List ℕ)) (n : ℕ) (bytes : Option (List ℕ)) (r : RecordedRow) → names n r ≡ false → with_bytes (telling tells n bytes) r.row ≡ with_bytes tells r.row
same-row tells n bytes r other =
    ap (λ (b : Bool). with_bytes (λ m. cond b bytes (tells m)) r.row) other

same-rows : (tells : ℕ → Option (List ℕ)) (n : ℕ) (bytes : Option (List ℕ)) (id : List ℕ) (front : List RecordedRow) → AllByRecursion (λ r. names n r ≡ false) front
    → recorded_of (telling tells n bytes) front id ≡ recorded_of tells front id
same-rows tells n bytes id [] all = refl
same-rows tells n bytes id (r ∷ front) all =
    let kept = filter (is_of id) front in
    let now = λ (one : RecordedRow). with_bytes (telling tells n bytes) one.row in
    let then = λ (one : RecordedRow). with_bytes tells one.row in
    elim (bytes_eq r.repo id) as (λ b. map now (cond b (r ∷ kept) kept) ≡ map then (cond b (r ∷ kept) kept)) [
      | true ↦ λ i. same-row tells n bytes r all.0 i ∷ same-rows tells n bytes id front all.1 i
      | false ↦ same-rows tells n bytes id front all.1
    ]

-- the row has the bytes that are told of it
own-row : (tells : ℕ → Option (List ℕ)) (bytes : Option (List ℕ)) (x : RecordedRow) → with_bytes (telling tells x.row.blob.number bytes) x.row ≡ holding bytes x.row
own-row tells bytes x =
    ap (λ (b : Bool). holding (cond b bytes (tells x.row.blob.number)) x.row) (eq-eqb x.row.blob.number x.row.blob.number refl)

pub turned : (a b : List ℕ) (x : Bool) → bytes_eq a b ≡ x → bytes_eq b a ≡ x
turned a b true is = (bytes_eq-Decides b a).1 (sym ((bytes_eq-Decides a b).0 is))
turned a b false is = by (bytes_eq b a) refl
  where
    by : (y : Bool) → bytes_eq b a ≡ y → y ≡ false
    by true same = absurd (false≢true (sym is ∙ (bytes_eq-Decides a b).1 (sym ((bytes_eq-Decides b a).0 same))))
    by false other = refl

module _ (tells : ℕ → Option (List ℕ)) (bytes : Option (List ℕ)) (front : List RecordedRow) (x : RecordedRow)
    (before : AllByRecursion (λ (r : RecordedRow). row_cmp r x ≡ Less) front) (unnamed : AllByRecursion (λ (r : RecordedRow). names x.row.blob.number r ≡ false) front) where
  abbrev told : ℕ → Option (List ℕ)
  told = telling tells x.row.blob.number bytes

  abbrev pub old_repo : Rule → plain.Hosted
  old_repo rule = hosted_from tells front rule

  abbrev pub new_repo : Rule → plain.Hosted
  new_repo rule = hosted_from told (front ++ x ∷ []) rule

  rows-more : (id : List ℕ) (b : Bool) → bytes_eq x.repo id ≡ b → recorded_of told (front ++ x ∷ []) id ≡ recorded_of tells front id ++ cond b (holding bytes x.row ∷ []) []
  rows-more id b is =
      let shown = λ (one : RecordedRow). with_bytes told one.row in
      ap (map shown) (filter-append (is_of id) front (x ∷ []) ∙ ap (λ c. filter (is_of id) front ++ cond c (x ∷ []) []) is)
      ∙ map-append shown (filter (is_of id) front) (cond b (x ∷ []) [])
      ∙ (λ i. same-rows tells x.row.blob.number bytes id front unnamed i ++ one b i)
    where
      one : (c : Bool) → map (λ (r : RecordedRow). with_bytes told r.row) (cond c (x ∷ []) []) ≡ cond c (holding bytes x.row ∷ []) []
      one true = ap (λ (row : plain.Row). row ∷ []) (own-row tells bytes x)
      one false = refl

  repo-kept : (rule : Rule) → bytes_eq rule.id x.repo ≡ false → new_repo rule ≡ old_repo rule
  repo-kept rule other =
      ap (λ (rows : List plain.Row). record { rule = rule; rows = rows })
      (rows-more rule.id false (turned rule.id x.repo false other) ∙ append-nil (recorded_of tells front rule.id))

  repo-more : (rule : Rule) → bytes_eq rule.id x.repo ≡ true → new_repo rule ≡ record (old_repo rule) { rows = with_row (holding bytes x.row) (recorded_of tells front rule.id) }
  repo-more rule is =
      ap (λ (rows : List plain.Row). record { rule = rule; rows = rows })
      (rows-more rule.id true (turned rule.id x.repo true is)
      ∙ sym (last (holding bytes x.row) (recorded_of tells front rule.id) (recorded-before tells x rule.id ((bytes_eq-Decides rule.id x.repo).0 is) front before)))

  -- the rules of other ids
  others-kept : (rules : List Rule) → find (λ (other : Rule). bytes_eq other.id x.repo) rules ≡ None → map new_repo rules ≡ map old_repo rules
  others-kept [] none = refl
  others-kept (rule ∷ rules) none =
      elim (bytes_eq rule.id x.repo)
      as (λ b. bytes_eq rule.id x.repo ≡ b → cond b (Some rule) (find (λ (other : Rule). bytes_eq other.id x.repo) rules) ≡ None → new_repo rule ∷ map new_repo rules ≡ old_repo rule ∷ map old_repo rules) [
        | true ↦ λ is some. absurd (none-some rule (sym some))
        | false ↦ λ other none_later. λ i. repo-kept rule other i ∷ others-kept rules none_later i
      ] refl none

  pub taken-more : (rules : List Rule) → AreNamedApart rules → map new_repo rules ≡ with_taken x bytes (map old_repo rules)
  taken-more [] apart = refl
  taken-more (rule ∷ rules) apart =
      elim (bytes_eq rule.id x.repo)
      as (λ b. bytes_eq rule.id x.repo ≡ b → new_repo rule ∷ map new_repo rules
      ≡ cond b (record (old_repo rule) { rows = with_row (holding bytes x.row) (recorded_of tells front rule.id) } ∷ map old_repo rules) (old_repo rule ∷ with_taken x bytes (map old_repo rules))) [
        | true ↦ λ is.
            let none = subst (λ id. find (λ (other : Rule). bytes_eq other.id id) rules ≡ None) ((bytes_eq-Decides rule.id x.repo).0 is) apart.0 in
            λ i. repo-more rule is i ∷ others-kept rules none i
        | false ↦ λ other. λ i. repo-kept rule other i ∷ taken-more rules apart.1 i
      ] refl

-- no rows yet
pub none-restored : (shelf : Shelf) (rules : List Rule) → AreRowsRestored shelf [] rules (map new_hosted rules)
none-restored shelf rules = record { tells = λ n. standing_at n shelf; standing = by shelf.blobs; made = refl }
  where
    by : (blobs : Option Numbered) → IfSome blobs (λ them. (n : ℕ) → option_and_then (bytes_at n) blobs ≡ bytes_at n them)
    by None = tt
    by (Some them) = λ n. refl

standing-more : (blobs : Option Numbered) (tells : ℕ → Option (List ℕ)) (n : ℕ) (bytes : Option (List ℕ)) → IfSome blobs (λ them. (m : ℕ) → tells m ≡ bytes_at m them)
    → IfSome blobs (λ them. bytes ≡ bytes_at n them) → IfSome blobs (λ them. (m : ℕ) → telling tells n bytes m ≡ bytes_at m them)
standing-more None tells n bytes all here = tt
standing-more (Some them) tells n bytes all here = λ m.
    elim (m == n) as (λ b. (m == n) ≡ b → cond b bytes (tells m) ≡ bytes_at m them) [
      | true ↦ λ is. here ∙ ap (λ k. bytes_at k them) (sym (eqb-true m n is))
      | false ↦ λ other. all m
    ] refl

-- one more row
pub restored-more : (shelf : Shelf) (front : List RecordedRow) (x : RecordedRow) (rules : List Rule) (repos repos' : List plain.Hosted)
    → AllByRecursion (λ (r : RecordedRow). row_cmp r x ≡ Less) front → AllByRecursion (λ (r : RecordedRow). names x.row.blob.number r ≡ false) front → AreNamedApart rules
    → AreRowsRestored shelf front rules repos → (bytes : Option (List ℕ)) → IfSome shelf.blobs (λ them. bytes ≡ bytes_at x.row.blob.number them) → repos' ≡ with_taken x bytes repos
    → AreRowsRestored shelf (front ++ x ∷ []) rules repos'
restored-more shelf front x rules repos repos' before unnamed apart old bytes standing taken = record {
  tells = telling old.tells x.row.blob.number bytes;
  standing = standing-more shelf.blobs old.tells x.row.blob.number bytes old.standing standing;
  made = taken ∙ ap (with_taken x bytes) old.made ∙ sym (taken-more old.tells bytes front x before unnamed rules apart);
}
