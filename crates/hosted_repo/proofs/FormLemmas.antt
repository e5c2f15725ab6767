-- Rows at paths of files: they stay so, and what is recorded of them makes a change.
use native.Mathlib.Omega.{arith}
use Rattle.std.proofs.Common.{◌≡◌, ℕ, ◌-◌, ◌<◌, ◌≤◌, Bool, true, false, cond, ◌&&◌, List, [], ◌∷◌, ◌++◌, length, map, take, zero, suc, refl, sym, ap, subst, leb, length-append}
use Rattle.std.specs.Prelude.{filter, OnErr, OnOk, Result, Ok, Err}
use Rattle.std.specs.List.{AllByRecursion, list_all}
use Rattle.std.proofs.lemmas.Bool.{and_parts, le-leb, leb-true, leb-false}
use Rattle.std.proofs.lemmas.List.{length-take, take-map}
use Rattle.repo_model.specs.Data as plain
use Rattle.repo_model.specs.declared.item.Item.{Item}
use Rattle.repo_model.specs.declared.print.Print.{Print}
use Rattle.repo_model.specs.declared.item.Item.TheVariants.{HostedPut, Faded, Relisted, Removed, CachedFile, CachedDoc, SessionOpened, SessionEnded, Digested}
use Rattle.repo_model.specs.Document.{is_listed}
use Rattle.repo_model.specs.Effect.{Effect, expires, fade, fades, recorded}
use Rattle.repo_model.specs.History.{latest_moment}
use Rattle.repo_model.specs.Paths.{file_at}
use Rattle.repo_model.specs.Prints.{recorded_print}
use Rattle.repo_model.specs.Purge.{due_rows, expired_of, fade_all, is_due_at, is_over, most_rows}
use Rattle.repo_model.specs.State.{change_where, is_row, number_end}
use Rattle.row_tables.specs.Items.{IsChange, is_file_path, is_count, is_id, is_item, is_number}
use Rattle.ordered_rows.specs.Recording.{IsRemoved, IsShort}
use Rattle.ordered_rows.specs.Rows.{AreFiles, IsFileRow, rows_after_all}
use Rattle.ordered_rows.proofs.ChangeLemmas.{AreDigests, change-of, fade-short, moment-so, relist-short, put-short, removed-short}
use Rattle.ordered_rows.proofs.EachRow.{each-changed}

-- what holds of all holds of those that pass a test, and of the first ones
all-filter : {X : Type 0} (P : X → Type 0) (test : X → Bool) (xs : List X) → AllByRecursion P xs → AllByRecursion P (filter test xs)
all-filter P test [] all = tt
all-filter P test (x ∷ xs) all = elim (test x) as (λ b. AllByRecursion P (cond b (x ∷ filter test xs) (filter test xs))) [ true ↦ (all.0, all-filter P test xs all.1) | false ↦ all-filter P test xs all.1 ]

all-take : {X : Type 0} (P : X → Type 0) (n : ℕ) (xs : List X) → AllByRecursion P xs → AllByRecursion P (take n xs)
all-take P zero xs all = tt
all-take P (suc n) [] all = tt
all-take P (suc n) (x ∷ xs) all = (all.0, all-take P n xs all.1)

all-both : {X : Type 0} (P : X → Type 0) (xs ys : List X) → AllByRecursion P xs → AllByRecursion P ys → AllByRecursion P (xs ++ ys)
all-both P [] ys xs-all ys-all = ys-all
all-both P (x ∷ xs) ys xs-all ys-all = (xs-all.0, all-both P xs ys xs-all.1 ys-all)

-- rows that fade
pub files-faded : (repo : List ℕ) (now : ℕ) (due rows : List plain.Row) → AreFiles rows → AreFiles (rows_after_all (map (λ (row : plain.Row). fades repo row.path now) due) rows)
files-faded repo now [] rows old = old
files-faded repo now (row ∷ due) rows old =
    files-faded repo now due (change_where (is_row row.path) (fade now) rows) (each-changed IsFileRow (is_row row.path) (fade now) (λ r is h. h) rows old)

module _ (id : List ℕ) (named : is_id id ≡ true) where
  fading-short : (now : ℕ) → now ≤ latest_moment → (rows : List plain.Row) → AreFiles rows → AllByRecursion IsShort (recorded (map (λ (row : plain.Row). fades id row.path now) rows))
  fading-short now late [] files = tt
  fading-short now late (row ∷ rows) files = (fade-short id row.path named files.0 now (moment-so now late), fading-short now late rows files.1)

  fading-count : (now : ℕ) (rows : List plain.Row) → length (recorded (map (λ (row : plain.Row). fades id row.path now) rows)) ≡ length rows
  fading-count now [] = refl
  fading-count now (row ∷ rows) = ap suc (fading-count now rows)

  pub puts-change : (path : List ℕ) (blob : ℕ) (print : Print) (now : ℕ) → is_file_path path ≡ true → is_number blob ≡ true → print.length < number_end → AreDigests print.digests
      → now ≤ latest_moment → IsChange (HostedPut id path blob (recorded_print print) now ∷ [])
  puts-change path blob print now file number short are late =
      let count : is_count print.length ≡ true = le-leb print.length 9223372036854775807 (omega (arith, short)) in
      change-of (HostedPut id path blob (recorded_print print) now ∷ []) (put-short id path named file blob print now number count are (moment-so now late), tt) (omega arith)

  pub relists-change : (path : List ℕ) (now : ℕ) → is_file_path path ≡ true → now ≤ latest_moment → IsChange (Relisted id path now ∷ [])
  relists-change path now file late = change-of (Relisted id path now ∷ []) (relist-short id path named file now (moment-so now late), tt) (omega arith)

  going-short : (rows : List plain.Row) → AreFiles rows → AllByRecursion IsShort (recorded (map (λ (row : plain.Row). expires id row.path row.blob.number) rows))
  going-short [] files = tt
  going-short (row ∷ rows) files = (removed-short id row.path named files.0, going-short rows files.1)

  going-count : (rows : List plain.Row) → length (recorded (map (λ (row : plain.Row). expires id row.path row.blob.number) rows)) ≡ length rows
  going-count [] = refl
  going-count (row ∷ rows) = ap suc (going-count rows)

-- the rows of a repository that fade are a change
pub fades-change : (h : plain.Hosted) (now : ℕ) → is_id h.rule.id ≡ true → AreFiles h.rows → now ≤ latest_moment → IsChange (recorded (fade_all h now))
fades-change h now named files late =
    let test : plain.Row → Bool = λ row. is_listed row.phase && is_due_at h.rule now h.rows (file_at row.path) in
    let due = due_rows h.rule now h.rows in
    let due-files : AreFiles due = all-take IsFileRow most_rows (filter test h.rows) (all-filter IsFileRow test h.rows files) in
    let few : length due ≤ most_rows = omega (arith, length-take most_rows (filter test h.rows)) in
    change-of (recorded (fade_all h now)) (fading-short h.rule.id named now late due due-files) (omega (arith, fading-count h.rule.id named now due, few))

-- removals of their form are short
removals-short : (items : List Item) → list_all is_item items ≡ true → AllByRecursion IsRemoved items → AllByRecursion IsShort items
removals-short [] form all = tt
removals-short (Removed repo path ∷ items) form all =
    let h = and_parts (is_item (Removed repo path)) (list_all is_item items) form in
    let k = and_parts (is_id repo) (is_file_path path) h.0 in
    (removed-short repo path k.0 k.1, removals-short items h.1 all.1)
removals-short (HostedPut repo path blob print accepted ∷ items) form all = absurd all.0
removals-short (Faded repo path moment ∷ items) form all = absurd all.0
removals-short (Relisted repo path accepted ∷ items) form all = absurd all.0
removals-short (CachedFile repo path blob print accepted ∷ items) form all = absurd all.0
removals-short (CachedDoc repo path checked document ∷ items) form all = absurd all.0
removals-short (SessionOpened n ∷ items) form all = absurd all.0
removals-short (SessionEnded n result ∷ items) form all = absurd all.0
removals-short (Digested repo path further ∷ items) form all = absurd all.0

more-none : (items : List Item) (rest : List Item) → IsChange items → length rest ≡ 0 → IsChange (items ++ rest)
more-none items [] change none = subst IsChange (sym (plus-none items)) change where
  plus-none : (xs : List Item) → xs ++ [] ≡ xs
  plus-none [] = refl
  plus-none (x ∷ xs) = ap (λ ys. x ∷ ys) (plus-none xs)
more-none items (x ∷ rest) change none = absurd (omega (arith, none))

-- removals, and those of the first rows whose grace is over, while there are fewer than a million, are a change
pub goes-change : (items : List Item) (h : plain.Hosted) (grace now : ℕ) → IsChange items → AllByRecursion IsRemoved items → is_id h.rule.id ≡ true → AreFiles h.rows
    → IsChange (items ++ recorded (take (most_rows - length items) (expired_of grace now h)))
goes-change items h grace now change removed named files =
    let k = most_rows - length items in
    let found = filter (λ (row : plain.Row). is_over grace now row.phase) h.rows in
    let rows = take k found in
    let gone : plain.Row → Effect = λ row. expires h.rule.id row.path row.blob.number in
    let rest = recorded (map gone rows) in
    let shown : take k (expired_of grace now h) ≡ map gone rows = take-map gone k found in
    let files-of : AreFiles rows = all-take IsFileRow k found (all-filter IsFileRow (λ (row : plain.Row). is_over grace now row.phase) h.rows files) in
    let count : length rest ≡ length rows = going-count h.rule.id named rows in
    let few : length rows ≤ k = omega (arith, length-take k found) in
    subst (λ es. IsChange (items ++ recorded es)) (sym shown)
    (elim (leb most_rows (length items)) as (λ b. leb most_rows (length items) ≡ b → IsChange (items ++ rest)) [
      | true ↦ λ is. let full = leb-true most_rows (length items) is in more-none items rest change (omega (arith, full, count, few))
      | false ↦ λ is.
          let room = leb-false most_rows (length items) is in
          change-of (items ++ rest) (all-both IsShort items rest (removals-short items change.form removed) (going-short h.rule.id named rows files-of))
          (omega (arith, length-append items rest, room, count, few))
    ] refl)

-- what follows either way
pub from-both : {T E A B C : Type 0} (r : Result T E) → OnOk r A → OnErr r B → (A → C) → (B → C) → C
from-both (Ok x) a b f h = f a
from-both (Err e) a b f h = h b
