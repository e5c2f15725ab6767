-- How many rows there are: no more than numbers that were drawn, since each row has a blob of its own.
use native.Mathlib.Omega.{arith}
use Rattle.std.proofs.Common.{◌≡◌, ℕ, ◌+◌, ◌^◌, ◌<◌, ◌≤◌, Bool, true, false, List, [], ◌∷◌, ◌++◌, length, map, zero, suc, refl, sym, ap, ◌∙◌, subst}
use Rattle.std.specs.Prelude.{◌==◌, nat_lt, count_by, sum_by}
use Rattle.std.proofs.lemmas.Bool.Decides.{nat_tests}
use Rattle.std.proofs.lemmas.List.{length-append, length-map}
use Rattle.std.proofs.lemmas.List.Sums.{sum_by-append, sum_by-cons}
use Rattle.repo_model.specs.Data.{Row, Hosted}
use Rattle.repo_model.specs.State.{State}
use Rattle.repo_model.specs.Settings.{Settings}
use Rattle.repo_laws.specs.Laws.{count_of, rows_with}
use Rattle.repo_laws.specs.Sound.{OnePlace, Sound}
use Rattle.repo_laws.proofs.Counts.{count-cons, one_if}

-- the blob numbers of all rows
abbrev numbers_in : List Row → List ℕ
numbers_in rows = map (λ row. row.blob.number) rows

abbrev all_numbers : List Hosted → List ℕ
all_numbers [] = []
all_numbers (h ∷ hosted) = numbers_in h.rows ++ all_numbers hosted

abbrev all_rows : List Hosted → ℕ
all_rows hosted = sum_by (λ h. length h.rows) hosted

count-numbers : (n : ℕ) (rows : List Row) → count_of n (numbers_in rows) ≡ count_by (λ (row : Row). row.blob.number == n) rows
count-numbers n [] = refl
count-numbers n (row ∷ rows) =
    count-cons (λ m. m == n) row.blob.number (numbers_in rows) ∙ ap (λ k. one_if (row.blob.number == n) + k) (count-numbers n rows)
    ∙ sym (count-cons (λ (r : Row). r.blob.number == n) row rows)

counted : (n : ℕ) (hosted : List Hosted) → count_of n (all_numbers hosted) ≡ rows_with n hosted
counted n [] = refl
counted n (h ∷ hosted) =
    let per : Hosted → ℕ = λ g. count_by (λ (row : Row). row.blob.number == n) g.rows in
    let both : count_of n (numbers_in h.rows ++ all_numbers hosted) ≡ count_of n (numbers_in h.rows) + count_of n (all_numbers hosted) = sum_by-append (λ m. one_if (m == n)) (numbers_in h.rows) (all_numbers hosted) in
    let more : rows_with n (h ∷ hosted) ≡ per h + rows_with n hosted = sum_by-cons per h hosted in
    omega (arith, both, more, count-numbers n h.rows, counted n hosted)

measured : (hosted : List Hosted) → length (all_numbers hosted) ≡ all_rows hosted
measured [] = refl
measured (h ∷ hosted) =
    let more : all_rows (h ∷ hosted) ≡ length h.rows + all_rows hosted = sum_by-cons (λ (g : Hosted). length g.rows) h hosted in
    let both : length (numbers_in h.rows ++ all_numbers hosted) ≡ length (numbers_in h.rows) + length (all_numbers hosted) = length-append (numbers_in h.rows) (all_numbers hosted) in
    let here : length (numbers_in h.rows) ≡ length h.rows = length-map h.rows (λ (row : Row). row.blob.number) in
    omega (arith, more, both, here, measured hosted)

-- how many of some numbers are below an end
abbrev below : ℕ → List ℕ → ℕ
below end ns = count_by (λ m. nat_lt m end) ns

one-more : (m end : ℕ) → one_if (nat_lt m (end + 1)) ≡ one_if (nat_lt m end) + one_if (m == end)
one-more m end = grind (arith, nat_tests)

below-more : (end : ℕ) (ns : List ℕ) → below (end + 1) ns ≡ below end ns + count_of end ns
below-more end [] = refl
below-more end (m ∷ ms) =
    omega (arith, count-cons (λ k. nat_lt k (end + 1)) m ms, count-cons (λ k. nat_lt k end) m ms, count-cons (λ k. k == end) m ms, one-more m end, below-more end ms)

below-none : (ns : List ℕ) → below 0 ns ≡ 0
below-none [] = refl
below-none (m ∷ ms) =
    let here : one_if (nat_lt m 0) ≡ 0 = grind (arith, nat_tests) in
    omega (arith, count-cons (λ k. nat_lt k 0) m ms, here, below-none ms)

-- numbers that stand once each
few-below : (end : ℕ) (ns : List ℕ) → ((n : ℕ) → n < end → count_of n ns ≤ 1) → below end ns ≤ end
few-below zero ns once = omega (arith, below-none ns)
few-below (suc end) ns once =
    let next : end + 1 ≡ suc end = omega arith in
    let more : below (suc end) ns ≡ below end ns + count_of end ns = subst (λ k. below k ns ≡ below end ns + count_of end ns) next (below-more end ns) in
    omega (arith, more, once end (omega arith), few-below end ns (λ n h. once n (omega arith)))

one-here : (m end : ℕ) (k : ℕ) → one_if (m == m) + k ≡ 0 → ⊥
one-here m end k is = let here : one_if (m == m) ≡ 1 = grind (arith, nat_tests) in absurd (omega arith)

-- where none is at the end or after it
all-below : (end : ℕ) (ns : List ℕ) → ((n : ℕ) → end ≤ n → count_of n ns ≡ 0) → length ns ≡ below end ns
all-below end [] none = refl
all-below end (m ∷ ms) none =
    let later : (n : ℕ) → end ≤ n → count_of n ms ≡ 0 = λ n h. omega (arith, count-cons (λ k. k == n) m ms, none n h) in
    let under : m < end = by (nat_lt m end) refl in
    let here : one_if (nat_lt m end) ≡ 1 = grind (arith, nat_tests) in
    omega (arith, count-cons (λ k. nat_lt k end) m ms, here, all-below end ms later) where
      by : (b : Bool) → nat_lt m end ≡ b → m < end
      by true is = grind (arith, nat_tests)
      by false is =
          let past : end ≤ m = grind (arith, nat_tests) in
          absurd (one-here m end (count_of m ms) (sym (count-cons (λ k. k == m) m ms) ∙ none m past))

-- there are fewer rows than numbers
pub rows-few : (settings : Settings) (s : State) → Sound settings s → OnePlace s → sum_by (λ (h : Hosted). length h.rows) s.hosted < 2 ^ 64
rows-few settings s order places =
    let end = s.yard.next_draft in
    let ns = all_numbers s.hosted in
    let once : (n : ℕ) → n < end → count_of n ns ≤ 1 = λ n h. omega (arith, places.drawn n h, counted n s.hosted) in
    let none : (n : ℕ) → end ≤ n → count_of n ns ≡ 0 = λ n h. omega (arith, places.later n h, counted n s.hosted) in
    omega (arith, few-below end ns once, all-below end ns none, measured s.hosted, order.draft)
