-- Patterns that go on with a parameter, by `matchit`'s search: it takes the bytes of a path up to the next slash, or all that are left.
use Rattle.std.proofs.Common.{◌≡◌, ◌⊎◌, inl, inr, ℕ, suc, ◌-◌, ◌<◌, Bool, true, false, cond, ◌==◌, nat_eq, nat_lt, List, [], ◌∷◌, ◌++◌, length, drop, Option, Some, None, refl, ◌∙◌, ap, arith, length-append}
use Rattle.std.proofs.Math.Seq.{drop-append_seam}
use Rattle.std.specs.Cmp.Lexicographic.{pointwise}
use Rattle.std.proofs.lemmas.Bool.Decides.{nat_tests}
use Rattle.matchit.specs.Rows.{RowsOf, catch_all_token, param_token}
use Rattle.matchit.specs.Seek.{cuts, has_slash, longest_from, longest_suffix, or_else, own, param_step, seek, segment, step, with_suffix}
use Rattle.repo_routes.proofs.RouterLemmas.{and-false, and-true, filled, neither, or-none, search_by, seek-byte, seek-cons, seek-none, turned}

-- a text without a slash, and one with its first slash
segment-of : (id rest : List ℕ) → has_slash id ≡ false → segment (id ++ 47 ∷ rest) ≡ id ++ 47 ∷ []
segment-of [] rest clean = refl
segment-of (b ∷ id) rest clean =
    let parts = neither (b == 47) (has_slash id) clean in
    rw parts.0 (ap (λ t. b ∷ t) (segment-of id rest parts.1))

segment-whole : (text : List ℕ) → has_slash text ≡ false → segment text ≡ text
segment-whole [] clean = refl
segment-whole (b ∷ text) clean =
    let parts = neither (b == 47) (has_slash text) clean in
    rw parts.0 (ap (λ t. b ∷ t) (segment-whole text parts.1))

last-slash : (front : List ℕ) → drop (length (front ++ 47 ∷ []) - 1) (front ++ 47 ∷ []) ≡ 47 ∷ []
last-slash front =
    let e : length (front ++ 47 ∷ []) - 1 ≡ length front = omega (arith, length-append front (47 ∷ [])) in
    rw e (drop-append_seam front (47 ∷ []))

cuts-slash : (b : ℕ) (id : List ℕ) → cuts (b ∷ id ++ 47 ∷ []) (47 ∷ []) ≡ true
cuts-slash b id =
    let small : 1 < length (b ∷ id ++ 47 ∷ []) = omega (arith, length-append id (47 ∷ [])) in
    let long : nat_lt 1 (length (b ∷ id ++ 47 ∷ [])) ≡ true = grind (arith, nat_tests) in
    and-true _ _ long (ap (λ t. pointwise nat_eq (47 ∷ []) t) (last-slash (b ∷ id)))

no-last : (text : List ℕ) → has_slash text ≡ false → pointwise nat_eq (47 ∷ []) (drop (length text - 1) text) ≡ false
no-last [] clean = refl
no-last (b ∷ []) clean =
    let parts = neither (b == 47) false clean in
    let e : nat_eq 47 b ≡ false = turned 47 b ∙ parts.0 in
    rw e refl
no-last (b ∷ c ∷ text) clean =
    let parts = neither (b == 47) (has_slash (c ∷ text)) clean in
    let e : length (b ∷ c ∷ text) - 1 ≡ suc (length (c ∷ text) - 1) = omega arith in
    rw e (no-last (c ∷ text) parts.1)

cuts-none : (text : List ℕ) → has_slash text ≡ false → cuts text (47 ∷ []) ≡ false
cuts-none text clean = and-false _ _ (no-last text clean)

module _ {K : Type 0} where
  -- each row after a slash, and after a parameter and a slash
  below : RowsOf K → RowsOf K
  below [] = []
  below ((t, key) ∷ rows) = (47 ∷ t, key) ∷ below rows

  unfoldable pub parameter : RowsOf K → RowsOf K
  parameter [] = []
  parameter ((t, key) ∷ rows) = (param_token ∷ 47 ∷ t, key) ∷ parameter rows

  step-below : (rows : RowsOf K) → step 47 (below rows) ≡ rows
  unfolding below
  step-below [] = refl
  step-below ((t, key) ∷ rows) = ap (λ (others : RowsOf K). (t, key) ∷ others) (step-below rows)

  step-elsewhere : (b : ℕ) (rows : RowsOf K) → (47 == b) ≡ false → step b (below rows) ≡ []
  unfolding below
  step-elsewhere b [] other = refl
  step-elsewhere b ((t, key) ∷ rows) other = rw other (step-elsewhere b rows other)

  own-below : (rows : RowsOf K) → own (below rows) ≡ None
  unfolding below
  own-below [] = refl
  own-below ((t, key) ∷ rows) = own-below rows

  own-parameter : (rows : RowsOf K) → own (parameter rows) ≡ None
  unfolding parameter
  own-parameter [] = refl
  own-parameter ((t, key) ∷ rows) = own-parameter rows

  at-slash : (rows : RowsOf K) (rest : List ℕ) → seek 0 (below rows) (47 ∷ rest) ≡ seek 0 rows rest
  at-slash rows rest =
      seek-byte (below rows) 47 rest (step-elsewhere param_token rows refl) (step-elsewhere catch_all_token rows refl)
      ∙ ap (λ (others : RowsOf K). seek 0 others rest) (step-below rows)

  before-slash : (rows : RowsOf K) (b : ℕ) (path : List ℕ) → (b == 47) ≡ false → seek 0 (below rows) (b ∷ path) ≡ None
  before-slash rows b path other =
      let not_slash : (47 == b) ≡ false = grind (arith, nat_tests) in
      seek-byte (below rows) b path (step-elsewhere param_token rows refl) (step-elsewhere catch_all_token rows refl)
      ∙ ap (λ (others : RowsOf K). seek 0 others path) (step-elsewhere b rows not_slash) ∙ seek-none 0 path

  skip : (rows : RowsOf K) (front path : List ℕ) → seek (length front) rows (front ++ path) ≡ seek 0 rows path
  unfolding seek
  skip rows [] path = refl
  skip rows (b ∷ front) path = skip rows front path

  step-parameter : (rows : RowsOf K) → step param_token (parameter rows) ≡ below rows
  unfolding parameter below
  step-parameter [] = refl
  step-parameter ((t, key) ∷ rows) = ap (λ (others : RowsOf K). (47 ∷ t, key) ∷ others) (step-parameter rows)

  step-byte : (b : ℕ) (rows : RowsOf K) → (param_token == b) ≡ false → step b (parameter rows) ≡ []
  unfolding parameter
  step-byte b [] other = refl
  step-byte b ((t, key) ∷ rows) other = rw other (step-byte b rows other)

  step-token : (b : ℕ) (rows : RowsOf K) → step b (parameter rows) ≡ cond (param_token == b) (below rows) []
  step-token b rows = by-test (param_token == b) refl
    where
      by-test : (test : Bool) → (param_token == b) ≡ test → step b (parameter rows) ≡ cond test (below rows) []
      by-test true same = let it : b ≡ param_token = grind (arith, nat_tests) in rw it (step-parameter rows)
      by-test false other = step-byte b rows other

  parameter-cons : (rows : RowsOf K) (b : ℕ) (path : List ℕ)
      → seek 0 (parameter rows) (b ∷ path) ≡ or_else (seek 0 (cond (param_token == b) (below rows) []) path) (or_else (seek ((param_step (below rows) (b ∷ path)).0 - 1) (param_step (below rows) (b ∷ path)).1 path) None)
  parameter-cons rows b path =
      seek-cons (parameter rows) b path
      ∙ ap (λ (r : RowsOf K). search_by (seek 0 r path) (step param_token (parameter rows)) (step catch_all_token (parameter rows)) b path) (step-token b rows)
      ∙ ap (λ (r : RowsOf K). search_by (seek 0 (cond (param_token == b) (below rows) []) path) r (step catch_all_token (parameter rows)) b path) (step-parameter rows)
      ∙ ap (λ (r : RowsOf K). search_by (seek 0 (cond (param_token == b) (below rows) []) path) (below rows) r b path) (step-byte catch_all_token rows refl)

  twice : (found : Option K) → or_else found (or_else found None) ≡ found
  twice None = refl
  twice (Some key) = refl

  either : (rows : RowsOf K) (test : Bool) (path : List ℕ) (found : Option K) → (seek 0 (below rows) path ≡ None) ⊎ (seek 0 (below rows) path ≡ found)
      → or_else (seek 0 (cond test (below rows) []) path) (or_else found None) ≡ found
  either rows true path found (inl none) = rw none (or-none found)
  either rows true path found (inr same) = rw same (twice found)
  either rows false path found e = rw (seek-none 0 path) (or-none found)

  -- the suffix of each row is a slash
  longest-more : (seg : List ℕ) (rows : RowsOf K) → longest_from seg (47 ∷ []) (below rows) ≡ 47 ∷ []
  unfolding below
  longest-more seg [] = refl
  longest-more seg ((t, key) ∷ rows) = longest-more seg rows

  longest-slash : (seg t : List ℕ) (key : K) (rows : RowsOf K) → cuts seg (47 ∷ []) ≡ true → longest_suffix seg (below ((t, key) ∷ rows)) ≡ 47 ∷ []
  unfolding below
  longest-slash seg t key rows cut = ap (λ test. longest_from seg (cond test (47 ∷ []) []) (below rows)) cut ∙ longest-more seg rows

  longest-none : (seg : List ℕ) (rows : RowsOf K) → cuts seg (47 ∷ []) ≡ false → longest_suffix seg (below rows) ≡ []
  unfolding below
  longest-none seg [] none = refl
  longest-none seg ((t, key) ∷ rows) none = ap (λ test. longest_from seg (cond test (47 ∷ []) []) (below rows)) none ∙ longest-none seg rows none

  all-with-slash : (rows : RowsOf K) → with_suffix (47 ∷ []) (below rows) ≡ below rows
  unfolding below
  all-with-slash [] = refl
  all-with-slash ((t, key) ∷ rows) = ap (λ (others : RowsOf K). (47 ∷ t, key) ∷ others) (all-with-slash rows)

  abbrev step_by : List ℕ → RowsOf K → List ℕ → ℕ × RowsOf K
  step_by suffix rows path =
      cond (nat_lt 0 (length suffix)) (length (segment path) - length suffix, with_suffix suffix rows)
      (cond (has_slash path) (0, []) (length path, rows))

  step-is : (rows : RowsOf K) (path : List ℕ) → param_step rows path ≡ step_by (longest_suffix (segment path) rows) rows path
  unfolding param_step
  step-is rows path = refl

  step-slash : (t : List ℕ) (key : K) (rows : RowsOf K) (b : ℕ) (id rest : List ℕ) → has_slash (b ∷ id) ≡ false
      → param_step (below ((t, key) ∷ rows)) (b ∷ id ++ 47 ∷ rest) ≡ (length (b ∷ id), below ((t, key) ∷ rows))
  step-slash t key rows b id rest clean =
      let all : RowsOf K = below ((t, key) ∷ rows) in
      let path : List ℕ = b ∷ id ++ 47 ∷ rest in
      let front : segment path ≡ b ∷ id ++ 47 ∷ [] = segment-of (b ∷ id) rest clean in
      let cut : cuts (segment path) (47 ∷ []) ≡ true = ap (λ seg. cuts seg (47 ∷ [])) front ∙ cuts-slash b id in
      let long : length (segment path) - 1 ≡ length (b ∷ id) = ap (λ seg. length seg - 1) front ∙ omega (arith, length-append id (47 ∷ [])) in
      step-is all path
      ∙ ap (λ suffix. step_by suffix all path) (longest-slash (segment path) t key rows cut)
      ∙ ap (λ (n : ℕ). (n, with_suffix (47 ∷ []) all)) long
      ∙ ap (λ (others : RowsOf K). (length (b ∷ id), others)) (all-with-slash ((t, key) ∷ rows))

  step-whole : (rows : RowsOf K) (text : List ℕ) → has_slash text ≡ false → param_step (below rows) text ≡ (length text, below rows)
  step-whole rows text clean =
      let none : cuts (segment text) (47 ∷ []) ≡ false = ap (λ seg. cuts seg (47 ∷ [])) (segment-whole text clean) ∙ cuts-none text clean in
      step-is (below rows) text
      ∙ ap (λ suffix. step_by suffix (below rows) text) (longest-none (segment text) rows none)
      ∙ rw clean refl

  step-empty : (rows : RowsOf K) (rest : List ℕ) → param_step (below rows) (47 ∷ rest) ≡ (0, [])
  step-empty rows rest =
      step-is (below rows) (47 ∷ rest) ∙ ap (λ suffix. step_by suffix (below rows) (47 ∷ rest)) (longest-none (47 ∷ []) rows refl)

  found-after : (rows : RowsOf K) (b : ℕ) (path : List ℕ) (found : Option K) → seek ((param_step (below rows) (b ∷ path)).0 - 1) (param_step (below rows) (b ∷ path)).1 path ≡ found
      → (seek 0 (below rows) path ≡ None) ⊎ (seek 0 (below rows) path ≡ found) → seek 0 (parameter rows) (b ∷ path) ≡ found
  found-after rows b path found e either_way =
      parameter-cons rows b path
      ∙ ap (λ f. or_else (seek 0 (cond (param_token == b) (below rows) []) path) (or_else f None)) e
      ∙ either rows (param_token == b) path found either_way

  skip-all : (rows : RowsOf K) (path : List ℕ) → seek (length path) (below rows) path ≡ None
  unfolding seek
  skip-all rows [] = own-below rows
  skip-all rows (b ∷ path) = skip-all rows path

  one-less : (rows : RowsOf K) (b : ℕ) (text path : List ℕ) → seek (length (b ∷ text) - 1) rows path ≡ seek (length text) rows path
  one-less rows b text path = let e : length (b ∷ text) - 1 ≡ length text = omega arith in ap (λ n. seek n rows path) e

  after-id : (rows : RowsOf K) (id rest : List ℕ) → has_slash id ≡ false
      → (seek 0 (below rows) (id ++ 47 ∷ rest) ≡ None) ⊎ (seek 0 (below rows) (id ++ 47 ∷ rest) ≡ seek 0 rows rest)
  after-id rows [] rest clean = inr (at-slash rows rest)
  after-id rows (b ∷ id) rest clean =
      let parts = neither (b == 47) (has_slash id) clean in
      inl (before-slash rows b (id ++ 47 ∷ rest) parts.0)

  pub with-slash : (t : List ℕ) (key : K) (rows : RowsOf K) (id rest : List ℕ) → has_slash id ≡ false
      → seek 0 (parameter ((t, key) ∷ rows)) (id ++ 47 ∷ rest) ≡ cond (filled id) (seek 0 ((t, key) ∷ rows) rest) None
  unfolding filled
  with-slash t key rows [] rest clean =
      let all : RowsOf K = (t, key) ∷ rows in
      parameter-cons all 47 rest
      ∙ ap (λ (s : ℕ × RowsOf K). or_else (seek 0 [] rest) (or_else (seek (s.0 - 1) s.1 rest) None)) (step-empty all rest)
      ∙ rw (seek-none 0 rest) refl
  with-slash t key rows (b ∷ id) rest clean =
      let all : RowsOf K = (t, key) ∷ rows in
      let parts = neither (b == 47) (has_slash id) clean in
      found-after all b (id ++ 47 ∷ rest) (seek 0 all rest)
      (ap (λ (s : ℕ × RowsOf K). seek (s.0 - 1) s.1 (id ++ 47 ∷ rest)) (step-slash t key rows b id rest clean)
      ∙ one-less (below all) b id (id ++ 47 ∷ rest) ∙ skip (below all) id (47 ∷ rest) ∙ at-slash all rest)
      (after-id all id rest parts.1)

  after-text : (rows : RowsOf K) (text : List ℕ) → has_slash text ≡ false → seek 0 (below rows) text ≡ None
  unfolding seek
  after-text rows [] clean = own-below rows
  after-text rows (b ∷ text) clean =
      let parts = neither (b == 47) (has_slash text) clean in before-slash rows b text parts.0

  pub without-slash : (rows : RowsOf K) (text : List ℕ) → has_slash text ≡ false → seek 0 (parameter rows) text ≡ None
  unfolding seek
  without-slash rows [] clean = own-parameter rows
  without-slash rows (b ∷ text) clean =
      let parts = neither (b == 47) (has_slash text) clean in
      found-after rows b text None
      (ap (λ (s : ℕ × RowsOf K). seek (s.0 - 1) s.1 text) (step-whole rows (b ∷ text) clean)
      ∙ one-less (below rows) b text text ∙ skip-all rows text)
      (inl (after-text rows text parts.1))
