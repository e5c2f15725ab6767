-- Which of the patterns a path is of, by `matchit`'s search over rows of tokens.
use Rattle.std.specs.Prelude.{option_and_then}
use Rattle.std.specs.Option.{option_map_or}
use Rattle.std.proofs.Common.{◌≡◌, ℕ, zero, suc, ◌-◌, Bool, true, false, cond, ◌==◌, ◌&&◌, nat_eq, nat_lt, List, [], ◌∷◌, ◌++◌, length, Option, Some, None, refl, sym, ◌∙◌, ap, arith, bytes_eq}
use Rattle.std.proofs.lemmas.Bool.Decides.{nat_tests}
use Rattle.matchit.specs.Rows.{RowsOf, catch_all_token, param_token}
use Rattle.matchit.specs.Seek.{has_slash, or_else, own, param_step, seek, step}

-- the texts of the patterns have bytes alone
unfoldable pub is_word : List ℕ → Bool
is_word [] = true
is_word (x ∷ word) = nat_lt x 256 && is_word word

both : (a b : Bool) → (a && b) ≡ true → (a ≡ true) × (b ≡ true)
both true b e = (refl, e)
both false b e = cc

pub neither : (a b : Bool) → cond a true b ≡ false → (a ≡ false) × (b ≡ false)
neither true b e = cc
neither false b e = (refl, e)

-- what is left of a path after a word
unfoldable pub strip : List ℕ → List ℕ → Option (List ℕ)
strip [] path = Some path
strip (x ∷ word) [] = None
strip (x ∷ word) (b ∷ path) = cond (x == b) (strip word path) None

-- the text has a byte
unfoldable pub filled : List ℕ → Bool
filled [] = false
filled (b ∷ text) = true

pub turned : (a b : ℕ) → nat_eq a b ≡ nat_eq b a
turned a b = grind (arith, nat_tests)

pub and-true : (a b : Bool) → a ≡ true → b ≡ true → (a && b) ≡ true
and-true true b x y = y
and-true false b x y = x

pub and-false : (a b : Bool) → b ≡ false → (a && b) ≡ false
and-false true b y = y
and-false false b y = refl

module _ {K : Type 0} where
  pub or-none : (found : Option K) → or_else found None ≡ found
  or-none None = refl
  or-none (Some key) = refl

  -- no row, no route
  pub seek-none : (n : ℕ) (path : List ℕ) → seek {K = K} n [] path ≡ None
  unfolding seek param_step
  seek-none n [] = refl
  seek-none (suc n) (b ∷ path) = seek-none n path
  seek-none zero (b ∷ path) =
      rw (seek-none 0 path)
      (elim (has_slash (b ∷ path)) as (λ h. or_else (seek ((cond {A = ℕ × RowsOf K} h (0, []) (length (b ∷ path), [])).0 - 1) ((cond {A = ℕ × RowsOf K} h (0, []) (length (b ∷ path), [])).1) path) None ≡ None) [
        | true ↦ rw (seek-none 0 path) refl
        | false ↦ rw (seek-none (length (b ∷ path) - 1) path) refl
      ])

  -- no row goes on with a parameter
  no-parameter : (b : ℕ) (path : List ℕ) → seek {K = K} ((param_step {K = K} [] (b ∷ path)).0 - 1) (param_step {K = K} [] (b ∷ path)).1 path ≡ None
  unfolding param_step
  no-parameter b path =
      elim (has_slash (b ∷ path)) as (λ h. seek ((cond {A = ℕ × RowsOf K} h (0, []) (length (b ∷ path), [])).0 - 1) ((cond {A = ℕ × RowsOf K} h (0, []) (length (b ∷ path), [])).1) path ≡ None) [
        | true ↦ seek-none 0 path
        | false ↦ seek-none (length (b ∷ path) - 1) path
      ]

  -- one byte of the search: the byte itself, then a parameter, then a catch-all
  pub seek-cons : (rows : RowsOf K) (b : ℕ) (path : List ℕ)
      → seek 0 rows (b ∷ path) ≡ or_else (seek 0 (step b rows) path) (or_else (seek ((param_step (step param_token rows) (b ∷ path)).0 - 1) (param_step (step param_token rows) (b ∷ path)).1 path) (own (step catch_all_token rows)))
  unfolding seek
  seek-cons rows b path = refl

  -- where no row goes on with a parameter or a catch-all, the byte decides
  pub seek-byte : (rows : RowsOf K) (b : ℕ) (path : List ℕ) → step param_token rows ≡ [] → step catch_all_token rows ≡ []
      → seek 0 rows (b ∷ path) ≡ seek 0 (step b rows) path
  seek-byte rows b path parameters catch_alls =
      seek-cons rows b path ∙ (rw (parameters, catch_alls, no-parameter b path) (or-none (seek 0 (step b rows) path)))

  literal : (x b : ℕ) (t : List ℕ) (key : K) (path : List ℕ) → nat_lt x 256 ≡ true
      → seek 0 ((x ∷ t, key) ∷ []) (b ∷ path) ≡ cond (x == b) (seek 0 ((t, key) ∷ []) path) None
  literal x b t key path small =
      let no_parameter : (x == 256) ≡ false = grind (arith, nat_tests) in
      let no_catch_all : (x == 257) ≡ false = grind (arith, nat_tests) in
      seek-byte ((x ∷ t, key) ∷ []) b path (rw no_parameter refl) (rw no_catch_all refl)
      ∙ (elim (x == b) as (λ same. seek 0 (cond same ((t, key) ∷ []) []) path ≡ cond same (seek 0 ((t, key) ∷ []) path) None) [
        | true ↦ refl
        | false ↦ seek-none 0 path
      ])

  -- a row of a word and what follows it
  pub along : (word t : List ℕ) (key : K) (path : List ℕ) → is_word word ≡ true
      → seek 0 ((word ++ t, key) ∷ []) path ≡ option_and_then (λ rest. seek 0 ((t, key) ∷ []) rest) (strip word path)
  unfolding is_word strip seek
  along [] t key path word = refl
  along (x ∷ word) t key [] small = refl
  along (x ∷ word) t key (b ∷ path) small =
      let parts = both (nat_lt x 256) (is_word word) small in
      literal x b (word ++ t) key path parts.0
      ∙ (elim (x == b) as (λ same. cond same (seek 0 ((word ++ t, key) ∷ []) path) None ≡ option_and_then (λ rest. seek 0 ((t, key) ∷ []) rest) (cond same (strip word path) None)) [
        | true ↦ along word t key path parts.1
        | false ↦ refl
      ])

  ended : (b : ℕ) (key : K) (path : List ℕ) → seek 0 (([], key) ∷ []) (b ∷ path) ≡ None
  ended b key path = seek-byte (([], key) ∷ []) b path refl refl ∙ seek-none 0 path

  -- one more row, of a word
  one-word : (same : Bool) (word : List ℕ) (key : K) (rows : RowsOf K) (path : List ℕ) (other : Option K)
      → seek 0 ((word, key) ∷ rows) path ≡ cond (bytes_eq path word) (Some key) (seek 0 rows path)
      → or_else (seek 0 (cond same ((word, key) ∷ rows) rows) path) other ≡ cond (same && bytes_eq path word) (Some key) (or_else (seek 0 rows path) other)
  one-word true word key rows path other found =
      rw found
      (elim (bytes_eq path word) as (λ is. or_else (cond is (Some key) (seek 0 rows path)) other ≡ cond is (Some key) (or_else (seek 0 rows path) other)) [ true ↦ refl | false ↦ refl ])
  one-word false word key rows path other found = refl

  abbrev pub search_by : Option K → (parameters catch_alls : RowsOf K) → ℕ → List ℕ → Option K
  search_by found parameters catch_alls b path =
      or_else found (or_else (seek ((param_step parameters (b ∷ path)).0 - 1) (param_step parameters (b ∷ path)).1 path) (own catch_alls))

  -- a path is that of the first row, a word, or of the others
  pub word-first : (word : List ℕ) (key : K) (rows : RowsOf K) (path : List ℕ) → is_word word ≡ true
      → seek 0 ((word, key) ∷ rows) path ≡ cond (bytes_eq path word) (Some key) (seek 0 rows path)
  unfolding is_word seek
  word-first [] key rows [] small = refl
  word-first [] key rows (b ∷ path) small = refl
  word-first (x ∷ word) key rows [] small = refl
  word-first (x ∷ word) key rows (b ∷ path) small =
      let parts = both (nat_lt x 256) (is_word word) small in
      let no_parameter : (x == 256) ≡ false = grind (arith, nat_tests) in
      let no_catch_all : (x == 257) ≡ false = grind (arith, nat_tests) in
      let all : RowsOf K = (x ∷ word, key) ∷ rows in
      let parameters : step param_token all ≡ step param_token rows = rw no_parameter refl in
      let catch_alls : step catch_all_token all ≡ step catch_all_token rows = rw no_catch_all refl in
      let other : Option K = or_else (seek ((param_step (step param_token rows) (b ∷ path)).0 - 1) (param_step (step param_token rows) (b ∷ path)).1 path) (own (step catch_all_token rows)) in
      seek-cons all b path
      ∙ ap (λ p. search_by (seek 0 (step b all) path) p (step catch_all_token all) b path) parameters
      ∙ ap (λ q. search_by (seek 0 (step b all) path) (step param_token rows) q b path) catch_alls
      ∙ one-word (x == b) word key (step b rows) path other (word-first word key (step b rows) path parts.1)
      ∙ ap (λ same. cond (same && bytes_eq path word) (Some key) (or_else (seek 0 (step b rows) path) other)) (turned x b)

  catch-all-byte : (key : K) (b : ℕ) (rest : List ℕ) → seek 0 ((catch_all_token ∷ [], key) ∷ []) (b ∷ rest) ≡ Some key
  unfolding seek
  catch-all-byte key b rest =
      seek-cons ((catch_all_token ∷ [], key) ∷ []) b rest
      ∙ rw (no-parameter b rest)
      (elim (catch_all_token == b) as (λ same. or_else (seek 0 (cond same (([], key) ∷ []) []) rest) (Some key) ≡ Some key) [
        | true ↦ (elim rest as (λ r. or_else (seek 0 (([], key) ∷ []) r) (Some key) ≡ Some key) [ [] ↦ refl | c ∷ r ↦ rw (ended c key r) refl ])
        | false ↦ rw (seek-none 0 rest) refl
      ])

  -- a catch-all takes at least one byte
  pub catch-all : (key : K) (rest : List ℕ) → seek 0 ((catch_all_token ∷ [], key) ∷ []) rest ≡ cond (filled rest) (Some key) None
  unfolding seek filled
  catch-all key [] = refl
  catch-all key (b ∷ rest) = catch-all-byte key b rest

  -- each row after a word
  unfoldable pub front : List ℕ → RowsOf K → RowsOf K
  front word [] = []
  front word ((t, key) ∷ rows) = (word ++ t, key) ∷ front word rows

  abbrev pub is_none : RowsOf K → Bool
  is_none [] = true
  is_none (row ∷ rows) = false

  none-is : (rows : RowsOf K) → is_none rows ≡ true → rows ≡ []
  none-is [] e = refl
  none-is (row ∷ rows) e = cc

  -- no row begins with the word, nor with a part of it after which it goes on by a parameter or a catch-all
  abbrev pub is_apart : List ℕ → RowsOf K → Bool
  is_apart [] rows = is_none rows
  is_apart (x ∷ word) rows = is_none (step param_token rows) && (is_none (step catch_all_token rows) && is_apart word (step x rows))

  front-nothing : (rows : RowsOf K) → front [] rows ++ [] ≡ rows
  unfolding front
  front-nothing [] = refl
  front-nothing ((t, key) ∷ rows) = ap (λ (others : RowsOf K). (t, key) ∷ others) (front-nothing rows)

  own-front : (x : ℕ) (word : List ℕ) (rows others : RowsOf K) → own (front (x ∷ word) rows ++ others) ≡ own others
  unfolding front
  own-front x word [] others = refl
  own-front x word ((t, key) ∷ rows) others = own-front x word rows others

  step-front : (x : ℕ) (word : List ℕ) (b : ℕ) (rows others : RowsOf K) → (x == b) ≡ true
      → step b (front (x ∷ word) rows ++ others) ≡ front word rows ++ step b others
  unfolding front
  step-front x word b [] others same = refl
  step-front x word b ((t, key) ∷ rows) others same =
      rw same (ap (λ (all : RowsOf K). (word ++ t, key) ∷ all) (step-front x word b rows others same))

  step-after : (x : ℕ) (word : List ℕ) (b : ℕ) (rows others : RowsOf K) → (x == b) ≡ false
      → step b (front (x ∷ word) rows ++ others) ≡ step b others
  unfolding front
  step-after x word b [] others other = refl
  step-after x word b ((t, key) ∷ rows) others other = rw other (step-after x word b rows others other)

  -- one byte of a word, where the paths after it are known
  front-byte : (x : ℕ) (word : List ℕ) (rows others : RowsOf K) (b : ℕ) (path : List ℕ) (test : Bool) → (x == b) ≡ test → nat_lt x 256 ≡ true
      → is_apart (x ∷ word) others ≡ true
      → ((o : RowsOf K) → is_apart word o ≡ true → seek 0 (front word rows ++ o) path ≡ option_map_or (λ rest. seek 0 rows rest) (strip word path) (seek 0 o path))
      → seek 0 (front (x ∷ word) rows ++ others) (b ∷ path) ≡ option_map_or (λ rest. seek 0 rows rest) (cond test (strip word path) None) (seek 0 others (b ∷ path))
  front-byte x word rows others b path test e small apart later =
      let first = both (is_none (step param_token others)) _ apart in
      let second = both (is_none (step catch_all_token others)) _ first.1 in
      let no_parameter : (x == 256) ≡ false = grind (arith, nat_tests) in
      let no_catch_all : (x == 257) ≡ false = grind (arith, nat_tests) in
      let parameters = none-is (step param_token others) first.0 in
      let catch_alls = none-is (step catch_all_token others) second.0 in
      let all : RowsOf K = front (x ∷ word) rows ++ others in
      seek-byte all b path (step-after x word param_token rows others no_parameter ∙ parameters) (step-after x word catch_all_token rows others no_catch_all ∙ catch_alls)
      ∙ by-test test e second.1
      ∙ ap (λ found. option_map_or (λ rest. seek 0 rows rest) (cond test (strip word path) None) found) (sym (seek-byte others b path parameters catch_alls))
    where
      by-test : (t : Bool) → (x == b) ≡ t → is_apart word (step x others) ≡ true
          → seek 0 (step b (front (x ∷ word) rows ++ others)) path
          ≡ option_map_or (λ rest. seek 0 rows rest) (cond t (strip word path) None) (seek 0 (step b others) path)
      by-test true same rest =
          let it : x ≡ b = grind (arith, nat_tests) in
          ap (λ (o : RowsOf K). seek 0 o path) (step-front x word b rows others same) ∙ later (step b others) (ap (λ (n : ℕ). is_apart word (step n others)) (sym it) ∙ rest)
      by-test false other rest = ap (λ (o : RowsOf K). seek 0 o path) (step-after x word b rows others other)

  -- a path goes on after the word, or is that of the other rows
  pub front-first : (word : List ℕ) (rows others : RowsOf K) (path : List ℕ) → is_word word ≡ true → is_apart word others ≡ true
      → seek 0 (front word rows ++ others) path ≡ option_map_or (λ rest. seek 0 rows rest) (strip word path) (seek 0 others path)
  unfolding is_word strip seek
  front-first [] rows others path small apart =
      ap (λ (o : RowsOf K). seek 0 (front [] rows ++ o) path) (none-is others apart) ∙ ap (λ (all : RowsOf K). seek 0 all path) (front-nothing rows)
  front-first (x ∷ word) rows others [] small apart = own-front x word rows others
  front-first (x ∷ word) rows others (b ∷ path) small apart =
      let parts = both (nat_lt x 256) (is_word word) small in
      front-byte x word rows others b path (x == b) refl parts.0 apart (λ o a. front-first word rows o path parts.1 a)
