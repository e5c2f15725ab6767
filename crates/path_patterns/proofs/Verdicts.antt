-- What a verdict on the rest of a list says of the list.
use Rattle.std.proofs.Common.{◌≡◌, ◌≢◌, Bool, true, false, ◌&&◌, ◌||◌, if◌then◌else◌, List, [], ◌∷◌, length, refl, ◌∙◌, arith}
use Rattle.path_patterns.specs.Matching.{one_then, run_then}
use Rattle.path_patterns.specs.Verdict.{IsVerdict}
use Rattle.path_patterns.specs.declared.verdict.Verdict.{Verdict}
use Rattle.path_patterns.specs.declared.verdict.Verdict.TheVariants.{Matches, Differs, RunsOut}

neither : (a b : Bool) → (a || b) ≡ false → (a ≡ false) × (b ≡ false)
neither true b h = cc
neither false b h = (refl, h)

pub head_of_run : {A : Type 0} (rest : List A → Bool) (xs : List A) → run_then rest xs ≡ false → rest xs ≡ false
head_of_run rest [] h = h
head_of_run rest (x ∷ xs) h = (neither _ _ h).0

pub run_of_run : {A : Type 0} (rest : List A → Bool) (xs : List A) → run_then rest xs ≡ false → run_then (run_then rest) xs ≡ false
run_of_run rest [] h = h
run_of_run rest (x ∷ xs) h = rw (h, run_of_run rest xs (neither _ _ h).1) refl

run_of_one : {A : Type 0} (test : A → Bool) (rest : List A → Bool) (xs : List A) → run_then rest xs ≡ false → run_then (one_then test rest) xs ≡ false
run_of_one test rest [] h = refl
run_of_one test rest (x ∷ xs) h =
    let more : run_then rest xs ≡ false = (neither _ _ h).1 in
    fails (test x) (rest xs) _ (head_of_run rest xs more) (run_of_one test rest xs more)
  where
    fails : (a b c : Bool) → b ≡ false → c ≡ false → (a && b || c) ≡ false
    fails true b c e f = rw (e, f) refl
    fails false b c e f = f

run_of_head : {A : Type 0} (rest : List A → Bool) (xs : List A) → rest xs ≡ true → run_then rest xs ≡ true
run_of_head rest [] h = h
run_of_head rest (x ∷ xs) h = rw h refl

-- a verdict on what is left after some front, where no longer end passes
pub by_end : {A : Type 0} (rest : List A → Bool) (xs left : List A) (v : Verdict) → run_then rest xs ≡ run_then rest left → v ≢ Differs
    → IsVerdict rest left v → IsVerdict (run_then rest) xs v
by_end rest xs left Matches e ne h = e ∙ run_of_head rest left h
by_end rest xs left Differs e ne h = absurd (ne refl)
by_end rest xs left RunsOut e ne h = run_of_run rest xs (e ∙ h)

-- no end passes, since the last one doesn't
pub by_last : {A : Type 0} (rest : List A → Bool) (xs left : List A) → run_then rest xs ≡ run_then rest left → length left ≡ 0
    → rest left ≡ false → run_then (run_then rest) xs ≡ false
by_last rest xs [] e none h = run_of_run rest xs (e ∙ h)
by_last rest xs (y ∷ ys) e none h = absurd (omega arith)

-- what a pattern's first part asks: a run, or one that the test passes
abbrev pub chosen : {A : Type 0} → Bool → (A → Bool) → (List A → Bool) → List A → Bool
chosen is_run test rest xs = if is_run then run_then rest xs else one_then test rest xs

pub by_run : {A : Type 0} (is_run : Bool) (test : A → Bool) (rest : List A → Bool) (xs : List A) (v : Verdict) → is_run ≡ true
    → IsVerdict (run_then rest) xs v → IsVerdict (chosen is_run test rest) xs v
by_run true test rest xs v e h = h
by_run false test rest xs v e h = cc

pub by_one : {A : Type 0} (is_run : Bool) (test : A → Bool) (rest : List A → Bool) (x : A) (xs : List A) (v : Verdict) → is_run ≡ false
    → test x ≡ true → IsVerdict rest xs v → IsVerdict (chosen is_run test rest) (x ∷ xs) v
by_one true test rest x xs v e t h = cc
by_one false test rest x xs Matches e t h = rw (t, h) refl
by_one false test rest x xs Differs e t h = rw (t, h) refl
by_one false test rest x xs RunsOut e t h = rw (head_of_run rest xs h, run_of_one test rest xs h) (no (test x))
  where
    no : (a : Bool) → (a && false || false) ≡ false
    no true = refl
    no false = refl
