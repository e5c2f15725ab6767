-- Bytes cut at a byte that they do not have.
use Rattle.std.proofs.Common.{◌≡◌, ◌≢◌, ℕ, ◌+◌, Bool, true, false, eqb, IsTrue, List, [], ◌∷◌, ◌++◌, length, take, drop, refl, ap, ◌∙◌, arith, append-nil}
use Rattle.std.specs.Prelude.{◌==◌}
use Rattle.std.specs.List.{AllByRecursion, list_any, position_or_len}
use Rattle.std.proofs.Math.Seq.{drop-append-add, take-append_seam}
use Rattle.std.proofs.lemmas.Bool.{eq-eqb, ne_eqb}
use Rattle.std.proofs.lemmas.List.{take_all}
use Rattle.std.proofs.lemmas.List.Elements.{All-from_recursion, All-head, All-tail}
use Rattle.std.proofs.lemmas.List.Splits.{slice_split_at}
use Rattle.httparse.specs.Grammar.{AllPass, LineEnd, crlf, lf, print_end}
use Rattle.http_wire.specs.Head.{after, before, end_of, lines_of}

-- the byte c is not among the bytes
abbrev pub Lacks : ℕ → List ℕ → Type 0
Lacks c bytes = AllByRecursion (λ b. b ≢ c) bytes

-- bytes of a class to which c doesn't belong
pub Lacks-from_pass : (test : ℕ → Bool) (c : ℕ) → test c ≡ false → (bytes : List ℕ) → AllPass test bytes → Lacks c bytes
Lacks-from_pass test c fails [] pass = tt
Lacks-from_pass test c fails (b ∷ bytes) pass =
    let yes : test b ≡ true = All-head (λ x. IsTrue (test x)) b bytes pass in (
      λ e. let same : test b ≡ test c = ap test e in cc,
      Lacks-from_pass test c fails bytes (All-tail (λ x. IsTrue (test x)) b bytes pass),
    )

pub Lacks-append : (c : ℕ) (a b : List ℕ) → Lacks c a → Lacks c b → Lacks c (a ++ b)
Lacks-append c [] b la lb = lb
Lacks-append c (x ∷ a) b la lb = (la.0, Lacks-append c a b la.1 lb)

-- ---- cut at c

position-append : (c : ℕ) (bytes rest : List ℕ) → Lacks c bytes → position_or_len (λ b. b == c) (bytes ++ c ∷ rest) ≡ length bytes
position-append c [] rest none = rw (eq-eqb c c refl) refl
position-append c (b ∷ bytes) rest none =
    let no : eqb b c ≡ false = ne_eqb b c none.0 in rw (no, position-append c bytes rest none.1) (omega arith)

position-none : (c : ℕ) (bytes : List ℕ) → Lacks c bytes → position_or_len (λ b. b == c) bytes ≡ length bytes
position-none c [] none = refl
position-none c (b ∷ bytes) none =
    let no : eqb b c ≡ false = ne_eqb b c none.0 in rw (no, position-none c bytes none.1) (omega arith)

pub before-append : (c : ℕ) (bytes rest : List ℕ) → Lacks c bytes → before c (bytes ++ c ∷ rest) ≡ bytes
before-append c bytes rest none =
    ap (λ (n : ℕ). take n (bytes ++ c ∷ rest)) (position-append c bytes rest none) ∙ take-append_seam bytes (c ∷ rest)

pub before-none : (c : ℕ) (bytes : List ℕ) → Lacks c bytes → before c bytes ≡ bytes
before-none c bytes none =
    ap (λ (n : ℕ). take n bytes) (position-none c bytes none) ∙ take_all (length bytes) bytes (omega arith)

pub after-append : (c : ℕ) (bytes rest : List ℕ) → Lacks c bytes → after c (bytes ++ c ∷ rest) ≡ rest
after-append c bytes rest none =
    ap (λ (n : ℕ). drop (n + 1) (bytes ++ c ∷ rest)) (position-append c bytes rest none) ∙ drop-append-add bytes (c ∷ rest) 1

-- ---- the end of a line

-- what stands before the line feed of an end
abbrev pub return_of : LineEnd → List ℕ
return_of crlf = 13 ∷ []
return_of lf = []

pub print_end-return : (end : LineEnd) (rest : List ℕ) → print_end end ++ rest ≡ return_of end ++ 10 ∷ rest
print_end-return crlf rest = refl
print_end-return lf rest = refl

pub before-return : (bytes : List ℕ) (end : LineEnd) → Lacks 13 bytes → before 13 (bytes ++ return_of end) ≡ bytes
before-return bytes crlf none = before-append 13 bytes [] none
before-return bytes lf none = ap (before 13) (append-nil bytes) ∙ before-none 13 bytes none

any-none : (bytes : List ℕ) → Lacks 13 bytes → list_any (λ b. b == 13) bytes ≡ false
any-none [] none = refl
any-none (b ∷ bytes) none = let no : eqb b 13 ≡ false = ne_eqb b 13 none.0 in rw (no, any-none bytes none.1) refl

any-return : (bytes : List ℕ) → Lacks 13 bytes → list_any (λ b. b == 13) (bytes ++ 13 ∷ []) ≡ true
any-return [] none = refl
any-return (b ∷ bytes) none = let no : eqb b 13 ≡ false = ne_eqb b 13 none.0 in rw (no, any-return bytes none.1) refl

pub end_of-return : (bytes : List ℕ) (end : LineEnd) → Lacks 13 bytes → end_of (bytes ++ return_of end) ≡ end
end_of-return bytes crlf none = rw (any-return bytes none) refl
end_of-return bytes lf none = ap end_of (append-nil bytes) ∙ rw (any-none bytes none) refl

-- the lines, from the first one on
pub lines_of-append : (line rest : List ℕ) → Lacks 10 line → lines_of (line ++ 10 ∷ rest) ≡ line ∷ lines_of rest
lines_of-append line rest none =
    slice_split_at (λ b. b == 10) line 10 rest
    (All-from_recursion (λ b. eqb b 10 ≡ false) line (no_feeds line none)) refl
  where
    no_feeds : (bytes : List ℕ) → Lacks 10 bytes → AllByRecursion (λ b. eqb b 10 ≡ false) bytes
    no_feeds [] none = tt
    no_feeds (b ∷ bytes) none = (ne_eqb b 10 none.0, no_feeds bytes none.1)
