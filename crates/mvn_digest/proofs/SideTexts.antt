-- The text of a side file is read as the digest that it was written from.
use Rattle.std.proofs.Common.{◌≡◌, ℕ, ◌<◌, ◌≤◌, ◌==◌, true, false, List, [], ◌∷◌, length, Some, IsTrue, refl, ap, arith, get_or}
use Rattle.std.specs.Prelude.{nat_eq, codes}
use Rattle.std.specs.List.{AllPass, starts_with}
use Rattle.std.proofs.lemmas.Bool.{false_from_ne_true, le-leb}
use Rattle.std.proofs.lemmas.Bool.Decides.{Decides-eqb, nat_tests}
use Rattle.std.proofs.lemmas.List.Elements.{All-head, All-tail}
use Rattle.std.proofs.lemmas.List.Splits.{slice_split_none}
use Rattle.std.proofs.lemmas.Slice.Eq.{starts_is}
use Rattle.hex.specs.Hex.{IsBytes, is_hex_digit}
use Rattle.hex.proofs.HexLemmas.{IsOk-decode_sized, decode_sized-encode_lower, length-encode_with}
use Rattle.mvn_coords.specs.FileName.{is_filled}
use Rattle.mvn_coords.specs.declared.fault.Side.{Side}
use Rattle.mvn_coords.specs.declared.fault.Side.TheVariants.{Sha1, Md5, Sha256, Sha512}
use Rattle.mvn_digest.specs.Hex.{hex_text}
use Rattle.mvn_digest.specs.Sides.{digest_size, digest_word, first_line, first_word, has_sign, is_blank, read_side}

high : (c : ℕ) → IsTrue (is_hex_digit c) → 48 ≤ c
high c h = grind (arith, nat_tests)

no_blank : (c : ℕ) → IsTrue (is_hex_digit c) → is_blank c ≡ false
no_blank c h = let k = high c h in grind (arith, nat_tests)

no_end : (c : ℕ) → IsTrue (is_hex_digit c) → (c == 10) ≡ false
no_end c h = let k = high c h in grind (arith, nat_tests)

one_line : (text : List ℕ) → AllPass is_hex_digit text → 0 < length text → first_line text ≡ Some text
one_line [] h k = absurd (omega arith)
one_line (c ∷ cs) h k =
    rw (slice_split_none (λ b. b == 10) (c ∷ cs) (λ i d l. no_end (get_or (c ∷ cs) i d) (h i d l)))
    (rw (no_blank c (All-head (λ b. IsTrue (is_hex_digit b)) c cs h)) refl)

no_start : (c : ℕ) (cs : List ℕ) → IsTrue (is_hex_digit c) → starts_with nat_eq (c ∷ cs) (codes " = ") ≡ false
no_start c cs h =
    let k = high c h in
    false_from_ne_true _ (λ t.
    let first : c ≡ 32 = ap (λ l. get_or l 0 0) ((starts_is Decides-eqb (c ∷ cs) (codes " = ") _ refl).0 t) in
    omega (arith, k, first))

no_sign : (text : List ℕ) → AllPass is_hex_digit text → has_sign text ≡ false
no_sign [] h = refl
no_sign (c ∷ cs) h =
    rw (no_start c cs (All-head (λ b. IsTrue (is_hex_digit b)) c cs h), no_sign cs (All-tail (λ b. IsTrue (is_hex_digit b)) c cs h)) refl

one_word : (text : List ℕ) → AllPass is_hex_digit text → 0 < length text → first_word text ≡ Some text
one_word [] h k = absurd (omega arith)
one_word (c ∷ cs) h k =
    let some : is_filled (c ∷ cs) ≡ true = le-leb 1 (length (c ∷ cs)) k in
    rw (slice_split_none is_blank (c ∷ cs) (λ i d l. no_blank (get_or (c ∷ cs) i d) (h i d l))) (rw some refl)

word_is : (text : List ℕ) → AllPass is_hex_digit text → 0 < length text → digest_word text ≡ Some text
word_is text h k = rw (no_sign text h) (one_word text h k)

filled : (side : Side) → 0 < digest_size side
filled Sha1 = omega arith
filled Md5 = omega arith
filled Sha256 = omega arith
filled Sha512 = omega arith

pub read_again : (side : Side) (digest : List ℕ) → length digest ≡ digest_size side → IsBytes digest → read_side side (hex_text digest) ≡ Some digest
read_again side digest e bytes =
    let text = hex_text digest in
    let decoded = decode_sized-encode_lower digest (digest_size side) e bytes in
    let digits = ((IsOk-decode_sized text (digest_size side)).0 (rw decoded refl)).1 in
    let long : 0 < length text = omega (arith, length-encode_with, filled side, e) in
    rw (one_line text digits long, word_is text digits long, decoded) refl
