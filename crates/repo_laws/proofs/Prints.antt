-- Fingerprints are compared in full.
use Rattle.std.proofs.Common.{◌≡◌, ℕ, true, List, refl, subst, eqb-true}
use Rattle.std.specs.Prelude.{◌==◌, ◌↔◌, ◌&&◌, Bool, IsTrue}
use Rattle.std.specs.Str.{bytes_eq}
use Rattle.std.proofs.lemmas.Bool.{and_parts, and_from, eq-eqb}
use Rattle.std.proofs.lemmas.Slice.Eq.{bytes_eq-Decides}
use Rattle.mvn_digest.specs.declared.digests.Digests.{Digests}
use Rattle.repo_model.specs.declared.print.Print.{Print}
use Rattle.repo_model.specs.Data.{is_same_print}

digests_of_parts : (s t m n a b c d : List ℕ) → s ≡ t → m ≡ n → a ≡ b → c ≡ d →
    let first : Digests = record { sha1 = s; md5 = m; sha256 = a; sha512 = c } in
    let second : Digests = record { sha1 = t; md5 = n; sha256 = b; sha512 = d } in first ≡ second
digests_of_parts s t m n a b c d sha1 md5 sha256 sha512 = cc

print_of_parts : (k l : ℕ) (c d : Digests) → k ≡ l → c ≡ d →
    let first : Print = record { length = k; digests = c } in let second : Print = record { length = l; digests = d } in first ≡ second
print_of_parts k l c d length digests = cc

abbrev is_same_digests : Digests → Digests → Bool
is_same_digests a b =
    bytes_eq a.sha1 b.sha1 && (bytes_eq a.md5 b.md5 && (bytes_eq a.sha256 b.sha256 && bytes_eq a.sha512 b.sha512))

same_digests : (a b : Digests) → is_same_digests a b ≡ true → a ≡ b
same_digests a b same =
    let first = and_parts (bytes_eq a.sha1 b.sha1) (bytes_eq a.md5 b.md5 && (bytes_eq a.sha256 b.sha256 && bytes_eq a.sha512 b.sha512)) same in
    let second = and_parts (bytes_eq a.md5 b.md5) (bytes_eq a.sha256 b.sha256 && bytes_eq a.sha512 b.sha512) first.1 in
    let third = and_parts (bytes_eq a.sha256 b.sha256) (bytes_eq a.sha512 b.sha512) second.1 in
    digests_of_parts a.sha1 b.sha1 a.md5 b.md5 a.sha256 b.sha256 a.sha512 b.sha512
    ((bytes_eq-Decides a.sha1 b.sha1).0 first.0) ((bytes_eq-Decides a.md5 b.md5).0 second.0)
    ((bytes_eq-Decides a.sha256 b.sha256).0 third.0) ((bytes_eq-Decides a.sha512 b.sha512).0 third.1)

same_print : (a b : Print) → is_same_print a b ≡ true → a ≡ b
same_print a b same =
    let parts = and_parts (a.length == b.length) (is_same_digests a.digests b.digests) same in
    print_of_parts a.length b.length a.digests b.digests (eqb-true a.length b.length parts.0) (same_digests a.digests b.digests parts.1)

itself : (bytes : List ℕ) → bytes_eq bytes bytes ≡ true
itself bytes = (bytes_eq-Decides bytes bytes).1 refl

is_same_digests-itself : (a : Digests) → is_same_digests a a ≡ true
is_same_digests-itself a =
    and_from (bytes_eq a.sha1 a.sha1) (bytes_eq a.md5 a.md5 && (bytes_eq a.sha256 a.sha256 && bytes_eq a.sha512 a.sha512)) (itself a.sha1)
    (and_from (bytes_eq a.md5 a.md5) (bytes_eq a.sha256 a.sha256 && bytes_eq a.sha512 a.sha512) (itself a.md5)
    (and_from (bytes_eq a.sha256 a.sha256) (bytes_eq a.sha512 a.sha512) (itself a.sha256) (itself a.sha512)))

is_same_print-itself : (a : Print) → is_same_print a a ≡ true
is_same_print-itself a =
    and_from (a.length == a.length) (is_same_digests a.digests a.digests) (eq-eqb a.length a.length refl) (is_same_digests-itself a.digests)

pub prints-compare : (a b : Print) → IsTrue (is_same_print a b) ↔ (a ≡ b)
prints-compare a b = (same_print a b, λ same. subst (λ (p : Print). is_same_print a p ≡ true) same (is_same_print-itself a))
