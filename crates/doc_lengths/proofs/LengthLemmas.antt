-- Lengths of lines, and of counts that stay at their greatest value.
use native.Mathlib.Omega.{arith}
use Rattle.std.proofs.Common.{◌≡◌, ℕ, suc, ◌+◌, ◌≤◌, ◌<◌, ◌^◌, Bool, true, false, List, [], ◌∷◌, ◌++◌, length, refl, sym, ◌∙◌, ap}
use Rattle.std.specs.Prelude.{codes}
use Rattle.std.specs.List.{flat_map}
use Rattle.std.proofs.lemmas.Bool.{false≢true}
use Rattle.mvn_coords.specs.Civil.{CivilTime, text_of_time}
use Rattle.std.proofs.lemmas.List.{length-append}
use Rattle.mvn_metadata.specs.Document.{Document}
use Rattle.mvn_metadata.specs.Merge.{Entry}
use Rattle.mvn_metadata.specs.Written.{block, classifier_line, close_tag, declaration, element, element_if, entries_lines, entry_lines, listing_lines, moment_text, open_tag, text, version_line, version_lines}
use Rattle.doc_lengths.specs.Counts.{counted}

length-open : (name : List ℕ) → length (open_tag name) ≡ length name + 2
length-open name =
    let x : length (open_tag name) ≡ suc (length (name ++ 62 ∷ [])) = refl in
    let y : length (name ++ 62 ∷ []) ≡ length name + 1 = length-append name (62 ∷ []) in
    omega (arith, x, y)

length-close : (name : List ℕ) → length (close_tag name) ≡ length name + 3
length-close name =
    let x : length (close_tag name) ≡ suc (suc (length (name ++ 62 ∷ []))) = refl in
    let y : length (name ++ 62 ∷ []) ≡ length name + 1 = length-append name (62 ∷ []) in
    omega (arith, x, y)

pub length-element : (margin name value : List ℕ) → length (element margin name value) ≡ length value + (length margin + length name + length name + 6)
length-element margin name value =
    let h4 : length (element margin name value) ≡ length (margin ++ open_tag name ++ value ++ close_tag name) + 1 = length-append (margin ++ open_tag name ++ value ++ close_tag name) (10 ∷ []) in
    let h3 : length (margin ++ open_tag name ++ value ++ close_tag name) ≡ length (margin ++ open_tag name ++ value) + length (close_tag name) = length-append (margin ++ open_tag name ++ value) (close_tag name) in
    let h2 : length (margin ++ open_tag name ++ value) ≡ length (margin ++ open_tag name) + length (value) = length-append (margin ++ open_tag name) (value) in
    let h1 : length (margin ++ open_tag name) ≡ length (margin) + length (open_tag name) = length-append (margin) (open_tag name) in
    let o = length-open name in
    let e = length-close name in
    omega (arith, h1, h2, h3, h4, o, e)

pub length-block : (margin name lines : List ℕ) → length (block margin name lines) ≡ length lines + (length margin + length margin + length name + length name + 7)
length-block margin name lines =
    let b0 : length (block margin name lines) ≡ length (margin ++ open_tag name ++ 10 ∷ [] ++ lines) + length (margin ++ close_tag name ++ 10 ∷ []) = length-append ((margin ++ open_tag name ++ 10 ∷ []) ++ lines) (margin ++ close_tag name ++ 10 ∷ []) in
    let b1 : length (margin ++ open_tag name ++ 10 ∷ [] ++ lines) ≡ length (margin ++ open_tag name ++ 10 ∷ []) + length lines = length-append (margin ++ open_tag name ++ 10 ∷ []) lines in
    let h12 : length (margin ++ open_tag name ++ 10 ∷ []) ≡ length (margin ++ open_tag name) + 1 = length-append (margin ++ open_tag name) (10 ∷ []) in
    let h11 : length (margin ++ open_tag name) ≡ length (margin) + length (open_tag name) = length-append (margin) (open_tag name) in
    let h22 : length (margin ++ close_tag name ++ 10 ∷ []) ≡ length (margin ++ close_tag name) + 1 = length-append (margin ++ close_tag name) (10 ∷ []) in
    let h21 : length (margin ++ close_tag name) ≡ length (margin) + length (close_tag name) = length-append (margin) (close_tag name) in
    let o = length-open name in
    let e = length-close name in
    omega (arith, b0, b1, h11, h12, h21, h22, o, e)

-- ---- lines one after another
pub one-more : {A : Type 0} (f : A → List ℕ) (s e t total : ℕ) (x : A) (left rest : List A) → left ≡ x ∷ rest → e ≡ counted (length (f x)) → t ≡ counted (s + e)
    → counted (s + length (flat_map f left)) ≡ total → counted (t + length (flat_map f rest)) ≡ total
one-more f s e t total x left rest is made sum before =
    let parts : length (flat_map f left) ≡ length (f x) + length (flat_map f rest) = ap (λ l. length (flat_map f l)) is ∙ length-append (f x) (flat_map f rest) in
    omega (arith, made, sum, before, parts)

pub all-counted : {A : Type 0} (f : A → List ℕ) (s total : ℕ) (left : List A) → left ≡ [] → s ≤ 18446744073709551615 → counted (s + length (flat_map f left)) ≡ total → s ≡ total
all-counted f s total left is fits before =
    let none : length (flat_map f left) ≡ 0 = ap (λ l. length (flat_map f l)) is in
    omega (arith, none, fits, before)

pub classifier-so : (n r : ℕ) → n < 2 ^ 64 → (n ≡ 0 → ⊥)
    → ((m nm v : List ℕ) → length m ≡ 8 → length nm ≡ 10 → counted (length v) ≡ n → r ≡ counted (length (element m nm v)))
    → (c : List ℕ) → length c ≡ n → r ≡ counted (length (classifier_line c))
classifier-so n r fits other made [] is = absurd (other (sym is))
classifier-so n r fits other made (b ∷ bs) is = made (codes "        ") (codes "classifier") (b ∷ bs) refl refl (omega (arith, is, fits))

pub length-moment : (t : CivilTime) → length (moment_text t) ≡ 14
length-moment t = refl

pub length-time : (t : CivilTime) → length (text_of_time t) ≡ 15
length-time t = refl

-- lines, and others after them
pub both : (a b : List ℕ) (x y r : ℕ) → x ≡ counted (length a) → y ≡ counted (length b) → r ≡ counted (x + y) → r ≡ counted (length (a ++ b))
both a b x y r is is' sum = let p = length-append a b in omega (arith, is, is', sum, p)

pub versions-so : (vs : List (List ℕ)) (b : Bool) (r : ℕ) → b ≡ false → (vs ≡ [] → b ≡ true) → r ≡ counted (length (block (codes "    ") (codes "versions") (flat_map version_line vs)))
    → r ≡ counted (length (version_lines vs))
versions-so [] b r f t is = absurd (false≢true (sym f ∙ t refl))
versions-so (v ∷ vs) b r f t is = is

pub entries-so : (es : List Entry) (b : Bool) (r : ℕ) → b ≡ false → (es ≡ [] → b ≡ true) → r ≡ counted (length (block (codes "    ") (codes "snapshotVersions") (flat_map entry_lines es)))
    → r ≡ counted (length (entries_lines es))
entries-so [] b r f t is = absurd (false≢true (sym f ∙ t refl))
entries-so (e ∷ es) b r f t is = is

-- the version of a build
pub value-so : (base build : List ℕ) (x y r s : ℕ) → x ≡ counted (length base) → y ≡ counted (length build) → r ≡ counted (x + 1) → s ≡ counted (r + y) → counted (length (base ++ 45 ∷ build)) ≡ s
value-so base build x y r s is is' one sum = let p = length-append base (45 ∷ build) in omega (arith, is, is', one, sum, p)

length-parts : (front root g a l end : List ℕ)
    → length (front ++ root ++ 10 ∷ [] ++ g ++ a ++ l ++ end ++ 10 ∷ []) ≡ length front + length root + 1 + length g + length a + length l + length end + 1
length-parts front root g a l end =
    let h7 : length (front ++ root ++ 10 ∷ [] ++ g ++ a ++ l ++ end ++ 10 ∷ []) ≡ length (front ++ root ++ 10 ∷ [] ++ g ++ a ++ l ++ end) + 1 = length-append (front ++ root ++ 10 ∷ [] ++ g ++ a ++ l ++ end) (10 ∷ []) in
    let h6 : length (front ++ root ++ 10 ∷ [] ++ g ++ a ++ l ++ end) ≡ length (front ++ root ++ 10 ∷ [] ++ g ++ a ++ l) + length (end) = length-append (front ++ root ++ 10 ∷ [] ++ g ++ a ++ l) (end) in
    let h5 : length (front ++ root ++ 10 ∷ [] ++ g ++ a ++ l) ≡ length (front ++ root ++ 10 ∷ [] ++ g ++ a) + length (l) = length-append (front ++ root ++ 10 ∷ [] ++ g ++ a) (l) in
    let h4 : length (front ++ root ++ 10 ∷ [] ++ g ++ a) ≡ length (front ++ root ++ 10 ∷ [] ++ g) + length (a) = length-append (front ++ root ++ 10 ∷ [] ++ g) (a) in
    let h3 : length (front ++ root ++ 10 ∷ [] ++ g) ≡ length (front ++ root ++ 10 ∷ []) + length (g) = length-append (front ++ root ++ 10 ∷ []) (g) in
    let h2 : length (front ++ root ++ 10 ∷ []) ≡ length (front ++ root) + 1 = length-append (front ++ root) (10 ∷ []) in
    let h1 : length (front ++ root) ≡ length (front) + length (root) = length-append (front) (root) in
    omega (arith, h1, h2, h3, h4, h5, h6, h7)

sums : (whole front root end g a l x y z r s t : ℕ) → whole ≡ front + root + 1 + g + a + l + end + 1 → front ≡ 39 → root ≡ 31 → end ≡ 11
    → x ≡ counted g → y ≡ counted a → z ≡ counted l → r ≡ counted (x + y) → s ≡ counted (r + z) → t ≡ counted (s + 83) → t ≡ counted whole
sums whole front root end g a l x y z r s t is f o e gs az ls one two all = omega (arith, is, f, o, e, gs, az, ls, one, two, all)

pub text-so : (d : Document) (x y z r s t : ℕ) → x ≡ counted (length (element_if (codes "  ") (codes "groupId") d.group)) → y ≡ counted (length (element_if (codes "  ") (codes "artifactId") d.artifact))
    → z ≡ counted (length (listing_lines d.listing)) → r ≡ counted (x + y) → s ≡ counted (r + z) → t ≡ counted (s + 83) → t ≡ counted (length (text d))
text-so d x y z r s t gs az ls one two all =
    sums (length (text d)) 39 31 11 (length (element_if (codes "  ") (codes "groupId") d.group)) (length (element_if (codes "  ") (codes "artifactId") d.artifact)) (length (listing_lines d.listing)) x y z r s t
    (length-parts declaration (codes "<metadata modelVersion=\"1.1.0\">") (element_if (codes "  ") (codes "groupId") d.group) (element_if (codes "  ") (codes "artifactId") d.artifact) (listing_lines d.listing) (close_tag (codes "metadata")))
    refl refl refl gs az ls one two all
