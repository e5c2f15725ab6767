-- A text that is written piece by piece.
use Rattle.std.proofs.Common.{◌≡◌, ℕ, Bool, true, false, List, [], ◌∷◌, ◌++◌, Option, Some, None, refl, sym, ap, ◌∙◌, subst, append_assoc, append-nil}
use Rattle.std.specs.List.{flat_map}
use Rattle.mvn_metadata.specs.Merge.{Entry}
use Rattle.mvn_doc.specs.Sheet.{Adds, Gains}
use Rattle.mvn_metadata.specs.Written.{block, entries_lines, entry_lines, version_line, version_lines}
use Rattle.std.specs.Prelude.{codes}

two_gained : (a b c : Option (List ℕ)) (s t : List ℕ) → Gains a b s → Gains b c t → Gains a c (s ++ t)
two_gained a b None s t p q = tt
two_gained None None (Some z) s t p q = absurd q
two_gained (Some x) None (Some z) s t p q = absurd q
two_gained None (Some y) (Some z) s t p q = absurd p
two_gained (Some x) (Some y) (Some z) s t p q = q ∙ ap (λ o. o ++ t) p ∙ append_assoc x s t

none_gained : (a : Option (List ℕ)) → Gains a a []
none_gained None = tt
none_gained (Some x) = sym (append-nil x)

-- two pieces, one after another
pub then : {a b c : Option (List ℕ)} {s t : List ℕ} → Adds a b s → Adds b c t → Adds a c (s ++ t)
then {a} {b} {c} {s} {t} p q = record { gains = two_gained a b c s t p.gains q.gains }

pub nothing : (a : Option (List ℕ)) → Adds a a []
nothing a = record { gains = none_gained a }

-- a piece that is the same as another
pub same : {a b : Option (List ℕ)} {s t : List ℕ} → s ≡ t → Adds a b s → Adds a b t
same {a} {b} {s} {t} e p = subst (λ u. Adds a b u) e p

-- lines that are left to write, one written
pub one_more : {A : Type 0} (f : A → List ℕ) (begun out new : Option (List ℕ)) (x : A) (left rest all : List A) → left ≡ x ∷ rest → Adds out new (f x) → ((end : Option (List ℕ)) → Adds out end (flat_map f left) → Adds begun end (flat_map f all)) → (end : Option (List ℕ)) → Adds new end (flat_map f rest) → Adds begun end (flat_map f all)
one_more f begun out new x left rest all is made left_over end p =
    left_over end (same (ap (λ l. flat_map f l) (sym is)) (then made p))

pub versions_block : (vs : List (List ℕ)) (b : Bool) {begun end : Option (List ℕ)} → b ≡ false → (vs ≡ [] → b ≡ true) → Adds begun end (block (codes "    ") (codes "versions") (flat_map version_line vs)) → Adds begun end (version_lines vs)
versions_block [] b f t p = absurd (let e : true ≡ false = sym (t refl) ∙ f in cc)
versions_block (v ∷ vs) b f t p = p

pub entries_block : (es : List Entry) (b : Bool) {begun end : Option (List ℕ)} → b ≡ false → (es ≡ [] → b ≡ true) → Adds begun end (block (codes "    ") (codes "snapshotVersions") (flat_map entry_lines es)) → Adds begun end (entries_lines es)
entries_block [] b f t p = absurd (let e : true ≡ false = sym (t refl) ∙ f in cc)
entries_block (e ∷ es) b f t p = p

-- a piece, and another that ends a line
pub line_end : {a b c : Option (List ℕ)} {s : List ℕ} (t u : List ℕ) → Adds a b s → Adds b c (t ++ u) → Adds a c (s ++ t ++ u)
line_end {a} {b} {c} {s} t u p q = same (sym (append_assoc s t u)) (then p q)
