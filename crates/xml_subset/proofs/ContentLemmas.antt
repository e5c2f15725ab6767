-- The documents that are read are the trees that the tokens write.
use Rattle.std.proofs.Common.{ℕ, zero, suc, ◌≡◌, ◌+◌, ◌∙◌, ap, sym, refl, Bool, true, false, cond, ◌&&◌, List, [], ◌∷◌, ◌++◌, length, map, Option, Some, None, arith, append_assoc, nat_lt}
use Rattle.std.specs.Prelude.{bytes_eq, encode_utf8}
use Rattle.std.specs.List.{list_all}
use Rattle.std.proofs.lemmas.Bool.Decides.{nat_tests}
use Rattle.std.proofs.lemmas.List.{append-nil}
use Rattle.std.proofs.lemmas.Slice.Eq.{bytes_eq-Decides}
use Rattle.xml_subset.specs.Content.{Content, Nothing, Data, Reference, Remark, Leaf, Node, data_of, is_blank, is_document, is_within, outlined, written}
use Rattle.xml_subset.specs.Cut.{is_white, trimmed}
use Rattle.xml_subset.specs.Document.{begun_after, fault, may_stand, open_after}
use Rattle.xml_subset.specs.Element.{elements, own_text}
use Rattle.xml_subset.specs.Token.{Placed, Token, Close, End}

-- ---- the outline of a tree

own_text-inner : (k : ℕ) (f : Content) (ts : List Token) → own_text (suc k) (written f ts) ≡ own_text (suc k) ts
own_text-inner k Nothing ts = refl
own_text-inner k (Data bytes f) ts = own_text-inner k f ts
own_text-inner k (Reference c f) ts = own_text-inner k f ts
own_text-inner k (Remark f) ts = own_text-inner k f ts
own_text-inner k (Leaf name f) ts = own_text-inner k f ts
own_text-inner k (Node name g f) ts = own_text-inner (suc k) g (Close name ∷ written f ts) ∙ own_text-inner k f ts

own_text-written : (f : Content) (ts : List Token) → own_text 0 (written f ts) ≡ data_of f ++ own_text 0 ts
own_text-written Nothing ts = refl
own_text-written (Data bytes f) ts = ap (λ t. bytes ++ t) (own_text-written f ts) ∙ sym (append_assoc bytes (data_of f) (own_text 0 ts))
own_text-written (Reference c f) ts = ap (λ t. encode_utf8 c ++ t) (own_text-written f ts) ∙ sym (append_assoc (encode_utf8 c) (data_of f) (own_text 0 ts))
own_text-written (Remark f) ts = own_text-written f ts
own_text-written (Leaf name f) ts = own_text-written f ts
own_text-written (Node name g f) ts = own_text-inner 0 g (Close name ∷ written f ts) ∙ own_text-written f ts

pub elements-written : (level : ℕ) (f : Content) (ts : List Token) → elements level (written f ts) ≡ outlined level f ++ elements level ts
elements-written level Nothing ts = refl
elements-written level (Data bytes f) ts = elements-written level f ts
elements-written level (Reference c f) ts = elements-written level f ts
elements-written level (Remark f) ts = elements-written level f ts
elements-written level (Leaf name f) ts = ap (λ es. record { depth = suc level; name = name; text = [] } ∷ es) (elements-written level f ts)
elements-written level (Node name g f) ts =
    let own : own_text 0 (written g (Close name ∷ written f ts)) ≡ data_of g
    = own_text-written g (Close name ∷ written f ts) ∙ append-nil (data_of g) in
    let inside : elements (suc level) (written g (Close name ∷ written f ts)) ≡ outlined (suc level) g ++ elements level (written f ts)
    = elements-written (suc level) g (Close name ∷ written f ts) ∙ ap (λ n. outlined (suc level) g ++ elements n (written f ts)) (omega arith) in
    (λ i. record { depth = suc level; name = name; text = trimmed (own i) } ∷ inside i)
    ∙ ap (λ es. record { depth = suc level; name = name; text = trimmed (data_of g) } ∷ es)
    (ap (λ es. outlined (suc level) g ++ es) (elements-written level f ts) ∙ sym (append_assoc (outlined (suc level) g) (outlined level f) (elements level ts)))

-- ---- tokens that may stand one after the other

abbrev pub accepted : List ℕ → List (List ℕ) → Bool → List Token → Bool
accepted root ns b [] = true
accepted root ns b (t ∷ ts) = may_stand root ns b t && accepted root (open_after ns t) (begun_after b t) ts

no_place : {A : Type 0} (b : Bool) (o : Option A) (x : A) → cond b o (Some x) ≡ None → (b ≡ true) × (o ≡ None)
no_place true o x e = (refl, e)
no_place false o x e = absurd cc

both : (a b : Bool) → a ≡ true → b ≡ true → (a && b) ≡ true
both a b e f = ap (λ a. a && b) e ∙ f

pub parts : (a b : Bool) → (a && b) ≡ true → (a ≡ true) × (b ≡ true)
parts true b e = (refl, e)
parts false b e = absurd cc

pub faultless : (root : List ℕ) (ns : List (List ℕ)) (b : Bool) (ps : List Placed) → fault root ns b ps ≡ None → accepted root ns b (map (λ p. p.token) ps) ≡ true
faultless root ns b [] e = refl
faultless root ns b (p ∷ ps) e =
    let h = no_place (may_stand root ns b p.token) (fault root (open_after ns p.token) (begun_after b p.token) ps) p.left e in
    both (may_stand root ns b p.token) _ h.0 (faultless root (open_after ns p.token) (begun_after b p.token) ps h.1)

pub accepted_faultless : (root : List ℕ) (ns : List (List ℕ)) (b : Bool) (ps : List Placed) → accepted root ns b (map (λ p. p.token) ps) ≡ true → fault root ns b ps ≡ None
accepted_faultless root ns b [] e = refl
accepted_faultless root ns b (p ∷ ps) e =
    let h = parts (may_stand root ns b p.token) _ e in
    ap (λ t. cond t (fault root (open_after ns p.token) (begun_after b p.token) ps) (Some p.left)) h.0
    ∙ accepted_faultless root (open_after ns p.token) (begun_after b p.token) ps h.1

-- ---- the tokens of a tree

same_name : (name : List ℕ) → bytes_eq name name ≡ true
same_name name = (bytes_eq-Decides name name).1 refl

and_assoc : (a b c : Bool) → (a && (b && c)) ≡ ((a && b) && c)
and_assoc true b c = refl
and_assoc false b c = refl

room_left : (n levels : ℕ) → n + suc levels ≡ 32 → nat_lt n 32 ≡ true
room_left n levels e = grind (arith, nat_tests)

no_room : (n : ℕ) → n + 0 ≡ 32 → nat_lt n 32 ≡ false
no_room n e = grind (arith, nat_tests)

-- inside an element
accepted-content : (root n : List ℕ) (ns : List (List ℕ)) (levels : ℕ) (f : Content) (ts : List Token) → length (n ∷ ns) + levels ≡ 32 → accepted root (n ∷ ns) true (written f ts) ≡ (is_within levels f && accepted root (n ∷ ns) true ts)
accepted-content root n ns levels Nothing ts h = refl
accepted-content root n ns levels (Data bytes f) ts h = accepted-content root n ns levels f ts h
accepted-content root n ns levels (Reference c f) ts h = accepted-content root n ns levels f ts h
accepted-content root n ns levels (Remark f) ts h = accepted-content root n ns levels f ts h
accepted-content root n ns zero (Leaf name f) ts h =
    ap (λ b. b && accepted root (n ∷ ns) true (written f ts)) (no_room (length (n ∷ ns)) h)
accepted-content root n ns (suc levels) (Leaf name f) ts h =
    ap (λ b. b && accepted root (n ∷ ns) true (written f ts)) (room_left (length (n ∷ ns)) levels h)
    ∙ accepted-content root n ns (suc levels) f ts h
accepted-content root n ns zero (Node name g f) ts h =
    ap (λ b. b && accepted root (name ∷ n ∷ ns) true (written g (Close name ∷ written f ts))) (no_room (length (n ∷ ns)) h)
accepted-content root n ns (suc levels) (Node name g f) ts h =
    ap (λ b. b && accepted root (name ∷ n ∷ ns) true (written g (Close name ∷ written f ts))) (room_left (length (n ∷ ns)) levels h)
    ∙ accepted-content root name (n ∷ ns) levels g (Close name ∷ written f ts) (omega arith)
    ∙ ap (λ b. is_within levels g && (b && accepted root (n ∷ ns) true (written f ts))) (same_name name)
    ∙ ap (λ b. is_within levels g && b) (accepted-content root n ns (suc levels) f ts h)
    ∙ and_assoc (is_within levels g) (is_within (suc levels) f) (accepted root (n ∷ ns) true ts)

-- after the root
accepted-blank : (root : List ℕ) (f : Content) → accepted root [] true (written f (End ∷ [])) ≡ is_blank f
accepted-blank root Nothing = refl
accepted-blank root (Data bytes f) = ap (λ b. list_all is_white bytes && b) (accepted-blank root f)
accepted-blank root (Reference c f) = refl
accepted-blank root (Remark f) = accepted-blank root f
accepted-blank root (Leaf name f) = refl
accepted-blank root (Node name g f) = refl

pub accepted-document : (root : List ℕ) (d : Content) → accepted root [] false (written d (End ∷ [])) ≡ is_document root d
accepted-document root Nothing = refl
accepted-document root (Data bytes f) = ap (λ b. list_all is_white bytes && b) (accepted-document root f)
accepted-document root (Reference c f) = refl
accepted-document root (Remark f) = accepted-document root f
accepted-document root (Leaf name f) = ap (λ b. bytes_eq name root && b) (accepted-blank root f)
accepted-document root (Node name g f) =
    ap (λ b. bytes_eq name root && b)
    (accepted-content root name [] 31 g (Close name ∷ written f (End ∷ [])) refl
    ∙ ap (λ b. is_within 31 g && (b && accepted root [] true (written f (End ∷ [])))) (same_name name)
    ∙ ap (λ b. is_within 31 g && b) (accepted-blank root f))
