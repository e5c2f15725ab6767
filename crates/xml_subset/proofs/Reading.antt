-- A text is read token by token.
use Rattle.std.proofs.Common.{ℕ, zero, suc, ◌≡◌, ◌<◌, ◌≤◌, ◌-◌, ◌∙◌, ap, sym, refl, subst, Bool, true, false, cond, List, [], ◌∷◌, ◌++◌, length, map, Option, Some, None, Result, Ok, Err, arith}
use Rattle.std.specs.Option.{option_map_or}
use Rattle.std.proofs.lemmas.List.{append-nil}
use Rattle.xml_subset.specs.declared.document.XmlFault.{XmlFault}
use Rattle.xml_subset.specs.declared.document.XmlFault.TheVariants.{Malformed}
use Rattle.xml_subset.specs.declared.tree.Tree.{Tree}
use Rattle.xml_subset.specs.Document.{IsFaultOf, begun_after, fault, judged, may_stand, open_after, outline_after}
use Rattle.xml_subset.specs.Element.{Element, elements}
use Rattle.xml_subset.specs.Token.{Cut, Placed, Token, End, broken, first_token, tokens, tokens_within}
use Rattle.xml_subset.specs.Tree.{Takes, begun, completed, has_begun, names, with_rest}
use Rattle.xml_subset.proofs.Shorter.{CutAtMost, first_token_shorter}

same_next : (n : ℕ) (o : Option Cut) (f g : Cut → List Placed) (d : List Placed) → CutAtMost n o → ((x : Cut) → length x.1 ≤ n → f x ≡ g x) → option_map_or f o d ≡ option_map_or g o d
same_next n None f g d h k = refl
same_next n (Some x) f g d h k = k x h

-- more tokens than bytes make no difference
tokens-same : (m n : ℕ) (text : List ℕ) → length text ≤ m → length text ≤ n → tokens_within m text ≡ tokens_within n text
tokens-same zero zero text h k = refl
tokens-same zero (suc n) [] h k = refl
tokens-same (suc m) zero [] h k = refl
tokens-same (suc m) (suc n) [] h k = refl
tokens-same zero (suc n) (c ∷ text) h k = absurd (omega arith)
tokens-same (suc m) zero (c ∷ text) h k = absurd (omega arith)
tokens-same (suc m) (suc n) (c ∷ text) h k =
    same_next (length text) (first_token (c ∷ text)) _ _ (broken (c ∷ text) ∷ []) (first_token_shorter c text)
    (λ cut le. ap (λ ps. record { left = length (c ∷ text); token = cut.0 } ∷ ps) (tokens-same m n cut.1 (omega arith) (omega arith)))

cut_at_most : (n : ℕ) (o : Option Cut) (cut : Cut) → o ≡ Some cut → CutAtMost n o → length cut.1 ≤ n
cut_at_most n None cut e h = absurd cc
cut_at_most n (Some x) cut e h = let same : x ≡ cut = cc in omega (arith, ap (λ (c : Cut). length c.1) same)

no_first : (cut : Cut) → first_token [] ≡ Some cut → ⊥
unfolding first_token
no_first cut e = cc

pub first_token_less : (text : List ℕ) (cut : Cut) → first_token text ≡ Some cut → length cut.1 < length text
first_token_less [] cut e = absurd (no_first cut e)
first_token_less (c ∷ text) cut e = omega (arith, cut_at_most (length text) (first_token (c ∷ text)) cut e (first_token_shorter c text))

-- one more token
pub tokens-more : (text : List ℕ) (cut : Cut) → first_token text ≡ Some cut → tokens text ≡ record { left = length text; token = cut.0 } ∷ tokens cut.1
tokens-more [] cut e = absurd (no_first cut e)
tokens-more (c ∷ text) cut e =
    ap (λ o. option_map_or (λ (cut : Cut). record { left = length (c ∷ text); token = cut.0 } ∷ tokens_within (length text) cut.1) o (broken (c ∷ text) ∷ [])) e
    ∙ ap (λ ps. record { left = length (c ∷ text); token = cut.0 } ∷ ps)
    (tokens-same (length text) (length cut.1) cut.1 (omega (arith, first_token_less (c ∷ text) cut e)) (omega arith))

-- ---- faults

stands : (root : List ℕ) (ns : List (List ℕ)) (b : Bool) (p : Placed) (ps : List Placed) → may_stand root ns b p.token ≡ true → fault root ns b (p ∷ ps) ≡ fault root (open_after ns p.token) (begun_after b p.token) ps
stands root ns b p ps e = ap (λ t. cond t (fault root (open_after ns p.token) (begun_after b p.token) ps) (Some p.left)) e

falls : (root : List ℕ) (ns : List (List ℕ)) (b : Bool) (p : Placed) (ps : List Placed) → may_stand root ns b p.token ≡ false → fault root ns b (p ∷ ps) ≡ Some p.left
falls root ns b p ps e = ap (λ t. cond t (fault root (open_after ns p.token) (begun_after b p.token) ps) (Some p.left)) e

-- the fault of the tree's rest
abbrev pub fault_after : List ℕ → Tree → List ℕ → Option ℕ
fault_after root t rest = fault root (names t.open.items) (has_begun (begun t)) (tokens rest)

abbrev pub tokens_of : List ℕ → List Token
tokens_of text = map (λ p. p.token) (tokens text)

-- a token is taken
pub fault_taken : (root : List ℕ) (old new : Tree) (rest : List ℕ) (cut : Cut) → first_token rest ≡ Some cut → may_stand root (names old.open.items) (has_begun (begun old)) cut.0 ≡ true → Takes old new cut.0 → fault_after root new cut.1 ≡ fault_after root old rest
fault_taken root old new rest cut e may takes =
    (λ i. fault root (takes.names i) (takes.begun i) (tokens cut.1))
    ∙ sym (ap (fault root (names old.open.items) (has_begun (begun old))) (tokens-more rest cut e)
    ∙ stands root (names old.open.items) (has_begun (begun old)) (record { left = length rest; token = cut.0 }) (tokens cut.1) may)

pub elements_taken : (old new : Tree) (rest : List ℕ) (cut : Cut) → first_token rest ≡ Some cut → Takes old new cut.0 → with_rest new (tokens_of cut.1) ≡ with_rest old (tokens_of rest)
elements_taken old new rest cut e takes =
    takes.elements (tokens_of cut.1) ∙ sym (ap (λ ps. with_rest old (map (λ p. p.token) ps)) (tokens-more rest cut e))

-- ---- what is read in all

pub read_fault : (root text body : List ℕ) (left : ℕ) → fault root [] false (tokens body) ≡ Some left → outline_after root text (Some body) ≡ Err (length text - left)
read_fault root text body left e = ap (judged (length text) (tokens body)) e

-- a whole tree at the end
pub read_whole : (root text body rest : List ℕ) (t : Tree) → length rest ≡ 0 → t.open.items ≡ [] → may_stand root (names t.open.items) (has_begun (begun t)) End ≡ true
    → fault_after root t rest ≡ fault root [] false (tokens body) → with_rest t (tokens_of rest) ≡ elements 0 (tokens_of body)
    → outline_after root text (Some body) ≡ Ok (begun t)
read_whole root text body [] t ends closed may faults same =
    ap (judged (length text) (tokens body))
    (sym faults ∙ stands root (names t.open.items) (has_begun (begun t)) (record { left = 0; token = End }) [] may)
    ∙ ap Ok (sym same ∙ (λ i. completed (closed i) (End ∷ []) (begun t) ++ []) ∙ append-nil (begun t))
read_whole root text body (c ∷ rest) t ends closed may faults same = absurd (omega arith)

-- a tree that is not whole at the end
pub read_unfinished : (root text body rest : List ℕ) (t : Tree) → length rest ≡ 0 → may_stand root (names t.open.items) (has_begun (begun t)) End ≡ false
    → fault_after root t rest ≡ fault root [] false (tokens body) → outline_after root text (Some body) ≡ Err (length text - length rest)
read_unfinished root text body [] t ends may faults =
    read_fault root text body 0 (sym faults ∙ falls root (names t.open.items) (has_begun (begun t)) (record { left = 0; token = End }) [] may)
read_unfinished root text body (c ∷ rest) t ends may faults = absurd (omega arith)

-- the fault of the program
pub fault_of : (read : Result (List Element) ℕ) (f : XmlFault) (at : ℕ) → f ≡ Malformed at → read ≡ Err at → IsFaultOf read f
fault_of read f at is e = subst (IsFaultOf read) (sym is) e
