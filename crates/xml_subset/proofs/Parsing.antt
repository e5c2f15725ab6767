-- Tokens that may stand one after the other are those of a tree.
use Rattle.std.proofs.Common.{ℕ, zero, suc, ◌≡◌, ◌∙◌, ap, sym, refl, Bool, true, false, cond, List, [], ◌∷◌, length, drop, map, Option, Some, None, Ok, arith, codes, ◌==◌}
use Rattle.std.specs.Prelude.{IfSome, bytes_eq, take_while}
use Rattle.std.specs.List.{prefix_len}
use Rattle.std.specs.Option.{option_map_or}
use Rattle.std.proofs.lemmas.List.{append-nil}
use Rattle.std.proofs.lemmas.Slice.Eq.{bytes_eq-Decides}
use Rattle.xml_subset.specs.Content.{Content, Nothing, Data, Reference, Remark, Leaf, Node, Writes, is_document, outlined, written}
use Rattle.byte_cuts.specs.Cuts.{behind}
use Rattle.xml_subset.specs.Cut.{after, without_white}
use Rattle.xml_subset.specs.Document.{fault, judged, may_stand, outline, outline_after, without_declaration, without_mark}
use Rattle.xml_subset.specs.Element.{Element, elements}
use Rattle.xml_subset.specs.Name.{name}
use Rattle.xml_subset.specs.Reference.{reference}
use Rattle.xml_subset.specs.Tag.{tag_rest}
use Rattle.xml_subset.specs.Token.{Cut, Placed, Token, Text, Character, Comment, Open, Empty, Close, Broken, End, broken, close_tag, comment, first_token, is_text_byte, markup, open_tag, referred, tokens, tokens_within}
use Rattle.xml_subset.proofs.ContentLemmas.{accepted, accepted-document, accepted_faultless, elements-written, faultless, parts}
use Rattle.xml_subset.proofs.Shorter.{any, bound, chosen, map_or, mapped}

-- ---- the end is the last token

-- neither the end nor what is no token
abbrev pub IsPlain : Token → Type 0
IsPlain End = ⊥
IsPlain Broken = ⊥
IsPlain (Text bytes) = Unit {0}
IsPlain (Character c) = Unit {0}
IsPlain Comment = Unit {0}
IsPlain (Open name) = Unit {0}
IsPlain (Empty name) = Unit {0}
IsPlain (Close name) = Unit {0}

abbrev pub IsEnded : List Token → Type 0
IsEnded [] = ⊥
IsEnded (End ∷ ts) = ts ≡ []
IsEnded (Broken ∷ ts) = Unit {0}
IsEnded (Text bytes ∷ ts) = IsEnded ts
IsEnded (Character c ∷ ts) = IsEnded ts
IsEnded (Comment ∷ ts) = IsEnded ts
IsEnded (Open name ∷ ts) = IsEnded ts
IsEnded (Empty name ∷ ts) = IsEnded ts
IsEnded (Close name ∷ ts) = IsEnded ts

ended_by : (t : Token) (ts : List Token) → IsPlain t → IsEnded ts → IsEnded (t ∷ ts)
ended_by End ts h k = absurd h
ended_by Broken ts h k = absurd h
ended_by (Text bytes) ts h k = k
ended_by (Character c) ts h k = k
ended_by Comment ts h k = k
ended_by (Open name) ts h k = k
ended_by (Empty name) ts h k = k
ended_by (Close name) ts h k = k

abbrev Plain : Cut → Type 0
Plain cut = IsPlain cut.0

plain_tag : (b : Bool) (name : List ℕ) → IsPlain (cond b (Empty name) (Open name))
plain_tag true name = tt
plain_tag false name = tt

comment_plain : (text : List ℕ) → IfSome (comment text) Plain
comment_plain text =
    mapped (λ (rest : List ℕ). Unit {0}) Plain (λ rest. (Comment, rest)) (after (codes "-->") text) (any _) (λ rest _. tt)

close_tag_plain : (text : List ℕ) → IfSome (close_tag text) Plain
close_tag_plain text =
    bound (λ (named : List ℕ × List ℕ). Unit {0}) Plain _ (name text) (any _)
    (λ named _. bound (λ (rest : List ℕ). Unit {0}) Plain _ (behind (codes ">") (without_white named.1)) (any _) (λ rest _. tt))

open_tag_plain : (text : List ℕ) → IfSome (open_tag text) Plain
open_tag_plain text =
    bound (λ (named : List ℕ × List ℕ). Unit {0}) Plain _ (name text) (any _)
    (λ named _. bound (λ (end : Bool × List ℕ). Unit {0}) Plain _ (tag_rest (length named.1) named.1) (any _) (λ end _. plain_tag end.0 named.0))

markup_plain : (text : List ℕ) → IfSome (markup text) Plain
markup_plain text =
    map_or (λ (rest : List ℕ). Unit {0}) Plain comment (behind (codes "!--") text) (option_map_or close_tag (behind (codes "/") text) (open_tag text)) (any _)
    (λ rest _. comment_plain rest)
    (map_or (λ (rest : List ℕ). Unit {0}) Plain close_tag (behind (codes "/") text) (open_tag text) (any _)
    (λ rest _. close_tag_plain rest) (open_tag_plain text))

first_token_plain : (c : ℕ) (text : List ℕ) → IfSome (first_token (c ∷ text)) Plain
unfolding first_token
first_token_plain c text =
    let run : Option Cut = Some (Text (take_while is_text_byte (c ∷ text)), drop (prefix_len is_text_byte (c ∷ text)) (c ∷ text)) in
    chosen Plain (c == 60) (markup text) (cond (c == 38) (referred text) run) (markup_plain text)
    (chosen Plain (c == 38) (referred text) run
    (bound (λ (found : ℕ × List ℕ). Unit {0}) Plain _ (reference text) (any _) (λ found _. tt)) tt)

next_ended : (o : Option Cut) (f : Cut → List Placed) (d : List Placed) → IfSome o Plain → ((cut : Cut) → Plain cut → IsEnded (map (λ p. p.token) (f cut))) → IsEnded (map (λ p. p.token) d) → IsEnded (map (λ p. p.token) (option_map_or f o d))
next_ended None f d h k l = l
next_ended (Some cut) f d h k l = k cut h

tokens_ended : (n : ℕ) (text : List ℕ) → IsEnded (map (λ p. p.token) (tokens_within n text))
tokens_ended zero [] = refl
tokens_ended (suc n) [] = refl
tokens_ended zero (c ∷ text) = tt
tokens_ended (suc n) (c ∷ text) =
    next_ended (first_token (c ∷ text)) _ (broken (c ∷ text) ∷ []) (first_token_plain c text)
    (λ cut plain. ended_by cut.0 (map (λ p. p.token) (tokens_within n cut.1)) plain (tokens_ended n cut.1)) tt

-- ---- a tree for the tokens

-- the rest of a document in which elements of these names are open, by what follows in each of them and after the root
abbrev pub closed : List (List ℕ) → List Content → Content → List Token
closed [] fs tail = written tail (End ∷ [])
closed (n ∷ ns) [] tail = []
closed (n ∷ ns) (f ∷ fs) tail = written f (Close n ∷ closed ns fs tail)

pub record Parsed (ns : List (List ℕ)) (ts : List Token) : Type 0 where
  pub inner : List Content
  pub tail : Content
  pub count : length inner ≡ length ns
  pub is : ts ≡ closed ns inner tail

parsed_same : (ns : List (List ℕ)) (ts us : List Token) → ts ≡ us → Parsed ns us → Parsed ns ts
parsed_same ns ts us e p = record { inner = p.inner; tail = p.tail; count = p.count; is = e ∙ p.is }

attached : (P : Content → Content) (Q : List Token → List Token) → ((f : Content) (us : List Token) → written (P f) us ≡ Q (written f us))
    → (ns : List (List ℕ)) (fs : List Content) (tail : Content) → length fs ≡ length ns → Parsed ns (Q (closed ns fs tail))
attached P Q h [] fs tail count = record { inner = fs; tail = P tail; count = count; is = sym (h tail (End ∷ [])) }
attached P Q h (n ∷ ns) [] tail count = absurd (omega arith)
attached P Q h (n ∷ ns) (f ∷ fs) tail count = record { inner = P f ∷ fs; tail = tail; count = count; is = sym (h f (Close n ∷ closed ns fs tail)) }

with_piece : (P : Content → Content) (Q : List Token → List Token) → ((f : Content) (us : List Token) → written (P f) us ≡ Q (written f us))
    → (ns : List (List ℕ)) (ts : List Token) → Parsed ns ts → Parsed ns (Q ts)
with_piece P Q h ns ts p = parsed_same ns (Q ts) (Q (closed ns p.inner p.tail)) (ap Q p.is) (attached P Q h ns p.inner p.tail p.count)

with_node : (name : List ℕ) (ns : List (List ℕ)) (ts : List Token) (fs : List Content) (tail : Content) → length fs ≡ suc (length ns) → ts ≡ closed (name ∷ ns) fs tail → Parsed ns (Open name ∷ ts)
with_node name ns ts [] tail count is = absurd (omega arith)
with_node name ns ts (f ∷ fs) tail count is =
    parsed_same ns (Open name ∷ ts) (Open name ∷ written f (Close name ∷ closed ns fs tail)) (ap (λ us. Open name ∷ us) is)
    (attached (Node name f) (λ us. Open name ∷ written f (Close name ∷ us)) (λ g us. refl) ns fs tail (omega arith))

parsed : (root : List ℕ) (ns : List (List ℕ)) (b : Bool) (ts : List Token) → IsEnded ts → accepted root ns b ts ≡ true → Parsed ns ts
parsed root ns b [] ended e = absurd ended
parsed root [] b (End ∷ ts) ended e = record { inner = []; tail = Nothing; count = refl; is = ap (λ us. End ∷ us) ended }
parsed root (n ∷ ns) b (End ∷ ts) ended e = absurd cc
parsed root ns b (Broken ∷ ts) ended e = absurd cc
parsed root ns b (Text bytes ∷ ts) ended e =
    with_piece (Data bytes) (λ us. Text bytes ∷ us) (λ f us. refl) ns ts (parsed root ns b ts ended (parts (may_stand root ns b (Text bytes)) (accepted root ns b ts) e).1)
parsed root ns b (Character c ∷ ts) ended e =
    with_piece (Reference c) (λ us. Character c ∷ us) (λ f us. refl) ns ts (parsed root ns b ts ended (parts (may_stand root ns b (Character c)) (accepted root ns b ts) e).1)
parsed root ns b (Comment ∷ ts) ended e =
    with_piece Remark (λ us. Comment ∷ us) (λ f us. refl) ns ts (parsed root ns b ts ended (parts (may_stand root ns b Comment) (accepted root ns b ts) e).1)
parsed root ns b (Empty name ∷ ts) ended e =
    with_piece (Leaf name) (λ us. Empty name ∷ us) (λ f us. refl) ns ts (parsed root ns true ts ended (parts (may_stand root ns b (Empty name)) (accepted root ns true ts) e).1)
parsed root ns b (Open name ∷ ts) ended e =
    let p = parsed root (name ∷ ns) true ts ended (parts (may_stand root ns b (Open name)) (accepted root (name ∷ ns) true ts) e).1 in
    with_node name ns ts p.inner p.tail p.count p.is
parsed root [] b (Close name ∷ ts) ended e = absurd cc
parsed root (n ∷ ns) b (Close name ∷ ts) ended e =
    let h = parts (bytes_eq name n) (accepted root ns b ts) e in
    let p = parsed root ns b ts ended h.1 in
    record {
      inner = Nothing ∷ p.inner;
      tail = p.tail;
      count = ap suc p.count;
      is = (λ i. Close ((bytes_eq-Decides name n).0 h.0 i) ∷ p.is i);
    }

-- ---- what is read, and what is written

judged_ok : (len : ℕ) (ps : List Placed) (o : Option ℕ) (es : List Element) → judged len ps o ≡ Ok es → (o ≡ None) × (elements 0 (map (λ p. p.token) ps) ≡ es)
judged_ok len ps None es e = (refl, cc)
judged_ok len ps (Some left) es e = absurd cc

after_ok : (root text : List ℕ) (o : Option (List ℕ)) (es : List Element) → outline_after root text o ≡ Ok es → (body : List ℕ) × (o ≡ Some body) × (outline_after root text (Some body) ≡ Ok es)
after_ok root text None es e = absurd cc
after_ok root text (Some body) es e = (body, refl, e)

elements_of : (d : Content) → elements 0 (written d (End ∷ [])) ≡ outlined 0 d
elements_of d = elements-written 0 d (End ∷ []) ∙ append-nil (outlined 0 d)

-- what is read is the outline of a document that the text writes
pub read_is_written : (root text : List ℕ) (es : List Element) → outline root text ≡ Ok es → (d : Content) × Writes root text d × (es ≡ outlined 0 d)
read_is_written root text es e =
    let found = after_ok root text (without_declaration (without_mark text)) es e in
    let body = found.0 in
    let good = judged_ok (length text) (tokens body) (fault root [] false (tokens body)) es found.2 in
    let may = faultless root [] false (tokens body) good.0 in
    let p = parsed root [] false (map (λ p. p.token) (tokens body)) (tokens_ended (length body) body) may in
    let document : is_document root p.tail ≡ true = sym (accepted-document root p.tail) ∙ ap (accepted root [] false) (sym p.is) ∙ may in
    (p.tail, (document, (body, found.1, p.is)), sym good.1 ∙ ap (elements 0) p.is ∙ elements_of p.tail)

-- each document that a text writes is read as its outline
pub written_is_read : (root text : List ℕ) (d : Content) → Writes root text d → outline root text ≡ Ok (outlined 0 d)
written_is_read root text d w =
    let body = w.1.0 in
    let may : accepted root [] false (map (λ p. p.token) (tokens body)) ≡ true
    = ap (accepted root [] false) w.1.2 ∙ accepted-document root d ∙ w.0 in
    ap (outline_after root text) w.1.1
    ∙ ap (judged (length text) (tokens body)) (accepted_faultless root [] false (tokens body) may)
    ∙ ap Ok (ap (elements 0) w.1.2 ∙ elements_of d)
