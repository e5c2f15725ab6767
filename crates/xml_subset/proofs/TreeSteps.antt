-- One more token.
use Rattle.std.proofs.Common.{ℕ, zero, suc, ◌≡◌, ◌<◌, ◌≤◌, ◌+◌, ◌∙◌, ap, sym, refl, subst, true, List, [], ◌∷◌, ◌++◌, length, map, arith, append_assoc, add-one, drop, get_or, set, length-set}
use Rattle.std.proofs.lemmas.List.{length-map}
use Rattle.std.specs.Prelude.{encode_utf8}
use Rattle.std.proofs.lemmas.List.{map-append}
use Rattle.xml_subset.specs.declared.tree.Opened.{Opened}
use Rattle.xml_subset.specs.declared.tree.Tree.{Tree}
use Rattle.xml_subset.specs.declared.document.Element as code
use Rattle.xml_subset.specs.Element.{Element, elements, own_text, shown}
use Rattle.xml_subset.specs.Token.{Token, Text, Character, Comment, Open, Empty, Close}
use Rattle.xml_subset.specs.Tree.{IsInRange, IsSound, Takes, begun, completed, has_begun, names, put_text}
use Rattle.xml_subset.specs.Cut.{trimmed}
use Rattle.xml_subset.proofs.Completed.{completed-character, completed-close, completed-comment, completed-empty, completed-open, completed-text, length-last, names-last, put_text-set}

-- ---- places of open elements

in_range_front : (n : ℕ) (os : List Opened) (o : Opened) → IsInRange n (os ++ o ∷ []) → IsInRange n os
in_range_front n [] o h = tt
in_range_front n (q ∷ os) o h = (h.0, in_range_front n os o h.1)

pub in_range_last : (n : ℕ) (os : List Opened) (o : Opened) → IsInRange n (os ++ o ∷ []) → o.index < n
in_range_last n [] o h = h.0
in_range_last n (q ∷ os) o h = in_range_last n os o h.1

in_range_push : (n : ℕ) (os : List Opened) (o : Opened) → IsInRange n os → o.index < n → IsInRange n (os ++ o ∷ [])
in_range_push n [] o h k = (k, tt)
in_range_push n (q ∷ os) o h k = (h.0, in_range_push n os o h.1 k)

in_range_more : (m n : ℕ) (os : List Opened) → m ≤ n → IsInRange m os → IsInRange n os
in_range_more m n [] le h = tt
in_range_more m n (q ∷ os) le h = (omega (arith, h.0), in_range_more m n os le h.1)

-- ---- all elements, by the parts of a tree

abbrev all_of : List Opened → List Element → List Token → List Element
all_of os es ts = completed os ts es ++ elements (length os) ts

text_step : (os : List Opened) (o p : Opened) (bytes : List ℕ) (es : List Element) (ts : List Token) → p.index ≡ o.index → p.text.items ≡ o.text.items ++ bytes → all_of (os ++ p ∷ []) es ts ≡ all_of (os ++ o ∷ []) es (Text bytes ∷ ts)
text_step os o p bytes es ts index text =
    ap (λ xs. xs ++ elements (length (os ++ p ∷ [])) ts) (completed-text os o p bytes ts es index text)
    ∙ ap (λ n. completed (os ++ o ∷ []) (Text bytes ∷ ts) es ++ elements n ts) (length-last os p ∙ sym (length-last os o))

close_step : (os : List Opened) (o : Opened) (name : List ℕ) (es : List Element) (ts : List Token) → all_of os (put_text o.index (trimmed o.text.items) es) ts ≡ all_of (os ++ o ∷ []) es (Close name ∷ ts)
close_step os o name es ts =
    ap (λ xs. xs ++ elements (length os) ts) (completed-close os o name ts es)
    ∙ ap (λ n. completed (os ++ o ∷ []) (Close name ∷ ts) es ++ elements n ts) (omega (arith, length-last os o))

empty_step : (os : List Opened) (e : Element) (es : List Element) (ts : List Token) → IsInRange (length es) os → e ≡ record { depth = suc (length os); name = e.name; text = [] } → all_of os (es ++ e ∷ []) ts ≡ all_of os es (Empty e.name ∷ ts)
empty_step os e es ts h is =
    ap (λ xs. xs ++ elements (length os) ts) (completed-empty os e.name ts es e h)
    ∙ append_assoc (completed os (Empty e.name ∷ ts) es) (e ∷ []) (elements (length os) ts)
    ∙ ap (λ f. completed os (Empty e.name ∷ ts) es ++ f ∷ elements (length os) ts) is

open_step : (os : List Opened) (o : Opened) (e : Element) (es : List Element) (ts : List Token) → IsInRange (length es) os → o.index ≡ length es → o.text.items ≡ [] → e.depth ≡ suc (length os) → all_of (os ++ o ∷ []) (es ++ e ∷ []) ts ≡ all_of os es (Open e.name ∷ ts)
open_step os o e es ts h index text depth =
    let inner = trimmed (own_text 0 ts) in
    ap (λ xs. xs ++ elements (length (os ++ o ∷ [])) ts) (completed-open os o e.name ts es e h index text)
    ∙ append_assoc (completed os (Open e.name ∷ ts) es) (record e { text = inner } ∷ []) (elements (length (os ++ o ∷ [])) ts)
    ∙ ap (λ n. completed os (Open e.name ∷ ts) es ++ record e { text = inner } ∷ elements n ts) (length-last os o)
    ∙ ap (λ d. completed os (Open e.name ∷ ts) es ++ record { depth = d; name = e.name; text = inner } ∷ elements (suc (length os)) ts) depth

-- ---- what a tree takes

has_begun-last : (es : List Element) (e : Element) → has_begun (es ++ e ∷ []) ≡ true
has_begun-last [] e = refl
has_begun-last (f ∷ es) e = refl

has_begun-put : (i : ℕ) (text : List ℕ) (es : List Element) → has_begun (put_text i text es) ≡ has_begun es
has_begun-put i text [] = refl
has_begun-put zero text (e ∷ es) = refl
has_begun-put (suc i) text (e ∷ es) = refl

-- by the parts of both trees
pub takes_text : (old new : Tree) (os : List Opened) (o p : Opened) (bytes : List ℕ) → IsSound old
    → old.open.items ≡ os ++ o ∷ [] → new.open.items ≡ os ++ p ∷ [] → new.elements.items ≡ old.elements.items
    → p.index ≡ o.index → p.name.now ≡ o.name.now → p.text.items ≡ o.text.items ++ bytes → Takes old new (Text bytes)
takes_text old new os o p bytes sound olds news same index name text = record {
  elements = λ ts. (λ i. all_of (news i) (map shown (same i)) ts) ∙ text_step os o p bytes (begun old) ts index text
      ∙ (λ i. all_of (sym olds i) (begun old) (Text bytes ∷ ts));
  names = ap names news ∙ names-last os p ∙ ap (λ n. n ∷ names os) name ∙ sym (names-last os o) ∙ ap names (sym olds);
  begun = ap (λ es. has_begun (map shown es)) same;
  sound =
      let range : IsInRange (length old.elements.items) (os ++ o ∷ []) = subst (IsInRange (length old.elements.items)) olds sound in
      let both : IsInRange (length old.elements.items) (os ++ p ∷ [])
      = in_range_push _ os p (in_range_front _ os o range) (omega (arith, in_range_last _ os o range, index)) in
      subst (λ (es : List code.Element). IsInRange (length es) new.open.items) (sym same)
      (subst (IsInRange (length old.elements.items)) (sym news) both);
}

in_range_begun : (t : Tree) → IsSound t → IsInRange (length (begun t)) t.open.items
in_range_begun t sound = subst (λ (n : ℕ). IsInRange n t.open.items) (sym (length-map t.elements.items shown)) sound

pub takes_empty : (old new : Tree) (e : code.Element) → IsSound old
    → new.open.items ≡ old.open.items → new.elements.items ≡ old.elements.items ++ e ∷ []
    → e.depth ≡ length old.open.items + 1 → e.text.items ≡ [] → Takes old new (Empty e.name.now)
takes_empty old new e sound same news depth text = record {
  elements = λ ts. (λ i. all_of (same i) (map shown (news i)) ts)
      ∙ ap (λ es. all_of old.open.items es ts) (map-append shown old.elements.items (e ∷ []))
      ∙ empty_step old.open.items (shown e) (begun old) ts (in_range_begun old sound)
      (λ i. record { depth = (depth ∙ add-one (length old.open.items)) i; name = e.name.now; text = text i });
  names = ap names same;
  begun = ap (λ es. has_begun (map shown es)) news ∙ ap has_begun (map-append shown old.elements.items (e ∷ [])) ∙ has_begun-last (begun old) (shown e);
  sound = subst (IsInRange (length new.elements.items)) (sym same)
      (in_range_more (length old.elements.items) (length new.elements.items) old.open.items (omega (arith, ap length news, length-last old.elements.items e)) sound);
}

pub takes_open : (old new : Tree) (o : Opened) (e : code.Element) → IsSound old
    → new.open.items ≡ old.open.items ++ o ∷ [] → new.elements.items ≡ old.elements.items ++ e ∷ []
    → o.index ≡ length old.elements.items → o.text.items ≡ [] → o.name.now ≡ e.name.now
    → e.depth ≡ length old.open.items + 1 → Takes old new (Open e.name.now)
takes_open old new o e sound opens news index empty name depth = record {
  elements = λ ts. (λ i. all_of (opens i) (map shown (news i)) ts)
      ∙ ap (λ es. all_of (old.open.items ++ o ∷ []) es ts) (map-append shown old.elements.items (e ∷ []))
      ∙ open_step old.open.items o (shown e) (begun old) ts (in_range_begun old sound)
      (index ∙ sym (length-map old.elements.items shown)) empty (depth ∙ add-one (length old.open.items));
  names = ap names opens ∙ names-last old.open.items o ∙ ap (λ n. n ∷ names old.open.items) name;
  begun = ap (λ es. has_begun (map shown es)) news ∙ ap has_begun (map-append shown old.elements.items (e ∷ [])) ∙ has_begun-last (begun old) (shown e);
  sound =
      let longer : length new.elements.items ≡ suc (length old.elements.items) = ap length news ∙ length-last old.elements.items e in
      subst (IsInRange (length new.elements.items)) (sym opens)
      (in_range_push (length new.elements.items) old.open.items o
      (in_range_more (length old.elements.items) (length new.elements.items) old.open.items (omega (arith, longer)) sound)
      (omega (arith, longer, index)));
}

pub takes_close : (old new : Tree) (os : List Opened) (o : Opened) (e d : code.Element) (name : List ℕ) → IsSound old
    → old.open.items ≡ os ++ o ∷ [] → new.open.items ≡ os → new.elements.items ≡ set old.elements.items o.index e
    → e.depth ≡ (get_or old.elements.items o.index d).depth → e.name.now ≡ (get_or old.elements.items o.index d).name.now
    → e.text.items ≡ trimmed o.text.items → Takes old new (Close name)
takes_close old new os o e d name sound olds closes news depth same_name text =
    let range : IsInRange (length old.elements.items) (os ++ o ∷ []) = subst (IsInRange (length old.elements.items)) olds sound in
    let writes : begun new ≡ put_text o.index (trimmed o.text.items) (begun old)
    = ap (map shown) news ∙ put_text-set old.elements.items o.index e d (in_range_last _ os o range) depth same_name
    ∙ ap (λ t. put_text o.index t (begun old)) text in
    record {
      elements = λ ts. (λ i. all_of (closes i) (writes i) ts) ∙ close_step os o name (begun old) ts ∙ (λ i. all_of (sym olds i) (begun old) (Close name ∷ ts));
      names = ap names closes ∙ ap (drop 1) (sym (names-last os o)) ∙ ap (λ os. drop 1 (names os)) (sym olds);
      begun = ap has_begun writes ∙ has_begun-put o.index (trimmed o.text.items) (begun old);
      sound =
          let same : length new.elements.items ≡ length old.elements.items = ap length news ∙ length-set old.elements.items o.index e in
          subst (λ (n : ℕ). IsInRange n new.open.items) (sym same)
          (subst (IsInRange (length old.elements.items)) (sym closes) (in_range_front _ os o range));
    }

pub takes_comment : (old : Tree) → IsSound old → Takes old old Comment
takes_comment old sound = record {
  elements = λ ts. ap (λ xs. xs ++ elements (length old.open.items) ts) (completed-comment old.open.items ts (begun old));
  names = refl;
  begun = refl;
  sound = sound;
}

pub takes_character : (old new : Tree) (c : ℕ) → Takes old new (Text (encode_utf8 c)) → Takes old new (Character c)
takes_character old new c t = record {
  elements = λ ts. t.elements ts
      ∙ ap (λ xs. xs ++ elements (length old.open.items) ts) (completed-character old.open.items c ts (begun old));
  names = t.names;
  begun = t.begun;
  sound = t.sound;
}
