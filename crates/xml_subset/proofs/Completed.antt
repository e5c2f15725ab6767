-- The elements that a further token completes.
use Rattle.std.proofs.Common.{ℕ, zero, suc, ◌≡◌, ◌<◌, ◌∙◌, ap, sym, refl, List, [], ◌∷◌, ◌++◌, length, map, arith, append_assoc, get_or, set}
use Rattle.std.specs.Prelude.{encode_utf8}
use Rattle.std.proofs.lemmas.List.{append-nil, map-append, reverse-append}
use Rattle.xml_subset.specs.declared.document.Element as code
use Rattle.xml_subset.specs.declared.tree.Opened.{Opened}
use Rattle.xml_subset.specs.Cut.{trimmed}
use Rattle.xml_subset.specs.Element.{Element, own_text, shown}
use Rattle.xml_subset.specs.Token.{Token, Text, Character, Comment, Open, Empty, Close}
use Rattle.xml_subset.specs.Tree.{IsInRange, completed, names, put_text}

-- ---- own texts

own_text-open : (n : ℕ) (name : List ℕ) (ts : List Token) → own_text n (Open name ∷ ts) ≡ own_text (suc n) ts
own_text-open zero name ts = refl
own_text-open (suc n) name ts = refl

own_text-empty : (n : ℕ) (name : List ℕ) (ts : List Token) → own_text n (Empty name ∷ ts) ≡ own_text n ts
own_text-empty zero name ts = refl
own_text-empty (suc n) name ts = refl

own_text-comment : (n : ℕ) (ts : List Token) → own_text n (Comment ∷ ts) ≡ own_text n ts
own_text-comment zero ts = refl
own_text-comment (suc n) ts = refl

own_text-character : (n c : ℕ) (ts : List Token) → own_text n (Character c ∷ ts) ≡ own_text n (Text (encode_utf8 c) ∷ ts)
own_text-character zero c ts = refl
own_text-character (suc n) c ts = refl

-- ---- one element gets its text

length-put_text : (i : ℕ) (text : List ℕ) (es : List Element) → length (put_text i text es) ≡ length es
length-put_text i text [] = refl
length-put_text zero text (e ∷ es) = refl
length-put_text (suc i) text (e ∷ es) = ap suc (length-put_text i text es)

put_text-append : (i : ℕ) (text : List ℕ) (es fs : List Element) → i < length es → put_text i text (es ++ fs) ≡ put_text i text es ++ fs
put_text-append i text [] fs h = absurd (omega arith)
put_text-append zero text (e ∷ es) fs h = refl
put_text-append (suc i) text (e ∷ es) fs h = ap (λ xs. e ∷ xs) (put_text-append i text es fs (omega arith))

put_text-last : (i : ℕ) (text : List ℕ) (es : List Element) (e : Element) → i ≡ length es → put_text i text (es ++ e ∷ []) ≡ es ++ record e { text = text } ∷ []
put_text-last zero text [] e h = refl
put_text-last (suc i) text [] e h = absurd (omega arith)
put_text-last zero text (f ∷ es) e h = absurd (omega arith)
put_text-last (suc i) text (f ∷ es) e h = ap (λ xs. f ∷ xs) (put_text-last i text es e (omega arith))

-- the text is that of an element of the program which is written in its place
pub put_text-set : (es : List code.Element) (i : ℕ) (e d : code.Element) → i < length es → e.depth ≡ (get_or es i d).depth → e.name.now ≡ (get_or es i d).name.now → map shown (set es i e) ≡ put_text i e.text.items (map shown es)
put_text-set [] i e d h depth name = absurd (omega arith)
put_text-set (f ∷ es) zero e d h depth name = λ i. record { depth = depth i; name = name i; text = e.text.items } ∷ map shown es
put_text-set (f ∷ es) (suc i) e d h depth name = ap (λ xs. shown f ∷ xs) (put_text-set es i e d (omega arith) depth name)

-- ---- open elements

pub length-last : {A : Type 0} (xs : List A) (x : A) → length (xs ++ x ∷ []) ≡ suc (length xs)
length-last [] x = refl
length-last (y ∷ xs) x = ap suc (length-last xs x)

pub names-last : (os : List Opened) (o : Opened) → names (os ++ o ∷ []) ≡ o.name.now ∷ names os
names-last os o = simp (map-append, reverse-append)

length-completed : (os : List Opened) (ts : List Token) (es : List Element) → length (completed os ts es) ≡ length es
length-completed [] ts es = refl
length-completed (o ∷ os) ts es = length-put_text o.index _ (completed os ts es) ∙ length-completed os ts es

completed-same : (os : List Opened) (ts us : List Token) (es : List Element) → ((n : ℕ) → own_text n ts ≡ own_text n us) → completed os ts es ≡ completed os us es
completed-same [] ts us es h = refl
completed-same (o ∷ os) ts us es h =
    ap (λ t. put_text o.index (trimmed (o.text.items ++ t)) (completed os ts es)) (h (length os))
    ∙ ap (put_text o.index (trimmed (o.text.items ++ own_text (length os) us))) (completed-same os ts us es h)

pub completed-comment : (os : List Opened) (ts : List Token) (es : List Element) → completed os ts es ≡ completed os (Comment ∷ ts) es
completed-comment os ts es = completed-same os ts (Comment ∷ ts) es (λ n. sym (own_text-comment n ts))

pub completed-character : (os : List Opened) (c : ℕ) (ts : List Token) (es : List Element) → completed os (Text (encode_utf8 c) ∷ ts) es ≡ completed os (Character c ∷ ts) es
completed-character os c ts es = completed-same os (Text (encode_utf8 c) ∷ ts) (Character c ∷ ts) es (λ n. sym (own_text-character n c ts))

-- the part of a step that is below the innermost element
below : (q : Opened) (m n : ℕ) (ts us : List Token) (es fs : List Element) → own_text m ts ≡ own_text n us → es ≡ fs → put_text q.index (trimmed (q.text.items ++ own_text m ts)) es ≡ put_text q.index (trimmed (q.text.items ++ own_text n us)) fs
below q m n ts us es fs texts same =
    ap (λ t. put_text q.index (trimmed (q.text.items ++ t)) es) texts
    ∙ ap (put_text q.index (trimmed (q.text.items ++ own_text n us))) same

-- character data
pub completed-text : (os : List Opened) (o p : Opened) (bytes : List ℕ) (ts : List Token) (es : List Element) → p.index ≡ o.index → p.text.items ≡ o.text.items ++ bytes → completed (os ++ p ∷ []) ts es ≡ completed (os ++ o ∷ []) (Text bytes ∷ ts) es
completed-text [] o p bytes ts es index text =
    ap (λ i. put_text i (trimmed (p.text.items ++ own_text 0 ts)) es) index
    ∙ ap (λ t. put_text o.index (trimmed (t ++ own_text 0 ts)) es) text
    ∙ ap (λ t. put_text o.index (trimmed t) es) (append_assoc o.text.items bytes (own_text 0 ts))
completed-text (q ∷ os) o p bytes ts es index text =
    below q (length (os ++ p ∷ [])) (length (os ++ o ∷ [])) ts (Text bytes ∷ ts) (completed (os ++ p ∷ []) ts es) (completed (os ++ o ∷ []) (Text bytes ∷ ts) es)
    (ap (λ n. own_text n ts) (length-last os p) ∙ ap (λ n. own_text n (Text bytes ∷ ts)) (sym (length-last os o)))
    (completed-text os o p bytes ts es index text)

-- a close tag
pub completed-close : (os : List Opened) (o : Opened) (name : List ℕ) (ts : List Token) (es : List Element) → completed os ts (put_text o.index (trimmed o.text.items) es) ≡ completed (os ++ o ∷ []) (Close name ∷ ts) es
completed-close [] o name ts es = ap (λ t. put_text o.index (trimmed t) es) (sym (append-nil o.text.items))
completed-close (q ∷ os) o name ts es =
    below q (length os) (length (os ++ o ∷ [])) ts (Close name ∷ ts) (completed os ts (put_text o.index (trimmed o.text.items) es)) (completed (os ++ o ∷ []) (Close name ∷ ts) es)
    (ap (λ n. own_text n (Close name ∷ ts)) (sym (length-last os o)))
    (completed-close os o name ts es)

-- an empty tag
pub completed-empty : (os : List Opened) (name : List ℕ) (ts : List Token) (es : List Element) (e : Element) → IsInRange (length es) os → completed os ts (es ++ e ∷ []) ≡ completed os (Empty name ∷ ts) es ++ e ∷ []
completed-empty [] name ts es e h = refl
completed-empty (q ∷ os) name ts es e h =
    below q (length os) (length os) ts (Empty name ∷ ts) (completed os ts (es ++ e ∷ [])) (completed os (Empty name ∷ ts) es ++ e ∷ [])
    (sym (own_text-empty (length os) name ts)) (completed-empty os name ts es e h.1)
    ∙ put_text-append q.index _ (completed os (Empty name ∷ ts) es) (e ∷ []) (omega (arith, h.0, length-completed os (Empty name ∷ ts) es))

-- an open tag
pub completed-open : (os : List Opened) (o : Opened) (name : List ℕ) (ts : List Token) (es : List Element) (e : Element) → IsInRange (length es) os → o.index ≡ length es → o.text.items ≡ [] → completed (os ++ o ∷ []) ts (es ++ e ∷ []) ≡ completed os (Open name ∷ ts) es ++ record e { text = trimmed (own_text 0 ts) } ∷ []
completed-open [] o name ts es e h index text =
    put_text-last o.index (trimmed (o.text.items ++ own_text 0 ts)) es e index
    ∙ ap (λ t. es ++ record e { text = trimmed (t ++ own_text 0 ts) } ∷ []) text
completed-open (q ∷ os) o name ts es e h index text =
    below q (length (os ++ o ∷ [])) (length os) ts (Open name ∷ ts) (completed (os ++ o ∷ []) ts (es ++ e ∷ [])) (completed os (Open name ∷ ts) es ++ record e { text = trimmed (own_text 0 ts) } ∷ [])
    (ap (λ n. own_text n ts) (length-last os o) ∙ sym (own_text-open (length os) name ts)) (completed-open os o name ts es e h.1 index text)
    ∙ put_text-append q.index _ (completed os (Open name ∷ ts) es) (record e { text = trimmed (own_text 0 ts) } ∷ []) (omega (arith, h.0, length-completed os (Open name ∷ ts) es))
