-- The plain spelling of content is cut into the tokens of the content.
use Rattle.std.proofs.Common.{ℕ, ◌≡◌, ◌+◌, ◌∙◌, ap, sym, refl, Bool, true, false, cond, not, ◌&&◌, ◌||◌, ◌==◌, List, [], ◌∷◌, ◌++◌, length, take, drop, map, Option, Some, None, Ok, arith, nat_eq, codes}
use Rattle.std.specs.Prelude.{take_while}
use Rattle.std.specs.List.{list_all, prefix_len}
use Rattle.std.proofs.lemmas.Bool.Decides.{nat_tests}
use Rattle.std.proofs.lemmas.List.{append-nil, drop_at, take_at}
use Rattle.std.proofs.lemmas.Slice.Eq.{bytes_eq-Decides}
use Rattle.xml_subset.specs.Content.{Content, Nothing, Data, Reference, Remark, Leaf, Node, data_of, is_document, is_within, outlined, written}
use Rattle.xml_subset.specs.Document.{outline}
use Rattle.byte_cuts.specs.Cuts.{behind}
use Rattle.xml_subset.specs.Cut.{begins, or_else, trimmed, without_white, ◌>>=◌}
use Rattle.xml_subset.specs.Name.{is_name_byte, is_name_start, name}
use Rattle.xml_subset.specs.Spelling.{attribute_text, begins_with_data, is_name, is_plain, is_value, spelled, spelled_document}
use Rattle.xml_subset.specs.Tag.{attribute, tag_end, tag_rest, value}
use Rattle.xml_subset.specs.Token.{Cut, Token, Text, Open, Empty, Close, End, close_tag, comment, first_token, is_text_byte, markup, open_tag, referred}
use Rattle.std.specs.Option.{option_map, option_map_or}
use Rattle.xml_subset.proofs.ContentLemmas.{parts}
use Rattle.xml_subset.proofs.Parsing.{written_is_read}
use Rattle.xml_subset.proofs.Reading.{tokens-more, tokens_of}
use Rattle.xml_subset.proofs.TagSteps.{tag_next, tag_rest-end}

-- ---- runs

prefix_len_run : (p : ℕ → Bool) (xs : List ℕ) (c : ℕ) (ys : List ℕ) → list_all p xs ≡ true → p c ≡ false → prefix_len p (xs ++ c ∷ ys) ≡ length xs
prefix_len_run p [] c ys e stop = ap (λ b. cond b (1 + prefix_len p ys) 0) stop
prefix_len_run p (x ∷ xs) c ys e stop =
    let h = parts (p x) (list_all p xs) e in
    ap (λ b. cond b (1 + prefix_len p (xs ++ c ∷ ys)) 0) h.0 ∙ omega (arith, prefix_len_run p xs c ys h.1 stop)

run_front : (p : ℕ → Bool) (xs : List ℕ) (c : ℕ) (ys : List ℕ) → list_all p xs ≡ true → p c ≡ false → take_while p (xs ++ c ∷ ys) ≡ xs
run_front p xs c ys e stop =
    ap (λ n. take n (xs ++ c ∷ ys)) (prefix_len_run p xs c ys e stop) ∙ take_at xs (c ∷ ys) (length xs) refl

run_rest : (p : ℕ → Bool) (xs : List ℕ) (c : ℕ) (ys : List ℕ) → list_all p xs ≡ true → p c ≡ false → drop (prefix_len p (xs ++ c ∷ ys)) (xs ++ c ∷ ys) ≡ c ∷ ys
run_rest p xs c ys e stop =
    ap (λ n. drop n (xs ++ c ∷ ys)) (prefix_len_run p xs c ys e stop) ∙ drop_at xs (c ∷ ys) (length xs) refl

begins-append : (p : ℕ → Bool) (xs ys : List ℕ) → begins p xs ≡ true → begins p (xs ++ ys) ≡ true
begins-append p [] ys e = absurd cc
begins-append p (x ∷ xs) ys e = e

-- ---- tokens at the front

name-spelled : (n : List ℕ) (c : ℕ) (rest : List ℕ) → is_name n ≡ true → is_name_byte c ≡ false → name (n ++ c ∷ rest) ≡ Some (n, c ∷ rest)
name-spelled n c rest e stop =
    let h = parts (begins is_name_start n) (list_all is_name_byte n) e in
    ap (λ b. cond b (Some (take_while is_name_byte (n ++ c ∷ rest), drop (prefix_len is_name_byte (n ++ c ∷ rest)) (n ++ c ∷ rest))) None)
    (begins-append is_name_start n (c ∷ rest) h.0)
    ∙ (λ i. Some (run_front is_name_byte n c rest h.1 stop i, run_rest is_name_byte n c rest h.1 stop i))

no_mark : (m c : ℕ) (mark text : List ℕ) → nat_eq m c ≡ false → behind (m ∷ mark) (c ∷ text) ≡ None
no_mark m c mark text e = rw e refl

is_equal : (m c : ℕ) → nat_eq m c ≡ true → m ≡ c
is_equal m c e = grind (arith, nat_tests)

never : (b : Bool) → (b ≡ true → ⊥) → b ≡ false
never true h = absurd (h refl)
never false h = refl

not_this : (m c : ℕ) → is_name_start m ≡ false → is_name_start c ≡ true → nat_eq m c ≡ false
not_this m c e f =
    never (nat_eq m c) (λ same. let equal : m ≡ c = is_equal m c same in
    let clash : false ≡ true = sym e ∙ ap is_name_start equal ∙ f in cc)

-- a name is no comment and no close tag
markup-name : (n text : List ℕ) → begins is_name_start n ≡ true → markup (n ++ text) ≡ open_tag (n ++ text)
markup-name [] text e = absurd cc
markup-name (c ∷ n) text e =
    ap (λ o. option_map_or comment o (option_map_or close_tag (behind (47 ∷ []) (c ∷ (n ++ text))) (open_tag (c ∷ (n ++ text)))))
    (no_mark 33 c (45 ∷ 45 ∷ []) (n ++ text) (not_this 33 c refl e))
    ∙ ap (λ o. option_map_or close_tag o (open_tag (c ∷ (n ++ text)))) (no_mark 47 c [] (n ++ text) (not_this 47 c refl e))

-- an open tag
first-open : (n rest : List ℕ) → is_name n ≡ true → first_token (60 ∷ (n ++ 62 ∷ rest)) ≡ Some (Open n, rest)
unfolding first_token
first-open n rest e =
    markup-name n (62 ∷ rest) (parts (begins is_name_start n) _ e).0
    ∙ ap (λ o. o >>= λ named. (tag_rest (length named.1) named.1 >>= λ end. Some (cond end.0 (Empty named.0) (Open named.0), end.1))) (name-spelled n 62 rest e refl)

-- an empty tag
first-empty : (n rest : List ℕ) → is_name n ≡ true → first_token (60 ∷ (n ++ 47 ∷ 62 ∷ rest)) ≡ Some (Empty n, rest)
unfolding first_token
first-empty n rest e =
    markup-name n (47 ∷ 62 ∷ rest) (parts (begins is_name_start n) _ e).0
    ∙ ap (λ o. o >>= λ named. (tag_rest (length named.1) named.1 >>= λ end. Some (cond end.0 (Empty named.0) (Open named.0), end.1))) (name-spelled n 47 (62 ∷ rest) e refl)

-- a close tag
first-close : (n rest : List ℕ) → is_name n ≡ true → first_token (60 ∷ 47 ∷ (n ++ 62 ∷ rest)) ≡ Some (Close n, rest)
unfolding first_token
first-close n rest e =
    ap (λ o. o >>= λ named. (behind (codes ">") (without_white named.1) >>= λ rest. Some (Close named.0, rest))) (name-spelled n 62 rest e refl)

unmarked : (a b : Bool) → not (a || b) ≡ true → (a ≡ false) × (b ≡ false)
unmarked true b e = absurd cc
unmarked false true e = absurd cc
unmarked false false e = (refl, refl)

text_byte : (c : ℕ) → is_text_byte c ≡ true → ((c == 60) ≡ false) × ((c == 38) ≡ false)
text_byte c e = unmarked (c == 60) (c == 38) e

-- character data
first-data : (bytes rest : List ℕ) → begins is_text_byte bytes ≡ true → list_all is_text_byte bytes ≡ true → first_token (bytes ++ 60 ∷ rest) ≡ Some (Text bytes, 60 ∷ rest)
unfolding first_token
first-data [] rest e f = absurd cc
first-data (c ∷ bytes) rest e f =
    let h = text_byte c e in
    let text = c ∷ bytes ++ 60 ∷ rest in
    let run : Option Cut = Some (Text (take_while is_text_byte text), drop (prefix_len is_text_byte text) text) in
    ap (λ b. cond b (markup (bytes ++ 60 ∷ rest)) (cond (c == 38) (referred (bytes ++ 60 ∷ rest)) run)) h.0
    ∙ ap (λ b. cond b (referred (bytes ++ 60 ∷ rest)) run) h.1
    ∙ (λ i. Some (Text (run_front is_text_byte (c ∷ bytes) 60 rest f refl i), run_rest is_text_byte (c ∷ bytes) 60 rest f refl i))

-- ---- all tokens of the content

more : (text : List ℕ) (t : Token) (rest : List ℕ) (ts : List Token) → first_token text ≡ Some (t, rest) → tokens_of rest ≡ ts → tokens_of text ≡ t ∷ ts
more text t rest ts e is = ap (map (λ p. p.token)) (tokens-more text (t, rest) e) ∙ ap (λ us. t ∷ us) is

-- what is spelled begins with a tag
spelled_starts : (f : Content) (rest : List ℕ) → is_plain f ≡ true → begins_with_data f ≡ false → (x : List ℕ) × (spelled f (60 ∷ rest) ≡ 60 ∷ x)
spelled_starts Nothing rest e tag = (rest, refl)
spelled_starts (Data bytes f) rest e tag = absurd cc
spelled_starts (Reference c f) rest e tag = absurd cc
spelled_starts (Remark f) rest e tag = absurd cc
spelled_starts (Leaf name f) rest e tag = (_, refl)
spelled_starts (Node name g f) rest e tag = (_, refl)

not_true : (b : Bool) → not b ≡ true → b ≡ false
not_true true e = absurd cc
not_true false e = refl

pub tokens-spelled : (f : Content) (rest : List ℕ) → is_plain f ≡ true → tokens_of (spelled f (60 ∷ rest)) ≡ written f (tokens_of (60 ∷ rest))
tokens-spelled Nothing rest e = refl
tokens-spelled (Data bytes f) rest e =
    let h = parts (begins is_text_byte bytes) _ e in
    let k = parts (list_all is_text_byte bytes) _ h.1 in
    let l = parts (not (begins_with_data f)) (is_plain f) k.1 in
    let tag = spelled_starts f rest l.1 (not_true (begins_with_data f) l.0) in
    ap (λ x. tokens_of (bytes ++ x)) tag.1
    ∙ more (bytes ++ 60 ∷ tag.0) (Text bytes) (60 ∷ tag.0) (written f (tokens_of (60 ∷ rest))) (first-data bytes tag.0 h.0 k.0)
    (ap tokens_of (sym tag.1) ∙ tokens-spelled f rest l.1)
tokens-spelled (Reference c f) rest e = absurd cc
tokens-spelled (Remark f) rest e = absurd cc
tokens-spelled (Leaf name f) rest e =
    let h = parts (is_name name) (is_plain f) e in
    more (spelled (Leaf name f) (60 ∷ rest)) (Empty name) (spelled f (60 ∷ rest)) (written f (tokens_of (60 ∷ rest)))
    (first-empty name (spelled f (60 ∷ rest)) h.0) (tokens-spelled f rest h.1)
tokens-spelled (Node name g f) rest e =
    let h = parts (is_name name) _ e in
    let k = parts (is_plain g) (is_plain f) h.1 in
    let behind = spelled f (60 ∷ rest) in
    let close = 60 ∷ 47 ∷ (name ++ 62 ∷ behind) in
    more (spelled (Node name g f) (60 ∷ rest)) (Open name) (spelled g close) (written g (Close name ∷ written f (tokens_of (60 ∷ rest))))
    (first-open name (spelled g close) h.0)
    (tokens-spelled g (47 ∷ (name ++ 62 ∷ behind)) k.0
    ∙ ap (written g) (more close (Close name) behind (written f (tokens_of (60 ∷ rest))) (first-close name behind h.0) (tokens-spelled f rest k.1)))

-- ---- a whole document

not_that : (c m : ℕ) → is_name_start m ≡ false → is_name_start c ≡ true → nat_eq c m ≡ false
not_that c m e f =
    never (nat_eq c m) (λ same. let equal : c ≡ m = is_equal c m same in
    let clash : false ≡ true = sym e ∙ ap is_name_start (sym equal) ∙ f in cc)

without_white-name : (n text : List ℕ) → begins is_name_start n ≡ true → without_white (n ++ text) ≡ n ++ text
without_white-name [] text e = absurd cc
without_white-name (c ∷ n) text e =
    λ i. cond (not_that c 32 refl e i || not_that c 9 refl e i || not_that c 13 refl e i || not_that c 10 refl e i) (without_white (n ++ text)) (c ∷ n ++ text)

tag_end-name : (n text : List ℕ) → begins is_name_start n ≡ true → tag_end (n ++ text) ≡ None
tag_end-name [] text e = absurd cc
tag_end-name (c ∷ n) text e =
    λ i. or_else (option_map (λ rest. (false, rest)) (no_mark 62 c [] (n ++ text) (not_this 62 c refl e) i))
    (option_map (λ rest. (true, rest)) (no_mark 47 c (62 ∷ []) (n ++ text) (not_this 47 c refl e) i))

value-spelled : (v rest : List ℕ) → is_value v ≡ true → value (34 ∷ (v ++ 34 ∷ rest)) ≡ Some rest
value-spelled v rest e =
    ap (λ t. or_else (behind (34 ∷ []) t) None) (run_rest (λ c. not (c == 34 || c == 60)) v 34 rest e refl)

attribute-spelled : (n v rest : List ℕ) → is_name n ≡ true → is_value v ≡ true → attribute (n ++ 61 ∷ 34 ∷ (v ++ 34 ∷ rest)) ≡ Some rest
attribute-spelled n v rest e f =
    ap (λ o. o >>= λ named. (behind (codes "=") (without_white named.1) >>= λ rest. value (without_white rest))) (name-spelled n 61 (34 ∷ (v ++ 34 ∷ rest)) e refl)
    ∙ value-spelled v rest f

tag_rest-spelled : (n v rest : List ℕ) → is_name n ≡ true → is_value v ≡ true → tag_rest (length (attribute_text n v (62 ∷ rest))) (attribute_text n v (62 ∷ rest)) ≡ Some (false, rest)
tag_rest-spelled n v rest e f =
    let more = n ++ 61 ∷ 34 ∷ (v ++ 34 ∷ 62 ∷ rest) in
    let starts = (parts (begins is_name_start n) _ e).0 in
    let bare = without_white-name n (61 ∷ 34 ∷ (v ++ 34 ∷ 62 ∷ rest)) starts in
    tag_next true (tag_end (without_white more)) (attribute (without_white more)) (62 ∷ rest) (tag_rest (length more))
    (ap tag_end bare ∙ tag_end-name n (61 ∷ 34 ∷ (v ++ 34 ∷ 62 ∷ rest)) starts) refl
    (ap attribute bare ∙ attribute-spelled n v (62 ∷ rest) e f)
    ∙ tag_rest-end (length more) (62 ∷ rest) (false, rest) refl

first-root : (root n v rest : List ℕ) → is_name root ≡ true → is_name n ≡ true → is_value v ≡ true → first_token (60 ∷ (root ++ attribute_text n v (62 ∷ rest))) ≡ Some (Open root, rest)
unfolding first_token
first-root root n v rest e f g =
    markup-name root (attribute_text n v (62 ∷ rest)) (parts (begins is_name_start root) _ e).0
    ∙ ap (λ o. o >>= λ named. (tag_rest (length named.1) named.1 >>= λ end. Some (cond end.0 (Empty named.0) (Open named.0), end.1)))
    (name-spelled root 32 (n ++ 61 ∷ 34 ∷ (v ++ 34 ∷ 62 ∷ rest)) e refl)
    ∙ ap (λ o. o >>= λ end. Some (cond end.0 (Empty root) (Open root), end.1)) (tag_rest-spelled n v rest f g)

last_data : first_token (10 ∷ []) ≡ Some (Text (10 ∷ []), [])
unfolding first_token
last_data = refl

-- the tokens after the content of the root
last_tokens : (root : List ℕ) → is_name root ≡ true → tokens_of (60 ∷ 47 ∷ (root ++ 62 ∷ 10 ∷ [])) ≡ Close root ∷ Text (10 ∷ []) ∷ End ∷ []
last_tokens root e =
    more (60 ∷ 47 ∷ (root ++ 62 ∷ 10 ∷ [])) (Close root) (10 ∷ []) (Text (10 ∷ []) ∷ End ∷ []) (first-close root (10 ∷ []) e)
    (more (10 ∷ []) (Text (10 ∷ [])) [] (End ∷ []) last_data refl)

abbrev pub document_of : List ℕ → Content → Content
document_of root inner = Data (10 ∷ []) (Node root inner (Data (10 ∷ []) Nothing))

-- the plain spelling of a document is read as the document
pub outline-spelled : (root n v : List ℕ) (inner : Content) → is_name root ≡ true → is_name n ≡ true → is_value v ≡ true → is_plain inner ≡ true → is_within 31 inner ≡ true
    → outline root (spelled_document root n v inner) ≡ Ok (record { depth = 1; name = root; text = trimmed (data_of inner) } ∷ outlined 1 inner)
outline-spelled root n v inner e f g plain within =
    let close = 60 ∷ 47 ∷ (root ++ 62 ∷ 10 ∷ []) in
    let tag = 60 ∷ (root ++ attribute_text n v (62 ∷ spelled inner close)) in
    let named = (bytes_eq-Decides root root).1 refl in
    let document : is_document root (document_of root inner) ≡ true = λ i. named i && (within i && true) in
    let inside : tokens_of (spelled inner close) ≡ written inner (Close root ∷ Text (10 ∷ []) ∷ End ∷ [])
    = tokens-spelled inner (47 ∷ (root ++ 62 ∷ 10 ∷ [])) plain ∙ ap (written inner) (last_tokens root e) in
    let all : tokens_of (10 ∷ tag) ≡ written (document_of root inner) (End ∷ [])
    = more (10 ∷ tag) (Text (10 ∷ [])) tag _ (first-data (10 ∷ []) (root ++ attribute_text n v (62 ∷ spelled inner close)) refl refl)
    (more tag (Open root) (spelled inner close) _ (first-root root n v (spelled inner close) e f g) inside) in
    written_is_read root (spelled_document root n v inner) (document_of root inner) (document, (10 ∷ tag, refl, all))
    ∙ ap (λ es. Ok (record { depth = 1; name = root; text = trimmed (data_of inner) } ∷ es)) (append-nil (outlined 1 inner))
