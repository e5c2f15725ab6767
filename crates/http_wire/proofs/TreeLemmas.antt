-- The tree of a printed head, and what its tests mean.
use Rattle.std.proofs.Common.{◌≡◌, ◌≢◌, ℕ, ◌+◌, ◌-◌, ◌<◌, Bool, true, false, eqb, ◌&&◌, List, [], ◌∷◌, ◌++◌, length, get_or, Option, Some, None, refl, sym, ap, ◌∙◌, subst, arith, lit<, cond, append-nil, append_assoc, length-append}
use Rattle.std.specs.Prelude.{◌==◌, count_by}
use Rattle.std.specs.List.{All, list_all}
use Rattle.std.specs.Str.{bytes_eq}
use Rattle.std.proofs.lemmas.Bool.{and_from, and_parts, le-leb, leb-true, lt-ltb, ltb-true, ne_eqb, cond-true, cond-false}
use Rattle.std.proofs.lemmas.List.Elements.{All-head, All-tail, All-cons, All-nil}
use Rattle.std.proofs.lemmas.List.Sums.{AllPass-from_list_all, list_all-from_AllPass, sum_by-cons}
use Rattle.std.proofs.lemmas.Slice.Eq.{bytes_eq-Decides}
use Rattle.std.proofs.lemmas.Str.{IsUtf8-from_is_utf8, is_utf8-from_IsUtf8}
use Rattle.std.specs.List.{flat_map}
use Rattle.httparse.specs.Grammar as grammar
use Rattle.httparse.specs.Grammar.{IsField, IsRequestHead, IsToken, LineEnd, crlf, lf, ReadsRequest, RequestHead, is_token, is_token_byte, is_uri_byte, is_value_byte, print_end, print_field, print_request, print_section, print_version}
use Rattle.httparse.proofs.GrammarLemmas.{print_request-append}
use Rattle.httparse.proofs.PieceLemmas.{Stops_token, colon_ends_token, print_field-append, space_ends_token}
use Rattle.httparse.specs.Pieces.{Stops, is_newline}
use Rattle.http_wire.specs.Head.{Head, after, before, end_of, field_tree, field_trees, head_of, head_said, head_tree, is_empty_line, is_field, is_request_head, last_end, lines_of, tree_of}
use Rattle.http_wire.proofs.CutLemmas.{Lacks, Lacks-append, Lacks-from_pass, after-append, before-append, before-return, end_of-return, lines_of-append, print_end-return, return_of}

cr_ends_token : is_token_byte 13 ≡ false
unfolding is_token_byte
cr_ends_token = refl

lf_ends_token : is_token_byte 10 ≡ false
unfolding is_token_byte
lf_ends_token = refl

-- a token has none of the bytes at which a head is cut
token_lacks : (c : ℕ) → is_token_byte c ≡ false → (word : List ℕ) → IsToken word → Lacks c word
token_lacks c fails word token = Lacks-from_pass is_token_byte c fails word token.1

-- ---- a field line

-- its bytes before the line feed
abbrev line_of : grammar.Field → List ℕ
line_of f = f.name ++ 58 ∷ (f.raw ++ return_of f.end)

print_field-line : (f : grammar.Field) (rest : List ℕ) → print_field f ++ rest ≡ line_of f ++ 10 ∷ rest
print_field-line f rest =
    print_field-append f rest
    ∙ ap (λ (l : List ℕ). f.name ++ 58 ∷ (f.raw ++ l)) (print_end-return f.end rest)
    ∙ group f.name f.raw (return_of f.end) rest
  where
    group : (name raw end rest : List ℕ) → name ++ 58 ∷ (raw ++ (end ++ 10 ∷ rest)) ≡ (name ++ 58 ∷ (raw ++ end)) ++ 10 ∷ rest
    group name raw end rest =
        ap (λ (l : List ℕ). name ++ 58 ∷ l) (sym (append_assoc raw end (10 ∷ rest)))
        ∙ sym (append_assoc name (58 ∷ (raw ++ end)) (10 ∷ rest))

return_lacks : (end : LineEnd) → Lacks 10 (return_of end)
return_lacks crlf = (λ e. cc, tt)
return_lacks lf = tt

-- the line has no line feed
line_lacks : (f : grammar.Field) → IsField f → Lacks 10 (line_of f)
line_lacks f valid =
    Lacks-append 10 f.name (58 ∷ (f.raw ++ return_of f.end)) (token_lacks 10 lf_ends_token f.name valid.name)
    (λ e. cc, Lacks-append 10 f.raw (return_of f.end) (Lacks-from_pass is_value_byte 10 refl f.raw valid.raw) (return_lacks f.end))

-- before its end it has no CR
text_lacks : (f : grammar.Field) → IsField f → Lacks 13 (f.name ++ 58 ∷ f.raw)
text_lacks f valid =
    Lacks-append 13 f.name (58 ∷ f.raw) (token_lacks 13 cr_ends_token f.name valid.name)
    (λ e. cc, Lacks-from_pass is_value_byte 13 refl f.raw valid.raw)

line_text : (f : grammar.Field) → line_of f ≡ (f.name ++ 58 ∷ f.raw) ++ return_of f.end
line_text f = sym (append_assoc f.name (58 ∷ f.raw) (return_of f.end))

field_tree-line : (f : grammar.Field) → IsField f → field_tree (line_of f) ≡ f
field_tree-line f valid =
    let name : before 58 (line_of f) ≡ f.name
    = before-append 58 f.name (f.raw ++ return_of f.end) (token_lacks 58 colon_ends_token f.name valid.name) in
    let raw : before 13 (after 58 (line_of f)) ≡ f.raw
    = ap (before 13) (after-append 58 f.name (f.raw ++ return_of f.end) (token_lacks 58 colon_ends_token f.name valid.name))
    ∙ before-return f.raw f.end (Lacks-from_pass is_value_byte 13 refl f.raw valid.raw) in
    let end : end_of (line_of f) ≡ f.end
    = ap end_of (line_text f) ∙ end_of-return (f.name ++ 58 ∷ f.raw) f.end (text_lacks f valid) in
    λ i. record { name = name i; raw = raw i; end = end i }

-- the line is not empty
pub line_is_text : (f : grammar.Field) → IsField f → is_empty_line (line_of f) ≡ false
line_is_text f valid =
    let text : before 13 (line_of f) ≡ f.name ++ 58 ∷ f.raw
    = ap (before 13) (line_text f) ∙ before-return (f.name ++ 58 ∷ f.raw) f.end (text_lacks f valid) in
    ap (λ (l : List ℕ). eqb (length l) 0) text
    ∙ ne_eqb (length (f.name ++ 58 ∷ f.raw)) 0 (λ e. omega (arith, length-append f.name (58 ∷ f.raw)))

-- ---- the field lines

abbrev section_bytes : List grammar.Field → LineEnd → List ℕ
section_bytes fields last = flat_map print_field fields ++ print_end last

lines-field : (f : grammar.Field) (fields : List grammar.Field) (last : LineEnd) → IsField f
    → lines_of (section_bytes (f ∷ fields) last) ≡ line_of f ∷ lines_of (section_bytes fields last)
lines-field f fields last valid =
    ap lines_of (append_assoc (print_field f) (flat_map print_field fields) (print_end last) ∙ print_field-line f (section_bytes fields last))
    ∙ lines_of-append (line_of f) (section_bytes fields last) (line_lacks f valid)

field_trees-section : (fields : List grammar.Field) (last : LineEnd) → All IsField fields
    → field_trees (lines_of (section_bytes fields last)) ≡ fields
field_trees-section [] crlf valid = refl
field_trees-section [] lf valid = refl
field_trees-section (f ∷ fields) last valid =
    let here = All-head IsField f fields valid in
    ap field_trees (lines-field f fields last here)
    ∙ rw (line_is_text f here, field_tree-line f here, field_trees-section fields last (All-tail IsField f fields valid)) refl

last_end-section : (fields : List grammar.Field) (last : LineEnd) → All IsField fields
    → last_end (lines_of (section_bytes fields last)) ≡ last
last_end-section [] crlf valid = refl
last_end-section [] lf valid = refl
last_end-section (f ∷ fields) last valid =
    let here = All-head IsField f fields valid in
    ap last_end (lines-field f fields last here)
    ∙ rw (line_is_text f here) (last_end-section fields last (All-tail IsField f fields valid))

-- ---- the first line

-- its bytes before the line feed
abbrev first_line : RequestHead → List ℕ
first_line h = h.method ++ 32 ∷ (h.target ++ 32 ∷ (print_version h.minor ++ return_of h.line_end))

print_request-line : (h : RequestHead) → h.blank ≡ [] → print_request h ++ [] ≡ first_line h ++ 10 ∷ section_bytes h.fields h.last
print_request-line h none =
    print_request-append h []
    ∙ ap (λ (blank : List LineEnd). grammar.print_blank blank ++ (h.method ++ 32 ∷ (h.target ++ 32 ∷ (print_version h.minor ++ (print_end h.line_end ++ (print_section h.fields h.last ++ [])))))) none
    ∙ ap (λ (l : List ℕ). h.method ++ 32 ∷ (h.target ++ 32 ∷ (print_version h.minor ++ (print_end h.line_end ++ l)))) (append-nil (print_section h.fields h.last))
    ∙ ap (λ (l : List ℕ). h.method ++ 32 ∷ (h.target ++ 32 ∷ (print_version h.minor ++ l))) (print_end-return h.line_end (print_section h.fields h.last))
    ∙ group h.method h.target (print_version h.minor) (return_of h.line_end) (print_section h.fields h.last)
  where
    group : (m t v e s : List ℕ) → m ++ 32 ∷ (t ++ 32 ∷ (v ++ (e ++ 10 ∷ s))) ≡ (m ++ 32 ∷ (t ++ 32 ∷ (v ++ e))) ++ 10 ∷ s
    group m t v e s =
        ap (λ (l : List ℕ). m ++ 32 ∷ (t ++ 32 ∷ l)) (sym (append_assoc v e (10 ∷ s)))
        ∙ ap (λ (l : List ℕ). m ++ 32 ∷ l) (sym (append_assoc t (32 ∷ (v ++ e)) (10 ∷ s)))
        ∙ sym (append_assoc m (32 ∷ (t ++ 32 ∷ (v ++ e))) (10 ∷ s))

-- the version has neither CR nor LF
version_lacks : (c minor : ℕ) → c < 47 → c ≢ 46 → Lacks c (print_version minor)
version_lacks c minor low point = (
  λ x. omega arith,
  (
    λ x. omega arith,
    (
      λ x. omega arith,
      (
        λ x. omega arith,
        (
          λ x. omega arith,
          (
            λ x. omega arith,
            (λ x. point (sym x), (λ x. omega arith, tt)),
          ),
        ),
      ),
    ),
  ),
)

first_line_lacks : (h : RequestHead) → IsRequestHead h → Lacks 10 (first_line h)
first_line_lacks h valid =
    Lacks-append 10 h.method (32 ∷ (h.target ++ 32 ∷ (print_version h.minor ++ return_of h.line_end))) (token_lacks 10 lf_ends_token h.method valid.method) (
      λ e. cc,
      Lacks-append 10 h.target (32 ∷ (print_version h.minor ++ return_of h.line_end)) (Lacks-from_pass is_uri_byte 10 refl h.target valid.target.1)
          (λ e. cc, Lacks-append 10 (print_version h.minor) (return_of h.line_end) (version_lacks 10 h.minor (lit< tt) (λ e. cc)) (return_lacks h.line_end)),
    )

abbrev first_text : RequestHead → List ℕ
first_text h = h.method ++ 32 ∷ (h.target ++ 32 ∷ print_version h.minor)

first_text_lacks : (h : RequestHead) → IsRequestHead h → Lacks 13 (first_text h)
first_text_lacks h valid =
    Lacks-append 13 h.method (32 ∷ (h.target ++ 32 ∷ print_version h.minor)) (token_lacks 13 cr_ends_token h.method valid.method) (
      λ e. cc,
      Lacks-append 13 h.target (32 ∷ print_version h.minor) (Lacks-from_pass is_uri_byte 13 refl h.target valid.target.1)
          (λ e. cc, version_lacks 13 h.minor (lit< tt) (λ e. cc)),
    )

first_line-text : (h : RequestHead) → first_line h ≡ first_text h ++ return_of h.line_end
first_line-text h = group h.method h.target (print_version h.minor) (return_of h.line_end)
  where
    group : (m t v e : List ℕ) → m ++ 32 ∷ (t ++ 32 ∷ (v ++ e)) ≡ (m ++ 32 ∷ (t ++ 32 ∷ v)) ++ e
    group m t v e =
        ap (λ (l : List ℕ). m ++ 32 ∷ l) (sym (append_assoc t (32 ∷ v) e)) ∙ sym (append_assoc m (32 ∷ (t ++ 32 ∷ v)) e)

-- cutting a printed head gives it back
head_tree-line : (h : RequestHead) → IsRequestHead h → h.blank ≡ []
    → head_tree (first_line h) (lines_of (section_bytes h.fields h.last)) ≡ h
head_tree-line h valid none =
    let behind = print_version h.minor ++ return_of h.line_end in
    let method : before 32 (first_line h) ≡ h.method
    = before-append 32 h.method (h.target ++ 32 ∷ behind) (token_lacks 32 space_ends_token h.method valid.method) in
    let second : after 32 (first_line h) ≡ h.target ++ 32 ∷ behind
    = after-append 32 h.method (h.target ++ 32 ∷ behind) (token_lacks 32 space_ends_token h.method valid.method) in
    let spaceless : Lacks 32 h.target = Lacks-from_pass is_uri_byte 32 refl h.target valid.target.1 in
    let target : before 32 (after 32 (first_line h)) ≡ h.target
    = ap (before 32) second ∙ before-append 32 h.target behind spaceless in
    let third : after 32 (after 32 (first_line h)) ≡ behind
    = ap (after 32) second ∙ after-append 32 h.target behind spaceless in
    let minor : get_or (after 32 (after 32 (first_line h))) 7 0 - 48 ≡ h.minor
    = ap (λ (l : List ℕ). get_or l 7 0 - 48) third ∙ last_digit h.minor (return_of h.line_end) in
    let line_end : end_of (first_line h) ≡ h.line_end
    = ap end_of (first_line-text h) ∙ end_of-return (first_text h) h.line_end (first_text_lacks h valid) in
    let fields = field_trees-section h.fields h.last valid.fields in
    let last = last_end-section h.fields h.last valid.fields in
    λ i. record {
      blank = sym none i;
      method = method i;
      target = target i;
      minor = minor i;
      line_end = line_end i;
      fields = fields i;
      last = last i;
    }
  where
    last_digit : (minor : ℕ) (rest : List ℕ) → get_or (print_version minor ++ rest) 7 0 - 48 ≡ minor
    last_digit minor rest = let e : 48 + minor - 48 ≡ minor = omega arith in e

tree_of-print : (bytes : List ℕ) (h : RequestHead) → ReadsRequest bytes h [] → h.blank ≡ [] → tree_of bytes ≡ h
tree_of-print bytes h reads none =
    let cut = reads.1 ∙ print_request-line h none in
    let section = section_bytes h.fields h.last in
    let line = first_line_lacks h reads.0 in
    let first : before 10 bytes ≡ first_line h = ap (before 10) cut ∙ before-append 10 (first_line h) section line in
    let rest : after 10 bytes ≡ section = ap (after 10) cut ∙ after-append 10 (first_line h) section line in
    ap (λ (l : List ℕ). head_tree l (lines_of (after 10 bytes))) first
    ∙ ap (λ (l : List ℕ). head_tree (first_line h) (lines_of l)) rest
    ∙ head_tree-line h reads.0 none

-- ---- the tests

is_token_yes : (word : List ℕ) → IsToken word → is_token word ≡ true
is_token_yes word token = and_from _ _ (lt-ltb 0 (length word) token.0) (list_all-from_AllPass is_token_byte word token.1)

is_token_means : (word : List ℕ) → is_token word ≡ true → IsToken word
is_token_means word passes =
    let parts = and_parts _ _ passes in
    (ltb-true 0 (length word) parts.0, AllPass-from_list_all is_token_byte word parts.1)

fields_yes : (fields : List grammar.Field) → All IsField fields → list_all is_field fields ≡ true
fields_yes [] valid = refl
fields_yes (f ∷ fields) valid =
    let here = All-head IsField f fields valid in
    and_from _ _ (and_from _ _ (is_token_yes f.name here.name) (list_all-from_AllPass is_value_byte f.raw here.raw))
    (fields_yes fields (All-tail IsField f fields valid))

fields_mean : (fields : List grammar.Field) → list_all is_field fields ≡ true → All IsField fields
fields_mean [] passes = All-nil IsField
fields_mean (f ∷ fields) passes =
    let parts = and_parts _ _ passes in
    let here = and_parts _ _ parts.0 in
    All-cons IsField f fields (record { name = is_token_means f.name here.0; raw = AllPass-from_list_all is_value_byte f.raw here.1 })
    (fields_mean fields parts.1)

is_request_head_yes : (h : RequestHead) → IsRequestHead h → is_request_head h ≡ true
is_request_head_yes h valid =
    and_from _ _ (is_token_yes h.method valid.method)
    (and_from _ _ (lt-ltb 0 (length h.target) valid.target.0)
    (and_from _ _ (list_all-from_AllPass is_uri_byte h.target valid.target.1)
    (and_from _ _ (is_utf8-from_IsUtf8 h.target valid.target_text)
    (and_from _ _ (le-leb h.minor 1 valid.minor) (fields_yes h.fields valid.fields)))))

is_request_head_means : (h : RequestHead) → is_request_head h ≡ true → IsRequestHead h
is_request_head_means h passes =
    let method = and_parts _ _ passes in
    let some = and_parts _ _ method.1 in
    let uri = and_parts _ _ some.1 in
    let text = and_parts _ _ uri.1 in
    let minor = and_parts _ _ text.1 in
    record {
      method = is_token_means h.method method.0;
      target = (ltb-true 0 (length h.target) some.0, AllPass-from_list_all is_uri_byte h.target uri.0);
      target_text = IsUtf8-from_is_utf8 h.target text.0;
      minor = leb-true h.minor 1 minor.0;
      fields = fields_mean h.fields minor.1;
    }

-- ---- both ways

-- what the grammar reads is the head that it says
pub head_of-reads : (bytes : List ℕ) (h : RequestHead) → ReadsRequest bytes h [] → h.blank ≡ [] → head_of bytes ≡ Some (head_said h)
unfolding head_of
head_of-reads bytes h reads none =
    let same = tree_of-print bytes h reads none in
    let printed : bytes_eq (print_request h) bytes ≡ true
    = (bytes_eq-Decides (print_request h) bytes).1 (sym (append-nil (print_request h)) ∙ sym reads.1) in
    let tests : (is_request_head h && bytes_eq (print_request h) bytes) ≡ true
    = and_from _ _ (is_request_head_yes h reads.0) printed in
    ap (λ (t : RequestHead). cond (is_request_head t && bytes_eq (print_request t) bytes) (Some (head_said t)) None) same
    ∙ cond-true _ (Some (head_said h)) None tests

-- a head is what the grammar reads
pub reads-head_of : (bytes : List ℕ) (head : Head) → head_of bytes ≡ Some head
    → (h : RequestHead) × ReadsRequest bytes h [] × (h.blank ≡ []) × (head ≡ head_said h)
unfolding head_of
reads-head_of bytes head is = by_tests (is_request_head tree && bytes_eq (print_request tree) bytes) refl
  where
    tree : RequestHead
    tree = tree_of bytes

    none_some : (o : Option Head) (h : Head) → o ≡ None → o ≡ Some h → ⊥
    none_some o h e f = cc

    by_tests : (t : Bool) → (is_request_head tree && bytes_eq (print_request tree) bytes) ≡ t
        → (h : RequestHead) × ReadsRequest bytes h [] × (h.blank ≡ []) × (head ≡ head_said h)
    by_tests true passes =
        let parts = and_parts _ _ passes in
        let given : cond (is_request_head tree && bytes_eq (print_request tree) bytes) (Some (head_said tree)) None ≡ Some (head_said tree)
        = cond-true _ (Some (head_said tree)) None passes in
        let said : Some (head_said tree) ≡ Some head = sym given ∙ is in (
          tree,
          (is_request_head_means tree parts.0, sym ((bytes_eq-Decides (print_request tree) bytes).0 parts.1) ∙ sym (append-nil (print_request tree))),
          refl,
          cc,
        )
    by_tests false other =
        let given : cond (is_request_head tree && bytes_eq (print_request tree) bytes) (Some (head_said tree)) None ≡ None
        = cond-false _ (Some (head_said tree)) None other in
        absurd (none_some _ head given is)

-- ---- how many line feeds a head has

count_line : (line rest : List ℕ) → Lacks 10 line → count_by (λ b. b == 10) (line ++ 10 ∷ rest) ≡ 1 + count_by (λ b. b == 10) rest
count_line [] rest none = sum_by-cons (λ b. cond (b == 10) 1 0) 10 rest
count_line (b ∷ line) rest none =
    let other : eqb b 10 ≡ false = ne_eqb b 10 none.0 in
    sum_by-cons (λ x. cond (x == 10) 1 0) b (line ++ 10 ∷ rest) ∙ rw other (omega (arith, count_line line rest none.1))

count_section : (fields : List grammar.Field) (last : LineEnd) → All IsField fields
    → count_by (λ b. b == 10) (section_bytes fields last) ≡ length fields + 1
count_section [] crlf valid = refl
count_section [] lf valid = refl
count_section (f ∷ fields) last valid =
    let here = All-head IsField f fields valid in
    ap (λ (l : List ℕ). count_by (λ b. b == 10) l) (append_assoc (print_field f) (flat_map print_field fields) (print_end last) ∙ print_field-line f (section_bytes fields last))
    ∙ count_line (line_of f) (section_bytes fields last) (line_lacks f here)
    ∙ omega (arith, count_section fields last (All-tail IsField f fields valid))

pub count_feeds : (bytes : List ℕ) (h : RequestHead) → ReadsRequest bytes h [] → h.blank ≡ []
    → count_by (λ b. b == 10) bytes ≡ length h.fields + 2
count_feeds bytes h reads none =
    ap (λ (l : List ℕ). count_by (λ b. b == 10) l) (reads.1 ∙ print_request-line h none)
    ∙ count_line (first_line h) (section_bytes h.fields h.last) (first_line_lacks h reads.0)
    ∙ omega (arith, count_section h.fields h.last reads.0.fields)

-- ---- the first byte

-- it is neither CR nor LF
pub first_byte : (bytes : List ℕ) (h : RequestHead) → ReadsRequest bytes h [] → h.blank ≡ [] → Stops is_newline bytes
first_byte bytes h reads none =
    let target = h.target ++ 32 ∷ (print_version h.minor ++ return_of h.line_end) in
    let section = section_bytes h.fields h.last in
    let split : bytes ≡ h.method ++ ((32 ∷ target) ++ 10 ∷ section)
    = reads.1 ∙ print_request-line h none ∙ append_assoc h.method (32 ∷ target) (10 ∷ section) in
    subst (Stops is_newline) (sym split) (Stops_token h.method ((32 ∷ target) ++ 10 ∷ section) reads.0.method.0 reads.0.method.1)
