-- What httparse answers of a cut head, as the head that the bytes spell.
use Rattle.std.proofs.Common.{◌≡◌, ℕ, ◌<◌, ◌≤◌, Bool, true, false, ltb, cond, List, [], ◌∷◌, ◌++◌, length, take, drop, map, Option, Some, None, Result, Ok, Err, refl, sym, ap, ◌∙◌, subst, arith, append-nil}
use Rattle.std.specs.Prelude.{IsSome, OnErr, count_by, ◌==◌}
use Rattle.std.proofs.lemmas.Bool.{le-ltb, lt-ltb}
use Rattle.std.proofs.lemmas.List.{drop_all}
use Rattle.http_header.specs.Token as http
use Rattle.httparse.specs.declared.Error.{Error}
use Rattle.httparse.specs.declared.Status.{Status}
use Rattle.httparse.specs.declared.Status.TheVariants.{Complete, Partial}
use Rattle.httparse.specs.declared.spans.HeaderSpan.{HeaderSpan}
use Rattle.httparse.specs.declared.spans.RequestSpans.{RequestSpans}
use Rattle.httparse.specs.Grammar as grammar
use Rattle.httparse.specs.Grammar.{IsToken, LineEnd, crlf, lf, ReadsRequest, RequestHead, is_token_byte, print_blank, print_request}
use Rattle.httparse.specs.Outcome.{IsCompleteAnd}
use Rattle.httparse.specs.Spans.{FindsRequest, IsRequestAt, header_bytes, name_and_value, span_bytes}
use Rattle.httparse.specs.Pieces.{Stops, is_newline}
use Rattle.httparse.proofs.GrammarLemmas.{print_request-append}
use Rattle.http_wire.specs.declared.requests.Field.{Field}
use Rattle.http_wire.specs.Front.{judged, whole_of, Bad, Whole}
use Rattle.http_wire.specs.declared.faults.HeadFault.TheVariants.{TooLong}
use Rattle.http_wire.specs.Head.{Head, field_said, head_of}
use Rattle.http_wire.specs.Parsed.{begins_line, field_at}
use Rattle.http_wire.proofs.TreeLemmas.{count_feeds, first_byte, head_of-reads, reads-head_of}

-- one class of bytes under two names
pub token_same : (word : List ℕ) → IsToken word → http.IsToken word
unfolding is_token_byte http.is_token_byte
token_same word token = token

pub on_err : {T E : Type 0} (r : Result T E) (P : Type 0) → P → OnErr r P
on_err (Ok v) P p = tt
on_err (Err e) P p = p

pub some_is : {A : Type 0} (o : Option A) (a : A) → o ≡ Some a → IsSome o
some_is o a e = rw e refl

pub none_some : {A : Type 0} (o : Option A) → o ≡ None → IsSome o → ⊥
none_some None e some = cc
none_some (Some a) e some = cc

-- no blank line is before a head that begins with another byte
no_blank : (ends : List LineEnd) (bytes rest : List ℕ) → bytes ≡ print_blank ends ++ rest → begins_line bytes ≡ false → ends ≡ []
no_blank [] bytes rest is other = refl
no_blank (crlf ∷ ends) bytes rest is other = let line : begins_line bytes ≡ true = ap begins_line is in absurd (cc)
no_blank (lf ∷ ends) bytes rest is other = let line : begins_line bytes ≡ true = ap begins_line is in absurd (cc)

pub blank_none : (bytes : List ℕ) (h : RequestHead) (rest : List ℕ) → begins_line bytes ≡ false → ReadsRequest bytes h rest → h.blank ≡ []
blank_none bytes h rest other reads = no_blank h.blank bytes _ (reads.1 ∙ print_request-append h rest) other

-- a head doesn't begin with CR or LF
pub head_of_line : (bytes : List ℕ) → begins_line bytes ≡ true → head_of bytes ≡ None
head_of_line bytes line = by_head (head_of bytes) refl
  where
    stopped : (text : List ℕ) → Stops is_newline text → begins_line text ≡ true → ⊥
    stopped [] stops is = stops
    stopped (b ∷ text) stops is = cc

    by_head : (o : Option Head) → head_of bytes ≡ o → head_of bytes ≡ None
    by_head None is = is
    by_head (Some head) is =
        let read = reads-head_of bytes head is in absurd (stopped bytes (first_byte bytes read.0 read.1 read.2) line)

-- the fields that the spans cover are those of the head
fields_same : (bytes : List ℕ) (spans : List HeaderSpan) (fields : List grammar.Field)
    → map (header_bytes bytes) spans ≡ map name_and_value fields → map (field_at bytes) spans ≡ map field_said fields
fields_same bytes spans fields same = spanned spans ∙ ap (map both) same ∙ said fields
  where
    both : List ℕ × List ℕ → Field
    both p = record { name = p.0; value = p.1 }

    spanned : (xs : List HeaderSpan) → map (field_at bytes) xs ≡ map both (map (header_bytes bytes) xs)
    spanned [] = refl
    spanned (x ∷ xs) = ap (λ (l : List Field). field_at bytes x ∷ l) (spanned xs)

    said : (xs : List grammar.Field) → map both (map name_and_value xs) ≡ map field_said xs
    said [] = refl
    said (x ∷ xs) = ap (λ (l : List Field). field_said x ∷ l) (said xs)

-- what the spans cover is the head that the bytes spell
pub head_of_spans : (bytes : List ℕ) (spans : List HeaderSpan) (r : RequestSpans) (h : RequestHead)
    → IsRequestAt bytes spans r h → r.len ≡ length bytes → begins_line bytes ≡ false
    → head_of bytes ≡ Some (record {
      method = span_bytes bytes r.method;
      target = span_bytes bytes r.path;
      old = r.version == 0;
      fields = map (field_at bytes) (take r.headers spans);
    })
head_of_spans bytes spans r h at whole other =
    let nothing : drop r.len bytes ≡ [] = drop_all r.len bytes (omega arith) in
    let reads : ReadsRequest bytes h [] = subst (λ (rest : List ℕ). ReadsRequest bytes h rest) nothing at.reads in
    let fields = fields_same bytes (take r.headers spans) h.fields at.fields in
    head_of-reads bytes h reads (blank_none bytes h [] other reads)
    ∙ ap Some (λ i. record {
      method = sym at.method i;
      target = sym at.path i;
      old = sym at.version i == 0;
      fields = sym fields i;
    })

-- where httparse finds no head as long as the bytes, they spell none
pub head_of_none : (bytes : List ℕ) (spans : List HeaderSpan) (r : Result (Status RequestSpans) Error)
    → FindsRequest bytes 64 spans r → count_by (λ b. b == 10) bytes ≤ 66
    → (IsCompleteAnd r (λ found. found.len ≡ length bytes) → ⊥) → head_of bytes ≡ None
head_of_none bytes spans r finds few other = by_head (head_of bytes) refl
  where
    whole : (h : RequestHead) → ReadsRequest bytes h [] → (result : Result (Status RequestSpans) Error)
        → IsCompleteAnd result (λ found. IsRequestAt bytes spans found h) → IsCompleteAnd result (λ found. found.len ≡ length bytes)
    whole h reads (Ok (Complete found)) at = at.len ∙ ap length (sym (append-nil (print_request h))) ∙ ap length (sym reads.1)
    whole h reads (Ok Partial) at = at
    whole h reads (Err e) at = at

    by_head : (o : Option Head) → head_of bytes ≡ o → head_of bytes ≡ None
    by_head None is = is
    by_head (Some head) is =
        let read = reads-head_of bytes head is in
        let h = read.0 in
        absurd (other (whole h read.1 r (finds h [] read.1 (omega (arith, few, count_feeds bytes h read.1 read.2)))))

-- ---- the judgement

pub judged_long : (bytes rest : List ℕ) → 66 < count_by (λ b. b == 10) bytes → judged bytes rest ≡ Bad TooLong
unfolding judged
judged_long bytes rest over = by_count (count_by (λ b. b == 10) bytes) over
  where
    by_count : (n : ℕ) → 66 < n → cond (ltb 66 n) (Bad TooLong) (whole_of (head_of bytes) rest) ≡ Bad TooLong
    by_count n lt = rw (lt-ltb 66 n lt) refl

pub judged_read : (bytes rest : List ℕ) (o : Option Head) → count_by (λ b. b == 10) bytes ≤ 66 → head_of bytes ≡ o
    → judged bytes rest ≡ whole_of o rest
unfolding judged
judged_read bytes rest o few is = by_count (count_by (λ b. b == 10) bytes) few ∙ ap (λ (q : Option Head). whole_of q rest) is
  where
    by_count : (n : ℕ) → n ≤ 66 → cond (ltb 66 n) (Bad TooLong) (whole_of (head_of bytes) rest) ≡ whole_of (head_of bytes) rest
    by_count n le = rw (le-ltb 66 n le) refl

-- a head that is judged whole is spelled by its bytes
pub judged_spelled : (bytes rest : List ℕ) (head : Head) → judged bytes rest ≡ Whole head rest → head_of bytes ≡ Some head
unfolding judged
judged_spelled bytes rest head = by_count (ltb 66 (count_by (λ b. b == 10) bytes)) (head_of bytes)
  where
    by_count : (t : Bool) (o : Option Head) → cond t (Bad TooLong) (whole_of o rest) ≡ Whole head rest → o ≡ Some head
    by_count true o is = absurd (cc)
    by_count false None is = absurd (cc)
    by_count false (Some h) is = let same : h ≡ head = cc in ap Some same
