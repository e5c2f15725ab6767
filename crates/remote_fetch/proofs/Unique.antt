-- The bytes of an answer come to one thing.
use native.Mathlib.Omega.{arith}
use Rattle.std.proofs.Common.{◌≡◌, ℕ, ◌+◌, inl, inr, suc, List, [], ◌∷◌, ◌++◌, length, Result, Ok, refl, sym, ◌∙◌, ap, subst}
use Rattle.std.proofs.lemmas.Bool.{false≢true}
use Rattle.httparse.specs.Ascii.{crlf_bytes}
use Rattle.httparse.specs.Grammar.{ResponseHead, print_response, status_code, ChunkLine, print_chunk_line, chunk_size}
use Rattle.httparse.proofs.ChunkLemmas.{chunk_line_unique}
use Rattle.httparse.proofs.GrammarLemmas.{response_unique}
use Rattle.remote_fetch.specs.declared.replies.Reply.{Reply}
use Rattle.remote_fetch.specs.Heads.{Front, HasNoHead, HasHead, IsFront, no_head, passed_over, last_head, final_head, front_of, is_informational, most_passed_over}
use Rattle.remote_fetch.specs.Replies.{IsChunked, no_line, ended, too_long, cut_short, one_more, IsBody, IsAfter, broken, other_status, long_answer, read_body, IsAnswer}

-- the same head, and the same rest
one-head : (bytes : List ℕ) (h k : ResponseHead) (r q : List ℕ) → HasHead bytes h r → HasHead bytes k q → (h ≡ k) × (r ≡ q)
one-head bytes h k r q x y = response_unique bytes h k r q x.0 y.0

none-or : (bytes : List ℕ) (h : ResponseHead) (rest : List ℕ) → HasNoHead bytes → HasHead bytes h rest → ⊥
none-or bytes h rest none has = omega (arith, none h rest has.0, has.1)

abbrev Same : Result Front ℕ → Result Front ℕ → List ℕ → List ℕ → Type 0
Same one other behind behind' = (one ≡ other) × (behind ≡ behind')

pub front-unique : (k at : ℕ) (bytes : List ℕ) (one other : Result Front ℕ) (b c : List ℕ) → IsFront k at bytes one b → IsFront k at bytes other c → Same one other b c
front-unique k at bytes one other b c (no_head none) (no_head none') = (refl, refl)
front-unique k at bytes one other b c (no_head none) (passed_over h rest has over more) = absurd (none-or bytes h rest none has)
front-unique k at bytes one other b c (no_head none) (last_head h rest has) = absurd (none-or bytes h rest none has)
front-unique k at bytes one other b c (no_head none) (final_head h rest has final) = absurd (none-or bytes h rest none has)
front-unique k at bytes one other b c (passed_over h rest has over more) (no_head none) = absurd (none-or bytes h rest none has)
front-unique (suc k) at bytes one other b c (passed_over h rest has over more) (passed_over h' rest' has' over' more') =
    let (heads, rests) = one-head bytes h' h rest' rest has' has in
    front-unique k (at + length (print_response h)) rest one other b c more
    (subst (λ (x : ResponseHead). IsFront k (at + length (print_response x)) rest other c) heads (subst (λ (x : List ℕ). IsFront k (at + length (print_response h')) x other c) rests more'))
front-unique k at bytes one other b c (passed_over h rest has over more) (final_head h' rest' has' final) =
    let (heads, _) = one-head bytes h h' rest rest' has has' in
    absurd (false≢true (sym final ∙ ap (λ (x : ResponseHead). is_informational (status_code x)) (sym heads) ∙ over))
front-unique k at bytes one other b c (last_head h rest has) (no_head none) = absurd (none-or bytes h rest none has)
front-unique k at bytes one other b c (last_head h rest has) (last_head h' rest' has') =
    let (heads, rests) = one-head bytes h h' rest rest' has has' in (ap (λ (x : ResponseHead). Ok (front_of at x)) heads, rests)
front-unique k at bytes one other b c (last_head h rest has) (final_head h' rest' has' final) =
    let (heads, rests) = one-head bytes h h' rest rest' has has' in (ap (λ (x : ResponseHead). Ok (front_of at x)) heads, rests)
front-unique k at bytes one other b c (final_head h rest has final) (no_head none) = absurd (none-or bytes h rest none has)
front-unique k at bytes one other b c (final_head h rest has final) (passed_over h' rest' has' over more) =
    let (heads, _) = one-head bytes h h' rest rest' has has' in
    absurd (false≢true (sym final ∙ ap (λ (x : ResponseHead). is_informational (status_code x)) heads ∙ over))
front-unique k at bytes one other b c (final_head h rest has final) (last_head h' rest' has') =
    let (heads, rests) = one-head bytes h h' rest rest' has has' in (ap (λ (x : ResponseHead). Ok (front_of at x)) heads, rests)
front-unique k at bytes one other b c (final_head h rest has final) (final_head h' rest' has' final') =
    let (heads, rests) = one-head bytes h h' rest rest' has has' in (ap (λ (x : ResponseHead). Ok (front_of at x)) heads, rests)

-- chunks
same-front : (xs ys us vs : List ℕ) → length xs ≡ length ys → xs ++ us ≡ ys ++ vs → (xs ≡ ys) × (us ≡ vs)
same-front [] [] us vs _ is = (refl, is)
same-front [] (y ∷ ys) us vs lengths is = absurd (omega (arith, lengths))
same-front (x ∷ xs) [] us vs lengths is = absurd (omega (arith, lengths))
same-front (x ∷ xs) (y ∷ ys) us vs lengths is =
    let first : x ≡ y = cc in
    let then_is : xs ++ us ≡ ys ++ vs = cc in
    let (fronts, rests) = same-front xs ys us vs (omega (arith, lengths)) then_is in
    (ap (λ (b : ℕ). b ∷ xs) first ∙ ap (λ (l : List ℕ). y ∷ l) fronts, rests)

end-two : (chunk : List ℕ) → length (chunk ++ crlf_bytes) ≡ length chunk + 2
end-two [] = refl
end-two (b ∷ chunk) = omega (arith, end-two chunk)

pub chunked-unique : (limit at : ℕ) (before bytes : List ℕ) (one other : Reply) → IsChunked limit at before bytes one → IsChunked limit at before bytes other → one ≡ other
chunked-unique limit at before bytes one other (no_line none) (no_line none') = refl
chunked-unique limit at before bytes one other (no_line none) (ended l' rest' reads' zero_is') = absurd (none l' rest' reads')
chunked-unique limit at before bytes one other (no_line none) (too_long l' rest' reads' long' some') = absurd (none l' rest' reads')
chunked-unique limit at before bytes one other (no_line none) (cut_short l' rest' reads' fits' some' short') = absurd (none l' rest' reads')
chunked-unique limit at before bytes one other (no_line none) (one_more l' chunk' more' reads' sized' fits' some' then_so') = absurd (none l' (chunk' ++ crlf_bytes ++ more') reads')
chunked-unique limit at before bytes one other (ended l rest reads zero_is) (no_line none') = absurd (none' l rest reads)
chunked-unique limit at before bytes one other (ended l rest reads zero_is) (ended l' rest' reads' zero_is') = refl
chunked-unique limit at before bytes one other (ended l rest reads zero_is) (too_long l' rest' reads' long' some') =
    let (lines, rests) = chunk_line_unique bytes l l' rest rest' reads reads' in
    let sizes : chunk_size l ≡ chunk_size l' = ap chunk_size lines in
    absurd (omega (arith, sizes, zero_is, some'))
chunked-unique limit at before bytes one other (ended l rest reads zero_is) (cut_short l' rest' reads' fits' some' short') =
    let (lines, rests) = chunk_line_unique bytes l l' rest rest' reads reads' in
    let sizes : chunk_size l ≡ chunk_size l' = ap chunk_size lines in
    absurd (omega (arith, sizes, zero_is, some'))
chunked-unique limit at before bytes one other (ended l rest reads zero_is) (one_more l' chunk' more' reads' sized' fits' some' then_so') =
    let (lines, rests) = chunk_line_unique bytes l l' rest (chunk' ++ crlf_bytes ++ more') reads reads' in
    let sizes : chunk_size l ≡ chunk_size l' = ap chunk_size lines in
    absurd (omega (arith, sizes, zero_is, some'))
chunked-unique limit at before bytes one other (too_long l rest reads long some) (no_line none') = absurd (none' l rest reads)
chunked-unique limit at before bytes one other (too_long l rest reads long some) (ended l' rest' reads' zero_is') =
    let (lines, rests) = chunk_line_unique bytes l l' rest rest' reads reads' in
    let sizes : chunk_size l ≡ chunk_size l' = ap chunk_size lines in
    absurd (omega (arith, sizes, zero_is', some))
chunked-unique limit at before bytes one other (too_long l rest reads long some) (too_long l' rest' reads' long' some') = refl
chunked-unique limit at before bytes one other (too_long l rest reads long some) (cut_short l' rest' reads' fits' some' short') =
    let (lines, rests) = chunk_line_unique bytes l l' rest rest' reads reads' in
    let sizes : chunk_size l ≡ chunk_size l' = ap chunk_size lines in
    absurd (omega (arith, sizes, long, fits'))
chunked-unique limit at before bytes one other (too_long l rest reads long some) (one_more l' chunk' more' reads' sized' fits' some' then_so') =
    let (lines, rests) = chunk_line_unique bytes l l' rest (chunk' ++ crlf_bytes ++ more') reads reads' in
    let sizes : chunk_size l ≡ chunk_size l' = ap chunk_size lines in
    absurd (omega (arith, sizes, long, fits'))
chunked-unique limit at before bytes one other (cut_short l rest reads fits some short) (no_line none') = absurd (none' l rest reads)
chunked-unique limit at before bytes one other (cut_short l rest reads fits some short) (ended l' rest' reads' zero_is') =
    let (lines, rests) = chunk_line_unique bytes l l' rest rest' reads reads' in
    let sizes : chunk_size l ≡ chunk_size l' = ap chunk_size lines in
    absurd (omega (arith, sizes, zero_is', some))
chunked-unique limit at before bytes one other (cut_short l rest reads fits some short) (too_long l' rest' reads' long' some') =
    let (lines, rests) = chunk_line_unique bytes l l' rest rest' reads reads' in
    let sizes : chunk_size l ≡ chunk_size l' = ap chunk_size lines in
    absurd (omega (arith, sizes, long', fits))
chunked-unique limit at before bytes one other (cut_short l rest reads fits some short) (cut_short l' rest' reads' fits' some' short') = refl
chunked-unique limit at before bytes one other (cut_short l rest reads fits some short) (one_more l' chunk' more' reads' sized' fits' some' then_so') =
    let (lines, rests) = chunk_line_unique bytes l l' rest (chunk' ++ crlf_bytes ++ more') reads reads' in
    let sizes : chunk_size l ≡ chunk_size l' = ap chunk_size lines in
    absurd (short chunk' more' rests (sized' ∙ sym sizes))
chunked-unique limit at before bytes one other (one_more l chunk more reads sized fits some then_so) (no_line none') = absurd (none' l (chunk ++ crlf_bytes ++ more) reads)
chunked-unique limit at before bytes one other (one_more l chunk more reads sized fits some then_so) (ended l' rest' reads' zero_is') =
    let (lines, rests) = chunk_line_unique bytes l l' (chunk ++ crlf_bytes ++ more) rest' reads reads' in
    let sizes : chunk_size l ≡ chunk_size l' = ap chunk_size lines in
    absurd (omega (arith, sizes, zero_is', some))
chunked-unique limit at before bytes one other (one_more l chunk more reads sized fits some then_so) (too_long l' rest' reads' long' some') =
    let (lines, rests) = chunk_line_unique bytes l l' (chunk ++ crlf_bytes ++ more) rest' reads reads' in
    let sizes : chunk_size l ≡ chunk_size l' = ap chunk_size lines in
    absurd (omega (arith, sizes, long', fits))
chunked-unique limit at before bytes one other (one_more l chunk more reads sized fits some then_so) (cut_short l' rest' reads' fits' some' short') =
    let (lines, rests) = chunk_line_unique bytes l l' (chunk ++ crlf_bytes ++ more) rest' reads reads' in
    let sizes : chunk_size l ≡ chunk_size l' = ap chunk_size lines in
    absurd (short' chunk more (sym rests) (sized ∙ sizes))
chunked-unique limit at before bytes one other (one_more l chunk more reads sized fits some then_so) (one_more l' chunk' more' reads' sized' fits' some' then_so') =
    let (lines, rests) = chunk_line_unique bytes l l' (chunk ++ crlf_bytes ++ more) (chunk' ++ crlf_bytes ++ more') reads reads' in
    let sizes : chunk_size l ≡ chunk_size l' = ap chunk_size lines in
    let alike : length chunk ≡ length chunk' = sized ∙ sizes ∙ sym sized' in
    let (fronts, mores) = same-front (chunk ++ crlf_bytes) (chunk' ++ crlf_bytes) more more' (end-two chunk ∙ ap (λ (k : ℕ). k + 2) alike ∙ sym (end-two chunk')) rests in
    let (chunks, _) = same-front chunk chunk' crlf_bytes crlf_bytes alike fronts in
    let place : at + length (print_chunk_line l') + chunk_size l' + 2 ≡ at + length (print_chunk_line l) + chunk_size l + 2 = ap (λ (x : ChunkLine). at + length (print_chunk_line x) + chunk_size x + 2) (sym lines) in
    chunked-unique limit (at + length (print_chunk_line l) + chunk_size l + 2) (before ++ chunk) more one other then_so
    (subst (λ (k : ℕ). IsChunked limit k (before ++ chunk) more other) place
    (subst (λ (c : List ℕ). IsChunked limit (at + length (print_chunk_line l') + chunk_size l' + 2) (before ++ c) more other) (sym chunks)
    (subst (λ (m : List ℕ). IsChunked limit (at + length (print_chunk_line l') + chunk_size l' + 2) (before ++ chunk') m other) (sym mores) then_so')))

body-unique : (limit : ℕ) (front : Front) (bytes : List ℕ) (one other : Reply) → IsBody limit front bytes one → IsBody limit front bytes other → one ≡ other
body-unique limit front bytes one other (inl (is, chunks)) (inl (is', chunks')) = chunked-unique limit front.ends [] bytes one other chunks chunks'
body-unique limit front bytes one other (inl (is, chunks)) (inr (is', framed_so)) = absurd (false≢true (sym is' ∙ is))
body-unique limit front bytes one other (inr (is, framed_so)) (inl (is', chunks)) = absurd (false≢true (sym is ∙ is'))
body-unique limit front bytes one other (inr (is, framed_so)) (inr (is', framed_so')) = framed_so ∙ sym framed_so'

after-unique : (limit total : ℕ) (front : Result Front ℕ) (bytes : List ℕ) (one other : Reply) → IsAfter limit total front bytes one → IsAfter limit total front bytes other → one ≡ other
after-unique limit total front bytes one other broken broken = refl
after-unique limit total front bytes one other (other_status is) (other_status is') = refl
after-unique limit total front bytes one other (other_status is) (long_answer is' long) = absurd (false≢true (sym is ∙ is'))
after-unique limit total front bytes one other (other_status is) (read_body is' fits body) = absurd (false≢true (sym is ∙ is'))
after-unique limit total front bytes one other (long_answer is long) (other_status is') = absurd (false≢true (sym is' ∙ is))
after-unique limit total front bytes one other (long_answer is long) (long_answer is' long') = refl
after-unique limit total front bytes one other (long_answer is long) (read_body is' fits body) = absurd (omega (arith, long, fits))
after-unique limit total front bytes one other (read_body is fits body) (other_status is') = absurd (false≢true (sym is' ∙ is))
after-unique limit total front bytes one other (read_body is fits body) (long_answer is' long) = absurd (omega (arith, long, fits))
after-unique limit total (Ok front) bytes one other (read_body is fits body) (read_body is' fits' body') = body-unique limit front bytes one other body body'

pub answer-unique : (limit : ℕ) (bytes : List ℕ) (one other : Reply) → IsAnswer limit bytes one → IsAnswer limit bytes other → one ≡ other
answer-unique limit bytes one other (front, behind, is, comes) (front', behind', is', comes') =
    let (fronts, behinds) = front-unique most_passed_over 0 bytes front' front behind' behind is' is in
    after-unique limit (length bytes) front behind one other comes
    (subst (λ (f : Result Front ℕ). IsAfter limit (length bytes) f behind other) fronts (subst (λ (b : List ℕ). IsAfter limit (length bytes) front' b other) behinds comes'))
