-- The body of an answer is within its limit, and an answer is no fault.
use native.Mathlib.Omega.{arith}
use Rattle.std.proofs.Common.{◌≡◌, ℕ, ◌≤◌, inl, inr, true, false, List, [], ◌++◌, length, take, Result, Ok, refl, sym, subst, length-append}
use Rattle.std.specs.Prelude.{nat_lt, if◌then◌else◌}
use Rattle.std.proofs.lemmas.Bool.{ltb-false}
use Rattle.std.proofs.lemmas.List.{length-take-le}
use Rattle.http_wire.specs.declared.requests.BodyLength.{BodyLength}
use Rattle.http_wire.specs.declared.requests.BodyLength.TheVariants.{Known, Missing, Wrong}
use Rattle.remote_fetch.specs.Heads.{Front}
use Rattle.remote_fetch.specs.declared.replies.Reply.{Reply}
use Rattle.remote_fetch.specs.declared.replies.Reply.TheVariants.{Body, Gone, Refused, TooLarge, Bad, Fault}
use Rattle.remote_fetch.specs.Replies.{IsAnswer, IsAfter, broken, other_status, long_answer, read_body, IsBody, IsChunked, no_line, ended, too_long, cut_short, one_more, framed, cut_body, is_gone_status, without_body}

abbrev pub IsFair : ℕ → Reply → Type 0
IsFair limit (Body bytes) = length bytes ≤ limit
IsFair limit Fault = ⊥
IsFair limit reply = Unit {0}

chunks-fair : (limit at : ℕ) (before bytes : List ℕ) (reply : Reply) → length before ≤ limit → IsChunked limit at before bytes reply → IsFair limit reply
chunks-fair limit at before bytes reply fits (no_line none) = tt
chunks-fair limit at before bytes reply fits (ended l rest reads zero_is) = fits
chunks-fair limit at before bytes reply fits (too_long l rest reads long some) = tt
chunks-fair limit at before bytes reply fits (cut_short l rest reads room some short) = tt
chunks-fair limit at before bytes reply fits (one_more l chunk more reads sized room some then_so) =
    chunks-fair limit _ (before ++ chunk) more reply (omega (arith, room, sized, length-append before chunk)) then_so

cut-fair : (limit at : ℕ) (bytes : List ℕ) (n : ℕ) → IsFair limit (cut_body limit at bytes n)
cut-fair limit at bytes n =
    elim (nat_lt limit n) as (λ long. nat_lt limit n ≡ long → IsFair limit (if long then TooLarge else if nat_lt (length bytes) n then Bad at else Body (take n bytes))) [
      | true ↦ λ long. tt
      | false ↦ λ fits.
          elim (nat_lt (length bytes) n) as (λ short. nat_lt (length bytes) n ≡ short → IsFair limit (if short then Bad at else Body (take n bytes))) [
            | true ↦ λ short. tt
            | false ↦ λ whole. omega (arith, ltb-false limit n fits, ltb-false (length bytes) n whole, length-take-le n bytes (ltb-false (length bytes) n whole))
          ] refl
    ] refl

framed-fair : (limit at : ℕ) (said : BodyLength) (bytes : List ℕ) → IsFair limit (framed limit at said bytes)
framed-fair limit at (Known n) bytes = cut-fair limit at bytes n
framed-fair limit at Missing bytes =
    elim (nat_lt limit (length bytes)) as (λ long. nat_lt limit (length bytes) ≡ long → IsFair limit (if long then TooLarge else Body bytes)) [
      | true ↦ λ long. tt
      | false ↦ λ fits. ltb-false limit (length bytes) fits
    ] refl
framed-fair limit at Wrong bytes = tt

status-fair : (limit status : ℕ) → IsFair limit (without_body status)
status-fair limit status =
    elim (is_gone_status status) as (λ gone. IsFair limit (if gone then Gone else Refused status)) [
      | true ↦ tt
      | false ↦ tt
    ]

body-fair : (limit : ℕ) (front : Front) (bytes : List ℕ) (reply : Reply) → IsBody limit front bytes reply → IsFair limit reply
body-fair limit front bytes reply (inl (is, chunks)) = chunks-fair limit front.ends [] bytes reply (omega arith) chunks
body-fair limit front bytes reply (inr (is, so)) = subst (λ r. IsFair limit r) (sym so) (framed-fair limit front.ends _ bytes)

after-fair : (limit total : ℕ) (front : Result Front ℕ) (bytes : List ℕ) (reply : Reply) → IsAfter limit total front bytes reply → IsFair limit reply
after-fair limit total front bytes reply broken = tt
after-fair limit total (Ok front) bytes reply (other_status is) = status-fair limit front.status
after-fair limit total front bytes reply (long_answer is long) = tt
after-fair limit total (Ok front) bytes reply (read_body is fits body) = body-fair limit front bytes reply body

pub answer-fair : (limit : ℕ) (bytes : List ℕ) (reply : Reply) → IsAnswer limit bytes reply → IsFair limit reply
answer-fair limit bytes reply (front, behind, is, so) = after-fair limit (length bytes) front behind reply so
