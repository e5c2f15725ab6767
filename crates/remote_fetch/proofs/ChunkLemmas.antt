-- Steps through a chunked body.
use native.Mathlib.Omega.{arith}
use Rattle.std.proofs.Common.{◌≡◌, ℕ, ◌+◌, ◌<◌, ◌≤◌, List, [], ◌∷◌, ◌++◌, length, drop, Option, Some, None, Result, Ok, Err, IfOk, sym, ap, ◌∙◌, subst}
use Rattle.std.specs.Borrow.{Bor}
use Rattle.std.proofs.lemmas.List.{length-drop}
use Rattle.httparse.specs.Ascii.{crlf_bytes}
use Rattle.httparse.specs.Grammar.{print_chunk_line, chunk_size}
use Rattle.remote_fetch.specs.declared.replies.Reply.{Reply}
use Rattle.remote_fetch.specs.declared.replies.Reply.TheVariants.{TooLarge, Bad}
use Rattle.remote_fetch.specs.Replies.{IsChunked, too_long, cut_short, one_more}
use Rattle.remote_fetch.specs.Chunks.{IsLineGiven, IsChunkGiven}
use Rattle.remote_fetch.proofs.HeadLemmas.{drop-more}

pub line-given : (rest other : List ℕ) (given : Option (ℕ × ℕ)) → rest ≡ other → IsLineGiven rest given → IsLineGiven other given
line-given rest other given same is = subst (λ (b : List ℕ). IsLineGiven b given) same is

pub chunk-given : (size : ℕ) (rest other : List ℕ) (given : Option (Bor (List ℕ))) → rest ≡ other → IsChunkGiven size rest given → IsChunkGiven size other given
chunk-given size rest other given same is = subst (λ (b : List ℕ). IsChunkGiven size b given) same is

two-more : (chunk more : List ℕ) → length (chunk ++ crlf_bytes ++ more) ≡ length chunk + 2 + length more
two-more [] more = omega arith
two-more (b ∷ chunk) more = omega (arith, two-more chunk more)

module _ (limit at : ℕ) (before bytes : List ℕ) (given : ℕ × ℕ) (is : IsLineGiven (drop at bytes) (Some given)) where
  abbrev rest : List ℕ
  rest = drop given.0 (drop at bytes)

  pub too-long : limit < length before + given.1 → 0 < given.1 → IsChunked limit at before (drop at bytes) TooLarge
  too-long long some = too_long is.0 rest is.1 (omega (arith, long, is.3)) (omega (arith, some, is.3))

  pub cut-short : length before + given.1 ≤ limit → 0 < given.1 → IsChunkGiven given.1 rest None → IsChunked limit at before (drop at bytes) (Bad at)
  cut-short fits some none =
      cut_short is.0 rest is.1 (omega (arith, fits, is.3)) (omega (arith, some, is.3)) (λ chunk more so size_is. none chunk more so (size_is ∙ sym is.3))

  module _ (chunk : Bor (List ℕ)) (has : IsChunkGiven given.1 rest (Some chunk)) where
    lengths : length rest ≡ length chunk.now + 2 + length (drop (given.1 + 2) rest)
    lengths = ap (λ (b : List ℕ). length b) has.0 ∙ two-more chunk.now (drop (given.1 + 2) rest)

    pub within : at ≤ length bytes → at + (given.0 + given.1 + 2) ≤ length bytes
    within inside = omega (arith, inside, lengths, has.1, length-drop given.0 (drop at bytes), length-drop at bytes)

    after-it : drop (given.1 + 2) rest ≡ drop (at + (given.0 + given.1 + 2)) bytes
    after-it =
        let sum : at + given.0 + (given.1 + 2) ≡ at + (given.0 + given.1 + 2) = omega arith in
        ap (λ (b : List ℕ). drop (given.1 + 2) b) (drop-more at given.0 bytes) ∙ drop-more (at + given.0) (given.1 + 2) bytes ∙ ap (λ (k : ℕ). drop k bytes) sum

    pub one-step : (items : List ℕ) (result : Reply) → items ≡ before ++ chunk.now → length before + given.1 ≤ limit → 0 < given.1
        → IsChunked limit (at + (given.0 + given.1 + 2)) items (drop (at + (given.0 + given.1 + 2)) bytes) result → IsChunked limit at before (drop at bytes) result
    one-step items result items_are fits some so =
        let place : at + (given.0 + given.1 + 2) ≡ at + length (print_chunk_line is.0) + chunk_size is.0 + 2 = omega (arith, is.2, is.3) in
        let so_more : IsChunked limit (at + (given.0 + given.1 + 2)) items (drop (given.1 + 2) rest) result
        = subst (λ (b : List ℕ). IsChunked limit (at + (given.0 + given.1 + 2)) items b result) (sym after-it) so in
        let so_items : IsChunked limit (at + (given.0 + given.1 + 2)) (before ++ chunk.now) (drop (given.1 + 2) rest) result
        = subst (λ (b : List ℕ). IsChunked limit (at + (given.0 + given.1 + 2)) b (drop (given.1 + 2) rest) result) items_are so_more in
        one_more is.0 chunk.now (drop (given.1 + 2) rest) (is.1.0, is.1.1 ∙ ap (λ (b : List ℕ). print_chunk_line is.0 ++ b) has.0) (has.1 ∙ is.3) (omega (arith, fits, is.3)) (omega (arith, some, is.3))
        (subst (λ (k : ℕ). IsChunked limit k (before ++ chunk.now) (drop (given.1 + 2) rest) result) place so_items)

pub ok-then : {T E : Type 0} (r : Result T E) (P Q : T → Type 0) → ((x : T) → P x → Q x) → IfOk r P → IfOk r Q
ok-then (Ok x) P Q f is = f x is
ok-then (Err e) P Q f is = tt
