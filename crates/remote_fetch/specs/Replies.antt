-- What an answer of a remote comes to: its status, its length and its body (RFC 9110, section 15; RFC 9112, sections 6.3 and 7.1).
use Rattle.std.specs.Prelude.{◌≡◌, ◌⊎◌, ℕ, ◌+◌, ◌*◌, ◌<◌, ◌≤◌, Bool, true, false, ◌&&◌, ◌||◌, ◌==◌, nat_lt, if◌then◌else◌, List, [], ◌++◌, length, take, codes, Result, Ok, Err}
use Rattle.std.specs.List.{list_any}
use Rattle.std.specs.Str.{str_eq_ignore_ascii_case}
use Rattle.httparse.specs.Ascii.{crlf_bytes}
use Rattle.httparse.specs.Grammar.{ChunkLine, ReadsChunkLine, HasNoChunkLine, print_chunk_line, chunk_size}
use Rattle.http_wire.specs.declared.requests.BodyLength.{BodyLength}
use Rattle.http_wire.specs.declared.requests.BodyLength.TheVariants.{Known, Missing, Wrong}
use Rattle.http_wire.specs.declared.requests.Field.{Field}
use Rattle.http_wire.specs.Fields.{body_length, is_named}
use Rattle.remote_fetch.specs.declared.replies.Reply.{Reply}
use Rattle.remote_fetch.specs.declared.replies.Reply.TheVariants.{Body, Gone, Refused, TooLarge, Bad}
use Rattle.remote_fetch.specs.Heads.{Front, IsFront, most_passed_over}

-- the most bytes of an answer with a body of at most so many
abbrev pub answer_limit : ℕ → ℕ
answer_limit limit = 2 * limit + 65_536

-- the body comes in chunks
abbrev pub is_chunked : List Field → Bool
is_chunked fields = list_any (λ f. is_named (codes "Transfer-Encoding") f && str_eq_ignore_ascii_case f.value (codes "chunked")) fields

-- a body of a length, of which these bytes come
abbrev pub cut_body : ℕ → ℕ → List ℕ → ℕ → Reply
cut_body limit at bytes n =
    if nat_lt limit n then TooLarge else if nat_lt (length bytes) n then Bad at else Body (take n bytes)

-- a body that is not chunked: by its length, or up to the end
abbrev pub framed : ℕ → ℕ → BodyLength → List ℕ → Reply
framed limit at (Known n) bytes = cut_body limit at bytes n
framed limit at Missing bytes = if nat_lt limit (length bytes) then TooLarge else Body bytes
framed limit at Wrong bytes = Bad at

-- Chunks up to the one of size 0, after those that came before. A chunk that is not whole is bad at its size line.
pub data IsChunked (limit : ℕ) : ℕ → List ℕ → List ℕ → Reply → Type 0 where
  no_line : {at : ℕ} {before bytes : List ℕ} → HasNoChunkLine bytes → IsChunked limit at before bytes (Bad at)
  ended : {at : ℕ} {before bytes : List ℕ} (l : ChunkLine) (rest : List ℕ) → ReadsChunkLine bytes l rest → chunk_size l ≡ 0 → IsChunked limit at before bytes (Body before)
  too_long : {at : ℕ} {before bytes : List ℕ} (l : ChunkLine) (rest : List ℕ) → ReadsChunkLine bytes l rest → limit < length before + chunk_size l → 0 < chunk_size l
      → IsChunked limit at before bytes TooLarge
  cut_short : {at : ℕ} {before bytes : List ℕ} (l : ChunkLine) (rest : List ℕ) → ReadsChunkLine bytes l rest → length before + chunk_size l ≤ limit → 0 < chunk_size l
      → ((chunk more : List ℕ) → rest ≡ chunk ++ crlf_bytes ++ more → length chunk ≡ chunk_size l → ⊥) → IsChunked limit at before bytes (Bad at)
  one_more : {at : ℕ} {before bytes : List ℕ} {result : Reply} (l : ChunkLine) (chunk more : List ℕ) → ReadsChunkLine bytes l (chunk ++ crlf_bytes ++ more)
      → length chunk ≡ chunk_size l → length before + chunk_size l ≤ limit → 0 < chunk_size l
      → IsChunked limit (at + length (print_chunk_line l) + chunk_size l + 2) (before ++ chunk) more result → IsChunked limit at before bytes result

abbrev pub IsBody : ℕ → Front → List ℕ → Reply → Type 0
IsBody limit front bytes result =
    ((is_chunked front.fields ≡ true) × IsChunked limit front.ends [] bytes result)
    ⊎ ((is_chunked front.fields ≡ false) × (result ≡ framed limit front.ends (body_length front.fields) bytes))

-- 200 has a body; 404 and 410 say that nothing is there
abbrev pub is_gone_status : ℕ → Bool
is_gone_status status = (status == 404) || (status == 410)

abbrev pub without_body : ℕ → Reply
without_body status = if is_gone_status status then Gone else Refused status

-- what comes after the head, which ends an answer of so many bytes
pub data IsAfter (limit total : ℕ) : Result Front ℕ → List ℕ → Reply → Type 0 where
  broken : {at : ℕ} {bytes : List ℕ} → IsAfter limit total (Err at) bytes (Bad at)
  other_status : {front : Front} {bytes : List ℕ} → (front.status == 200) ≡ false → IsAfter limit total (Ok front) bytes (without_body front.status)
  long_answer : {front : Front} {bytes : List ℕ} → (front.status == 200) ≡ true → answer_limit limit < total → IsAfter limit total (Ok front) bytes TooLarge
  read_body : {front : Front} {bytes : List ℕ} {result : Reply} → (front.status == 200) ≡ true → total ≤ answer_limit limit
      → IsBody limit front bytes result → IsAfter limit total (Ok front) bytes result

-- what the bytes of an answer come to, whose body may have so many
abbrev pub IsAnswer : ℕ → List ℕ → Reply → Type 0
IsAnswer limit bytes result =
    (front : Result Front ℕ) × (behind : List ℕ) × IsFront most_passed_over 0 bytes front behind × IsAfter limit (length bytes) front behind result
