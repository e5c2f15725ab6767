-- How a search for a head goes on, byte by byte.
use Rattle.std.proofs.Common.{◌≡◌, ◌≢◌, ℕ, ◌+◌, ◌-◌, ◌<◌, ◌≤◌, ◌⊎◌, inl, inr, Option, rules, List, [], ◌∷◌, ◌++◌, length, take, get_or, slice_range, Some, None, refl, sym, ap, ◌∙◌, arith, append_assoc, length-append, get_or-take, get_or-drop}
use Rattle.std.proofs.lemmas.List.{take-append-le, take_all, take_more}
use Rattle.std.proofs.lemmas.List.Elements.{All-from_get_or, recursion_from_All}
use Rattle.httparse.proofs.RunLemmas.{length-slice_range}
use Rattle.http_wire.specs.Front.{head_place}
use Rattle.http_wire.specs.Search.{IsHeadAt, IsOpen, moved, place_from}
use Rattle.http_wire.proofs.PlaceLemmas.{HasNoFeed, IsEmptyLine, place_from_blank, place_from_end, place_from_found, place_from_text, pair}
use Rattle.std.proofs.Math.Seq.{take-add}

-- the line that isn't ended has no line feed
pub line_has_none : {bytes : List ℕ} {start line at : ℕ} → IsOpen bytes start line at → HasNoFeed (slice_range bytes line at)
line_has_none {bytes} {start} {line} {at} h =
    recursion_from_All (λ b. b ≢ 10) (slice_range bytes line at) (All-from_get_or (λ b. b ≢ 10) (slice_range bytes line at) 0 λ i below.
    let inside : i < at - line = omega (arith, length-slice_range bytes line at h.lined h.within) in
    rw (get_or-take, get_or-drop) (h.unended (line + i) (omega arith) (omega arith)))

-- the bytes up to a place beyond the line are those before the line, and the rest
pub take_line : (bytes : List ℕ) (line at : ℕ) → line ≤ at → take at bytes ≡ take line bytes ++ slice_range bytes line at
take_line bytes line at ordered =
    let sum : at ≡ line + (at - line) = omega arith in
    ap (λ (n : ℕ). take n bytes) sum ∙ take-add line (at - line) bytes

-- a line feed at `at`: the place comes from the line, it and what follows
pub place_at_feed : {bytes : List ℕ} {start line at : ℕ} → IsOpen bytes start line at → at < length bytes → get_or bytes at 0 ≡ 10
    → (following : List ℕ) → head_place (take (at + 1) bytes ++ following) ≡ place_from start line (slice_range bytes line at ++ 10 ∷ following)
place_at_feed {bytes} {start} {line} {at} h inside feed following =
    ap head_place (parts (take (at + 1) bytes) (take at bytes) (take line bytes) (slice_range bytes line at) (get_or bytes at 0) (take_more bytes at 0 inside) (take_line bytes line at h.lined) feed)
    ∙ h.lines (slice_range bytes line at ++ 10 ∷ following)
  where
    parts : (all before first last : List ℕ) (b : ℕ) → all ≡ before ++ b ∷ [] → before ≡ first ++ last → b ≡ 10
        → all ++ following ≡ first ++ (last ++ 10 ∷ following)
    parts all before first last b e f g = rw (e, f, g) (append_assoc (first ++ last) (10 ∷ []) following ∙ append_assoc first last (10 ∷ following))

-- how far it is to the end of the line
next_line : {bytes : List ℕ} {start line at : ℕ} → IsOpen bytes start line at → line + length (slice_range bytes line at) + 1 ≡ at + 1
next_line {bytes} {start} {line} {at} h = let len = length-slice_range bytes line at h.lined h.within in omega (arith, h.lined, len)

-- a byte that is no line feed
pub open_byte : {bytes : List ℕ} {start line at : ℕ} → IsOpen bytes start line at → at < length bytes → get_or bytes at 0 ≢ 10
    → IsOpen bytes start line (at + 1)
open_byte {bytes} {start} {line} {at} h inside other = record {
  started = h.started;
  lined = omega (arith, h.lined);
  within = omega arith;
  lines = h.lines;
  unended = λ k low high. by_place k low (le_split k at (omega arith));
}
  where
    le_split : (k n : ℕ) → k ≤ n → (k < n) ⊎ (k ≡ n)
    le_split k n le = search (rules, arith)

    by_place : (k : ℕ) → line ≤ k → (k < at) ⊎ (k ≡ at) → get_or bytes k 0 ≢ 10
    by_place k low (inl below) = h.unended k low below
    by_place k low (inr e) = λ is. other (ap (λ (n : ℕ). get_or bytes n 0) (sym e) ∙ is)

-- a line that isn't empty
pub open_text : {bytes : List ℕ} {start line at : ℕ} → IsOpen bytes start line at → at < length bytes → get_or bytes at 0 ≡ 10
    → ¬ (IsEmptyLine (slice_range bytes line at)) → IsOpen bytes start (at + 1) (at + 1)
open_text {bytes} {start} {line} {at} h inside feed text = record {
  started = omega (arith, h.started, h.lined);
  lined = omega arith;
  within = omega arith;
  lines = λ following. place_at_feed h inside feed following
      ∙ place_from_text (slice_range bytes line at) start line following h.started (line_has_none h) text
      ∙ ap (λ (n : ℕ). place_from start n following) (next_line h);
  unended = λ k low high. absurd (omega arith);
}

-- a blank line
pub open_blank : {bytes : List ℕ} {start line at : ℕ} → IsOpen bytes start line at → at < length bytes → get_or bytes at 0 ≡ 10
    → IsEmptyLine (slice_range bytes line at) → line ≤ start → IsOpen bytes (at + 1) (at + 1) (at + 1)
open_blank {bytes} {start} {line} {at} h inside feed empty late = record {
  started = omega arith;
  lined = omega arith;
  within = omega arith;
  lines = λ following. place_at_feed h inside feed following
      ∙ ap (λ (n : ℕ). place_from n line (slice_range bytes line at ++ 10 ∷ following)) same
      ∙ place_from_blank (slice_range bytes line at) line following empty
      ∙ ap (λ (n : ℕ). place_from n n following) (next_line h);
  unended = λ k low high. absurd (omega arith);
}
  where
    same : start ≡ line
    same = omega (arith, h.started)

-- the empty line after the head
pub head_at : {bytes : List ℕ} {start line at : ℕ} → IsOpen bytes start line at → at < length bytes → get_or bytes at 0 ≡ 10
    → IsEmptyLine (slice_range bytes line at) → start < line → IsHeadAt bytes start (at + 1)
head_at {bytes} {start} {line} {at} h inside feed empty below = record {
  ordered = omega (arith, h.lined);
  within = omega arith;
  place = λ following. place_at_feed h inside feed following
      ∙ place_from_found (slice_range bytes line at) start line following below empty
      ∙ ap (λ (n : ℕ). Some (start, n)) (next_line h);
}

-- there is no whole head in the bytes that were looked at
pub none_open : {bytes : List ℕ} {start line at : ℕ} → IsOpen bytes start line at → length bytes ≤ at → head_place bytes ≡ None
none_open {bytes} {start} {line} {at} h all =
    let whole : take line bytes ++ slice_range bytes line at ≡ bytes = sym (take_line bytes line at h.lined) ∙ take_all at bytes all in
    ap head_place (sym whole) ∙ h.lines (slice_range bytes line at)
    ∙ place_from_end (slice_range bytes line at) start line (line_has_none h)

-- before anything was looked at
pub open_start : (bytes : List ℕ) → IsOpen bytes 0 0 0
unfolding place_from
open_start bytes = record {
  started = omega arith;
  lined = omega arith;
  within = omega arith;
  lines = λ following. id (head_place following);
  unended = λ k low high. absurd (omega arith);
}
  where
    id : (o : Option (ℕ × ℕ)) → o ≡ moved 0 o
    id None = refl
    id (Some p) = ap Some (pair p.0 p.1 (0 + p.0) (0 + p.1) (omega arith) (omega arith))

-- more bytes after those that were looked at
pub open_more : {bytes : List ℕ} {start line at : ℕ} → IsOpen bytes start line at → (more : List ℕ) → IsOpen (bytes ++ more) start line at
open_more {bytes} {start} {line} {at} h more = record {
  started = h.started;
  lined = h.lined;
  within = omega (arith, length-append bytes more, h.within);
  lines = λ following. ap (λ (l : List ℕ). head_place (l ++ following)) (take-append-le line bytes more (omega (arith, h.lined, h.within))) ∙ h.lines following;
  unended = λ k low high is. h.unended k low high (sym (same k high) ∙ is);
}
  where
    same : (k : ℕ) → k < at → get_or (bytes ++ more) k 0 ≡ get_or bytes k 0
    same k high =
        sym (get_or-take at (bytes ++ more) k 0 high)
        ∙ ap (λ (l : List ℕ). get_or l k 0) (take-append-le at bytes more h.within)
        ∙ get_or-take at bytes k 0 high
