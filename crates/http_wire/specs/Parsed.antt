-- What the reading of one cut head gives.
use Rattle.std.specs.Prelude.{◌≡◌, ℕ, Bool, false, List, [], ◌∷◌, ◌++◌, Some, Result, Ok, Err}
use Rattle.httparse.specs.Spans.{span_bytes}
use Rattle.httparse.specs.declared.spans.HeaderSpan.{HeaderSpan}
use Rattle.http_wire.specs.declared.faults.HeadFault.{HeadFault}
use Rattle.http_wire.specs.declared.requests.Field.{Field}
use Rattle.http_wire.specs.Front.{Bad, Whole, front, is_line_byte, judged}
use Rattle.http_wire.specs.Head.{Head, head_of}

-- the first byte is CR or LF
abbrev pub begins_line : List ℕ → Bool
begins_line [] = false
begins_line (b ∷ bytes) = is_line_byte b

-- the name and the value that the spans cover
abbrev pub field_at : List ℕ → HeaderSpan → Field
field_at bytes span = record { name = span_bytes bytes span.name; value = span_bytes bytes span.value }

-- the head, or why it is refused, whatever follows it
abbrev pub IsJudged : List ℕ → Result Head HeadFault → Type 0
IsJudged bytes (Ok head) = (rest : List ℕ) → judged bytes rest ≡ Whole head rest
IsJudged bytes (Err fault) = (rest : List ℕ) → judged bytes rest ≡ Bad fault

-- a head was taken off what was held, or is refused and nothing is used up
abbrev pub IsTaken : List ℕ → List ℕ → Result Head HeadFault → Type 0
IsTaken held held_after (Ok head) =
    ((more : List ℕ) → front (held ++ more) ≡ Whole head (held_after ++ more))
    × ((bytes : List ℕ) × (head_of bytes ≡ Some head))
IsTaken held held_after (Err fault) =
    ((more : List ℕ) → front (held ++ more) ≡ Bad fault) × (held_after ≡ held)
