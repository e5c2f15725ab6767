-- What a wire holds once it has read from its source.
use Rattle.std.specs.Prelude.{◌≡◌, ℕ, ◌<◌, ◌≤◌, List, ◌++◌, length, Option, None}
use Rattle.outside.specs.Told.{IsAtEnd, in_front}
use Rattle.http_wire.specs.declared.wires.Found.{Found}
use Rattle.http_wire.specs.declared.wires.Found.TheVariants.{End, Full, Head}
use Rattle.http_wire.specs.Front.{head_place}
use Rattle.http_wire.specs.Search.{IsHeadAt}

-- so many bytes went from the source's front to the wire's end
abbrev pub Grows : List ℕ → Option (List ℕ) → List ℕ → Option (List ℕ) → ℕ → Type 0
Grows held left held_after left_after count =
    (given : List ℕ) × (length given ≡ count) × (held_after ≡ held ++ given) × (left ≡ in_front given left_after)

-- a whole head; no whole head, and the wire is not full and the source at its end; or no whole head in a full wire
abbrev pub IsHeld : List ℕ → Option (List ℕ) → Found → Type 0
IsHeld held left (Head start end) = (length held ≤ 8192) × IsHeadAt held start end
IsHeld held left End = (length held < 8192) × IsAtEnd left × (head_place held ≡ None)
IsHeld held left Full = (length held ≡ 8192) × (head_place held ≡ None)
