-- What a search over bytes has found.
use Rattle.std.specs.Prelude.{◌≡◌, ℕ, List, length, None}
use Rattle.http_wire.specs.declared.search.Search.{Search}
use Rattle.http_wire.specs.declared.search.Search.TheVariants.{Found, Open}
use Rattle.http_wire.specs.Front.{head_place}
use Rattle.http_wire.specs.Search.{IsHeadAt, IsOpen}

-- a head at its place, or the search has looked at all the bytes and there is none
abbrev pub IsFoundIn : List ℕ → Search → Type 0
IsFoundIn bytes (Found start end) = IsHeadAt bytes start end
IsFoundIn bytes (Open place) =
    IsOpen bytes place.start place.line place.at × (place.at ≡ length bytes) × (head_place bytes ≡ None)
