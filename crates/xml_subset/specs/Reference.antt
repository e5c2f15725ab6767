-- References to characters (XML 1.0, sections 4.1 and 4.6): the five that are predefined, and those by a number.
use Rattle.std.specs.Prelude.{ℕ, ◌&&◌, ◌==◌, nat_lt, nat_le, List, length, drop, codes, bytes_eq, Option, Some, None, if◌then◌else◌}
use Rattle.std.specs.List.{before_first, list_all, position_or_len}
use Rattle.std.specs.Option.{option_map_or}
use Rattle.std.specs.Char.{is_digit}
use Rattle.std.specs.Str.Parse.{digits_value}
use lib.Utf8.{scalar}
use Rattle.byte_cuts.specs.Cuts.{behind}
use Rattle.xml_subset.specs.Cut.{or_else, ◌>>=◌}

-- the character of a number: any but 0, the surrogates and what is above 0x10FFFF
abbrev pub character : ℕ → Option ℕ
character n = if nat_lt 0 n && scalar n then Some n else None

-- the number that 1 to 8 digits give
abbrev pub number : ℕ → List ℕ → Option ℕ
number radix digits =
    if nat_lt 0 (length digits) && nat_le (length digits) 8 && list_all (λ c. is_digit c radix) digits
    then Some (digits_value radix digits) else None

-- a character by its number: `#x` with hexadecimal digits or `#` with decimal ones
abbrev pub numbered : List ℕ → Option ℕ
numbered inner = do
  n ← option_map_or (number 16) (behind (codes "#x") inner) (behind (codes "#") inner >>= number 10)
  character n

-- a predefined character
abbrev pub predefined : List ℕ → Option ℕ
predefined inner =
    if bytes_eq inner (codes "lt") then Some 60
    else (if bytes_eq inner (codes "gt") then Some 62
    else (if bytes_eq inner (codes "amp") then Some 38
    else (if bytes_eq inner (codes "quot") then Some 34
    else (if bytes_eq inner (codes "apos") then Some 39
    else None))))

-- what stands after a `&`: the character whose reference ends at the first `;`, and what follows
abbrev pub reference : List ℕ → Option (ℕ × List ℕ)
reference text = do
  rest ← behind (codes ";") (drop (position_or_len (λ c. c == 59) text) text)
  c ← or_else (predefined (before_first (λ c. c == 59) text)) (numbered (before_first (λ c. c == 59) text))
  Some (c, rest)
