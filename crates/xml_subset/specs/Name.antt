-- Names (XML 1.0, section 2.3; each byte of a character outside ASCII may stand in a name).
use Rattle.std.specs.Prelude.{ℕ, Bool, ◌||◌, ◌==◌, nat_le, List, drop, take_while, Option, Some, None, if◌then◌else◌}
use Rattle.std.specs.List.{prefix_len}
use Rattle.std.specs.Char.{is_ascii_alphabetic, is_ascii_digit}
use Rattle.xml_subset.specs.Cut.{begins}

-- a letter, `_`, `:` or a byte from 0x80
abbrev pub is_name_start : ℕ → Bool
is_name_start c = is_ascii_alphabetic c || c == 95 || c == 58 || nat_le 128 c

-- such a byte, a digit, `.` or `-`
abbrev pub is_name_byte : ℕ → Bool
is_name_byte c = is_name_start c || is_ascii_digit c || c == 46 || c == 45

-- the longest name at the front, and what follows it
abbrev pub name : List ℕ → Option (List ℕ × List ℕ)
name text =
    if begins is_name_start text then Some (take_while is_name_byte text, drop (prefix_len is_name_byte text) text)
    else None
