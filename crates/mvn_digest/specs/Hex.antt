-- A digest as text: two hexadecimal digits a byte (RFC 4648, section 8, in lower case).
use Rattle.std.specs.Prelude.{ℕ, List}
use Rattle.hex.specs.Hex.{encode_lower}

-- the bytes as lower case hexadecimal digits, the high half of each byte first
abbrev pub hex_text : List ℕ → List ℕ
hex_text bytes = encode_lower bytes
