-- Fields of a request by their names, and what some of them say (RFC 9110, sections 5.1, 7.6.1 and 8.6).
use Rattle.std.specs.Prelude.{ℕ, Bool, ◌&&◌, ◌==◌, nat_le, nat_lt, List, [], ◌∷◌, length, map, filter, codes, if◌then◌else◌}
use Rattle.std.specs.List.{list_all, list_any, slice_split}
use Rattle.std.specs.Str.{str_eq_ignore_ascii_case}
use Rattle.std.specs.Char.{is_ascii_digit}
use Rattle.std.specs.Str.Parse.{digits_value}
use Rattle.httparse.specs.Ascii.{comma}
use Rattle.httparse.specs.Grammar.{trim_ows}
use Rattle.http_wire.specs.declared.requests.BodyLength.{BodyLength}
use Rattle.http_wire.specs.declared.requests.BodyLength.TheVariants.{Known, Missing, Wrong}
use Rattle.http_wire.specs.declared.requests.Field.{Field}

-- the field has this name; the case of letters doesn't count
abbrev pub is_named : List ℕ → Field → Bool
is_named name f = str_eq_ignore_ascii_case f.name name

-- the values of the fields with this name, in their order
abbrev pub values_of : List ℕ → List Field → List (List ℕ)
values_of name fields = map (λ f. f.value) (filter (is_named name) fields)

-- the member of a list, without the blanks around it, is `close`; the case of letters doesn't count
abbrev pub is_close : List ℕ → Bool
is_close member = str_eq_ignore_ascii_case (trim_ows member) (codes "close")

-- a member of the value, a list with commas, is `close`
abbrev pub has_close : List ℕ → Bool
has_close value = list_any is_close (slice_split (λ b. b == comma) value)

-- an option of a Connection field is `close`
abbrev pub asks_close : List Field → Bool
asks_close fields = list_any (λ f. is_named (codes "Connection") f && has_close f.value) fields

-- the longest text of a length, in digits
abbrev pub length_digits : ℕ
length_digits = 18

-- 1 to 18 digits
abbrev pub is_length : List ℕ → Bool
is_length value = nat_lt 0 (length value) && (nat_le (length value) length_digits && list_all is_ascii_digit value)

-- the number that the digits give
abbrev pub number_of : List ℕ → ℕ
number_of value = digits_value 10 value

-- the length that these values of Content-Length say: each is a length, and all are one number
unfoldable pub said_length : List (List ℕ) → BodyLength
said_length [] = Missing
said_length (value ∷ values) =
    if list_all is_length (value ∷ values) && list_all (λ other. number_of other == number_of value) values
    then Known (number_of value) else Wrong

-- the length of the body by the fields of the head
abbrev pub body_length : List Field → BodyLength
body_length fields = said_length (values_of (codes "Content-Length") fields)
