-- The key of a version text, by which versions are ordered (Maven, POM reference, "Version Order Specification", for any text).
use Rattle.std.specs.Prelude.{ℕ, Bool, true, false, ◌&&◌, ◌||◌, not, ◌==◌, List, [], ◌∷◌, map, filter, length, if◌then◌else◌, bytes_eq, codes}
use Rattle.std.specs.Char.{is_ascii_digit}
use Rattle.std.specs.List.{list_all}
use Rattle.byte_cuts.specs.Cuts.{significant}
use Rattle.mvn_version.specs.declared.token.Mark.{Mark}
use Rattle.mvn_version.specs.declared.token.Mark.TheVariants.{Dot, Dash, Seam}
use Rattle.mvn_version.specs.Token.{Token, folded, is_dot, is_seam, tokens}

-- a token without bytes is the number 0
abbrev pub is_number : List ℕ → Bool
is_number text = list_all is_ascii_digit text

abbrev pub is_zero : List ℕ → Bool
is_zero text = list_all (λ c. c == 48) text

-- a word in full, `joined` where a digit follows it at once
abbrev pub full_word : Bool → List ℕ → List ℕ
full_word joined w =
    if joined && bytes_eq w (codes "a") then codes "alpha"
    else (if joined && bytes_eq w (codes "b") then codes "beta"
    else (if joined && bytes_eq w (codes "m") then codes "milestone"
    else (if bytes_eq w (codes "cr") then codes "rc"
    else w)))

abbrev pub is_joined : List Token → Bool
is_joined [] = false
is_joined (t ∷ ts) = is_seam t.mark

-- the third step: short words are written in full
abbrev pub in_full : List Token → List Token
in_full [] = []
in_full (t ∷ ts) = record t { text = full_word (is_joined ts) t.text } ∷ in_full ts

abbrev pub is_release : List ℕ → Bool
is_release w = bytes_eq w (codes "ga") || bytes_eq w (codes "final") || bytes_eq w (codes "release")

-- the fourth step: words that only say that a version is released are taken out
abbrev pub without_release : List Token → List Token
without_release ts = filter (λ t. not (is_release t.text)) ts

-- zeros that stand before these tokens trail: after further zeros, if any, comes the end, a word or a `-`
abbrev pub zeros_trail : List Token → Bool
zeros_trail [] = true
zeros_trail (t ∷ ts) = not (is_number t.text) || not (is_dot t.mark) || (is_zero t.text && zeros_trail ts)

abbrev pub put_unless : Bool → Token → List Token → List Token
put_unless true t ts = ts
put_unless false t ts = t ∷ ts

-- the fifth step: each run of zeros that trails is taken out
abbrev pub without_zeros : List Token → List Token
without_zeros [] = []
without_zeros (t ∷ ts) = put_unless (is_zero t.text && zeros_trail ts) t (without_zeros ts)

-- where a word stands among the elements: 6 is the end of a key, 8 any word that is not named here
abbrev pub word_rank : List ℕ → ℕ
word_rank w =
    if bytes_eq w (codes "alpha") then 1
    else (if bytes_eq w (codes "beta") then 2
    else (if bytes_eq w (codes "milestone") then 3
    else (if bytes_eq w (codes "rc") then 4
    else (if bytes_eq w (codes "snapshot") then 5
    else (if bytes_eq w (codes "sp") then 7
    else 8)))))

abbrev pub number_rank : Mark → ℕ
number_rank Dot = 10
number_rank Dash = 9
number_rank Seam = 9

-- An element is a list: its rank, and then what tells elements of one rank apart, for a number the count of its digits
-- and the digits, for a word 0 and the bytes. The named words of one rank are alike.
abbrev pub number : Mark → List ℕ → List ℕ
number m digits = number_rank m ∷ length digits ∷ digits

abbrev pub word : List ℕ → List ℕ
word w = word_rank w ∷ 0 ∷ (if word_rank w == 8 then w else [])

-- the sixth step: the element of a token
abbrev pub element : Token → List ℕ
element t = if is_number t.text then number t.mark (significant t.text) else word t.text

-- the elements of what the tokens are
abbrev pub elements : List Token → List (List ℕ)
elements ts = map element (without_zeros (without_release (in_full ts)))

abbrev pub key : List ℕ → List (List ℕ)
key text = elements (tokens (folded text))
