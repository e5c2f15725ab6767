-- A version text cut into tokens (Maven, POM reference, "Version Order Specification", for any text).
use Rattle.std.specs.Prelude.{ℕ, Bool, true, false, ◌&&◌, ◌||◌, not, ◌==◌, is_none, Option, Some, None, List, [], ◌∷◌, ◌++◌, map, if◌then◌else◌}
use Rattle.std.specs.List.{list_all}
use Rattle.std.specs.Char.{is_ascii_digit, to_ascii_lowercase}
use Rattle.mvn_version.specs.declared.token.Mark.{Mark}
use Rattle.mvn_version.specs.declared.token.Mark.TheVariants.{Dot, Dash, Seam}
use Rattle.mvn_version.specs.declared.token.Token as code

-- a token and what stands before it: a `.`, a `-`, or nothing where a digit meets another byte
pub record Token : Type 0 where
  pub mark : Mark
  pub text : List ℕ

-- what a token of the program stands for
abbrev pub shown : code.Token → Token
shown t = record { mark = t.mark; text = t.text.now }

-- the first step: case does not count, and `_` is read as `-`
abbrev pub folded_byte : ℕ → ℕ
folded_byte c = if c == 95 then 45 else to_ascii_lowercase c

abbrev pub folded : List ℕ → List ℕ
folded text = map folded_byte text

abbrev pub is_dot : Mark → Bool
is_dot Dot = true
is_dot Dash = false
is_dot Seam = false

abbrev pub is_seam : Mark → Bool
is_seam Dot = false
is_seam Dash = false
is_seam Seam = true

-- the mark that a separator is
abbrev pub separator_mark : ℕ → Option Mark
separator_mark c = if c == 46 then Some Dot else (if c == 45 then Some Dash else None)

-- a byte that is no separator, where a digit meets another such byte
abbrev pub seam_follows : ℕ → List ℕ → Bool
seam_follows c [] = false
seam_follows c (d ∷ cs) =
    is_none (separator_mark d) && (if is_ascii_digit c then not (is_ascii_digit d) else is_ascii_digit d)

abbrev pub dotted : List ℕ → Token
dotted text = record { mark = Dot; text = text }

-- the first token after another mark
abbrev pub marked : Mark → List Token → List Token
marked m [] = []
marked m (t ∷ ts) = record t { mark = m } ∷ ts

-- the first token with one more byte in front
abbrev pub longer : ℕ → List Token → List Token
longer c [] = []
longer c (t ∷ ts) = record t { text = c ∷ t.text } ∷ ts

-- the tokens with a byte in front: it is a separator, or it ends a token at a seam, or it belongs to the first one
abbrev pub before : ℕ → Option Mark → Bool → List Token → List Token
before c (Some m) seam ts = dotted [] ∷ marked m ts
before c None true ts = dotted (c ∷ []) ∷ marked Seam ts
before c None false ts = longer c ts

-- the second step: the tokens of a text, the first with the mark `.`
abbrev pub tokens : List ℕ → List Token
tokens [] = dotted [] ∷ []
tokens (c ∷ cs) = before c (separator_mark c) (seam_follows c cs) (tokens cs)

-- the bytes that a mark stands for
abbrev pub mark_bytes : Mark → List ℕ
mark_bytes Dot = 46 ∷ []
mark_bytes Dash = 45 ∷ []
mark_bytes Seam = []

-- tokens one after another, each after its mark
abbrev pub written : List Token → List ℕ
written [] = []
written (t ∷ ts) = mark_bytes t.mark ++ (t.text ++ written ts)

-- the text that tokens are cut from: the first has no separator
abbrev pub joined : List Token → List ℕ
joined [] = []
joined (t ∷ ts) = t.text ++ written ts

abbrev pub is_letter : ℕ → Bool
is_letter c = is_none (separator_mark c) && not (is_ascii_digit c)

-- digits alone, or letters alone
abbrev pub is_uniform : List ℕ → Bool
is_uniform text = list_all is_ascii_digit text || list_all is_letter text

-- one begins with a digit and the other with a letter
abbrev pub alternate : List ℕ → List ℕ → Bool
alternate [] v = false
alternate (c ∷ u) [] = false
alternate (c ∷ u) (d ∷ v) = if is_ascii_digit c then not (is_ascii_digit d) else is_ascii_digit d

abbrev pub seam_fits : List ℕ → List Token → Bool
seam_fits text [] = true
seam_fits text (u ∷ ts) = not (is_seam u.mark) || alternate text u.text

-- a seam stands only between digits and letters
abbrev pub seams_fit : List Token → Bool
seams_fit [] = true
seams_fit (t ∷ ts) = seam_fits t.text ts && seams_fit ts
