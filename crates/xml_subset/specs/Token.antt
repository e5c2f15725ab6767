-- The tokens that a text is cut into from the left (XML 1.0, sections 2.4, 2.5, 3.1 and 4.1).
use Rattle.std.specs.Prelude.{ℕ, zero, suc, Bool, not, ◌||◌, ◌==◌, List, [], ◌∷◌, length, drop, take_while, codes, Option, Some, None, if◌then◌else◌}
use Rattle.std.specs.List.{prefix_len}
use Rattle.std.specs.Option.{option_map, option_map_or}
use Rattle.byte_cuts.specs.Cuts.{behind}
use Rattle.xml_subset.specs.Cut.{after, without_white, ◌>>=◌}
use Rattle.xml_subset.specs.Name.{name}
use Rattle.xml_subset.specs.Reference.{reference}
use Rattle.xml_subset.specs.Tag.{tag_rest}
use Rattle.xml_subset.specs.declared.token.Token as code
use Rattle.xml_subset.specs.declared.token.Token.TheVariants as of_code

pub data Token : Type 0 where
  -- character data as written
  Text : List ℕ → Token
  -- a character by a reference
  Character : ℕ → Token
  Comment : Token
  -- an open tag, an empty one and a close tag, with their names
  Open : List ℕ → Token
  Empty : List ℕ → Token
  Close : List ℕ → Token
  -- where no token can be cut
  Broken : Token
  -- the end of the text
  End : Token

-- what a token of the program stands for
abbrev pub shown : code.Token → Token
shown (of_code.Text bytes) = Text bytes.now
shown (of_code.Character c) = Character c
shown of_code.Comment = Comment
shown (of_code.Open name) = Open name.now
shown (of_code.Empty name) = Empty name.now
shown (of_code.Close name) = Close name.now

-- character data: the bytes before the first `<` or `&`
abbrev pub is_text_byte : ℕ → Bool
is_text_byte c = not (c == 60 || c == 38)

-- a token, and what follows it
abbrev pub Cut : Type 0
Cut = Token × List ℕ

abbrev pub comment : List ℕ → Option Cut
comment text = option_map (λ rest. (Comment, rest)) (after (codes "-->") text)

abbrev pub close_tag : List ℕ → Option Cut
close_tag text = do
  named ← name text
  rest ← behind (codes ">") (without_white named.1)
  Some (Close named.0, rest)

-- an open tag or an empty one
abbrev pub open_tag : List ℕ → Option Cut
open_tag text = do
  named ← name text
  end ← tag_rest (length named.1) named.1
  Some (if end.0 then Empty named.0 else Open named.0, end.1)

-- what stands after a `<`: a comment, a close tag, or another tag
abbrev pub markup : List ℕ → Option Cut
markup text =
    option_map_or comment (behind (codes "!--") text)
    (option_map_or close_tag (behind (codes "/") text) (open_tag text))

-- what stands after a `&`
abbrev pub referred : List ℕ → Option Cut
referred text = do
  found ← reference text
  Some (Character found.0, found.1)

-- the first token of a text, if one can be cut, and what follows it
unfoldable pub first_token : List ℕ → Option Cut
first_token [] = None
first_token (c ∷ text) =
    if c == 60 then markup text
    else (if c == 38 then referred text
    else Some (Text (take_while is_text_byte (c ∷ text)), drop (prefix_len is_text_byte (c ∷ text)) (c ∷ text)))

-- a token, and how many bytes of the text are left at its start
pub record Placed : Type 0 where
  pub left : ℕ
  pub token : Token

-- the one that stands where no token can be cut
abbrev pub broken : List ℕ → Placed
broken text = record { left = length text; token = Broken }

-- the tokens of a text, up to its end or to what is no token; there are no more of them than the number
abbrev pub tokens_within : ℕ → List ℕ → List Placed
tokens_within n [] = record { left = 0; token = End } ∷ []
tokens_within zero (c ∷ text) = broken (c ∷ text) ∷ []
tokens_within (suc n) (c ∷ text) =
    option_map_or (λ cut. record { left = length (c ∷ text); token = cut.0 } ∷ tokens_within n cut.1)
    (first_token (c ∷ text)) (broken (c ∷ text) ∷ [])

-- each token has a byte at least
abbrev pub tokens : List ℕ → List Placed
tokens text = tokens_within (length text) text
