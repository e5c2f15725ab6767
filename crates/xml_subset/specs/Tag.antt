-- Tags with attributes (XML 1.0, section 3.1). Attributes are checked for their form, and may come twice.
use Rattle.std.specs.Prelude.{ℕ, zero, suc, Bool, true, false, ◌||◌, ◌==◌, List, [], ◌∷◌, drop, codes, Option, None, if◌then◌else◌}
use Rattle.std.specs.Option.{option_map}
use Rattle.std.specs.List.{position_or_len}
use Rattle.byte_cuts.specs.Cuts.{behind}
use Rattle.xml_subset.specs.Cut.{begins, is_white, or_else, without_white, ◌>>=◌}
use Rattle.xml_subset.specs.Name.{name}

-- what follows the value, up to this quote; `<` may not stand in it
abbrev pub value_end : ℕ → List ℕ → Option (List ℕ)
value_end quote text = behind (quote ∷ []) (drop (position_or_len (λ c. c == quote || c == 60) text) text)

-- what follows a value in double or single quotes
abbrev pub value : List ℕ → Option (List ℕ)
value text = or_else (behind (34 ∷ []) text >>= value_end 34) (behind (39 ∷ []) text >>= value_end 39)

-- what follows an attribute: a name, `=` and a value
abbrev pub attribute : List ℕ → Option (List ℕ)
attribute text = do
  named ← name text
  rest ← behind (codes "=") (without_white named.1)
  value (without_white rest)

-- the end of a tag, which says whether it is an empty one, and what follows
abbrev pub tag_end : List ℕ → Option (Bool × List ℕ)
tag_end text =
    or_else (option_map (λ rest. (false, rest)) (behind (codes ">") text))
    (option_map (λ rest. (true, rest)) (behind (codes "/>") text))

-- the attributes, each after white space, and the end of the tag; there are no more of them than the number
abbrev pub tag_rest : ℕ → List ℕ → Option (Bool × List ℕ)
tag_rest zero text = tag_end (without_white text)
tag_rest (suc n) text =
    or_else (tag_end (without_white text))
    (if begins is_white text then attribute (without_white text) >>= tag_rest n else None)
