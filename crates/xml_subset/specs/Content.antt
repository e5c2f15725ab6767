-- Documents as trees (XML 1.0, sections 2.1, 3 and 3.1: `document`, `element` and `content`), in tokens.
use Rattle.std.specs.Prelude.{◌≡◌, ℕ, zero, suc, Bool, true, false, ◌&&◌, IsTrue, List, [], ◌∷◌, ◌++◌, map, bytes_eq, encode_utf8, Some}
use Rattle.std.specs.List.{list_all}
use Rattle.xml_subset.specs.Cut.{is_white, trimmed}
use Rattle.xml_subset.specs.Document.{without_declaration, without_mark}
use Rattle.xml_subset.specs.Element.{Element}
use Rattle.xml_subset.specs.Token.{Token, Text, Character, Comment, Open, Empty, Close, End, tokens}

-- what stands inside an element: a piece, and the content that follows it
pub data Content : Type 0 where
  Nothing : Content
  Data : List ℕ → Content → Content
  Reference : ℕ → Content → Content
  Remark : Content → Content
  -- an element without content, written as an empty tag
  Leaf : List ℕ → Content → Content
  -- an element with its content
  Node : List ℕ → Content → Content → Content

-- the tokens of the content, and then these
abbrev pub written : Content → List Token → List Token
written Nothing ts = ts
written (Data bytes more) ts = Text bytes ∷ written more ts
written (Reference c more) ts = Character c ∷ written more ts
written (Remark more) ts = Comment ∷ written more ts
written (Leaf name more) ts = Empty name ∷ written more ts
written (Node name inner more) ts = Open name ∷ written inner (Close name ∷ written more ts)

-- the character data of the content itself, without that of the elements in it
abbrev pub data_of : Content → List ℕ
data_of Nothing = []
data_of (Data bytes more) = bytes ++ data_of more
data_of (Reference c more) = encode_utf8 c ++ data_of more
data_of (Remark more) = data_of more
data_of (Leaf name more) = data_of more
data_of (Node name inner more) = data_of more

-- the elements of the content at this level, each before those inside it
abbrev pub outlined : ℕ → Content → List Element
outlined level Nothing = []
outlined level (Data bytes more) = outlined level more
outlined level (Reference c more) = outlined level more
outlined level (Remark more) = outlined level more
outlined level (Leaf name more) = record { depth = suc level; name = name; text = [] } ∷ outlined level more
outlined level (Node name inner more) =
    record { depth = suc level; name = name; text = trimmed (data_of inner) }
    ∷ (outlined (suc level) inner ++ outlined level more)

-- there are no more levels of elements in the content
abbrev pub is_within : ℕ → Content → Bool
is_within levels Nothing = true
is_within levels (Data bytes more) = is_within levels more
is_within levels (Reference c more) = is_within levels more
is_within levels (Remark more) = is_within levels more
is_within zero (Leaf name more) = false
is_within (suc levels) (Leaf name more) = is_within (suc levels) more
is_within zero (Node name inner more) = false
is_within (suc levels) (Node name inner more) = is_within levels inner && is_within (suc levels) more

-- white space and comments alone
abbrev pub is_blank : Content → Bool
is_blank Nothing = true
is_blank (Data bytes more) = list_all is_white bytes && is_blank more
is_blank (Reference c more) = false
is_blank (Remark more) = is_blank more
is_blank (Leaf name more) = false
is_blank (Node name inner more) = false

-- one element, of this name and of at most 32 levels, among white space and comments
abbrev pub is_document : List ℕ → Content → Bool
is_document root Nothing = false
is_document root (Data bytes more) = list_all is_white bytes && is_document root more
is_document root (Reference c more) = false
is_document root (Remark more) = is_document root more
is_document root (Leaf name more) = bytes_eq name root && is_blank more
is_document root (Node name inner more) = bytes_eq name root && (is_within 31 inner && is_blank more)

-- After the mark and the declaration, the text is written in the tokens of this document.
abbrev pub Writes : List ℕ → List ℕ → Content → Type 0
Writes root text d =
    IsTrue (is_document root d) × ((body : List ℕ) × (without_declaration (without_mark text) ≡ Some body) × (map (λ p. p.token) (tokens body) ≡ written d (End ∷ [])))
