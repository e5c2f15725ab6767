-- The elements of a document, from its tokens (XML 1.0, section 3).
use Rattle.std.specs.Prelude.{ℕ, zero, suc, ◌-◌, List, [], ◌∷◌, ◌++◌, encode_utf8}
use Rattle.xml_subset.specs.declared.document.Element as code
use Rattle.xml_subset.specs.Cut.{trimmed}
use Rattle.xml_subset.specs.Token.{Token, Text, Character, Comment, Open, Empty, Close, Broken, End}

-- an element: the root has depth 1; the text is its own, without that of the elements inside it
pub record Element : Type 0 where
  pub depth : ℕ
  pub name : List ℕ
  pub text : List ℕ

-- what an element of the program stands for
abbrev pub shown : code.Element → Element
shown e = record { depth = e.depth; name = e.name.now; text = e.text.items }

-- The character data between here and the end of the element around, where so many elements are open inside it:
-- that of inner elements is left out.
abbrev pub own_text : ℕ → List Token → List ℕ
own_text inside [] = []
own_text zero (Text bytes ∷ ts) = bytes ++ own_text zero ts
own_text zero (Character c ∷ ts) = encode_utf8 c ++ own_text zero ts
own_text zero (Close name ∷ ts) = []
own_text (suc inside) (Text bytes ∷ ts) = own_text (suc inside) ts
own_text (suc inside) (Character c ∷ ts) = own_text (suc inside) ts
own_text (suc inside) (Close name ∷ ts) = own_text inside ts
own_text inside (Open name ∷ ts) = own_text (suc inside) ts
own_text inside (Empty name ∷ ts) = own_text inside ts
own_text inside (Comment ∷ ts) = own_text inside ts
own_text inside (Broken ∷ ts) = []
own_text inside (End ∷ ts) = []

-- the elements that begin from here on, in the order of their tags; so many are open at this level
abbrev pub elements : ℕ → List Token → List Element
elements level [] = []
elements level (Open name ∷ ts) =
    record { depth = suc level; name = name; text = trimmed (own_text 0 ts) } ∷ elements (suc level) ts
elements level (Empty name ∷ ts) = record { depth = suc level; name = name; text = [] } ∷ elements level ts
elements level (Close name ∷ ts) = elements (level - 1) ts
elements level (Text bytes ∷ ts) = elements level ts
elements level (Character c ∷ ts) = elements level ts
elements level (Comment ∷ ts) = elements level ts
elements level (Broken ∷ ts) = []
elements level (End ∷ ts) = []
