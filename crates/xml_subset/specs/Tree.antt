-- The elements of the tokens so far, some of which are still open.
use Rattle.std.specs.Prelude.{◌≡◌, ℕ, zero, suc, ◌<◌, Bool, true, false, List, [], ◌∷◌, ◌++◌, length, map, reverse}
use Rattle.std.specs.List.{AllByRecursion}
use Rattle.xml_subset.specs.declared.tree.Opened.{Opened}
use Rattle.xml_subset.specs.declared.tree.Tree.{Tree}
use Rattle.xml_subset.specs.Cut.{trimmed}
use Rattle.xml_subset.specs.Document.{begun_after, open_after}
use Rattle.xml_subset.specs.Element.{Element, elements, own_text, shown}
use Rattle.xml_subset.specs.Token.{Token}

-- the names of the open elements, the innermost first
abbrev pub names : List Opened → List (List ℕ)
names os = reverse (map (λ o. o.name.now) os)

-- an element has begun
abbrev pub has_begun : List Element → Bool
has_begun [] = false
has_begun (e ∷ es) = true

-- the elements that have begun
abbrev pub begun : Tree → List Element
begun t = map shown t.elements.items

-- the elements, one of which has another text
abbrev pub put_text : ℕ → List ℕ → List Element → List Element
put_text i text [] = []
put_text zero text (e ∷ es) = record e { text = text } ∷ es
put_text (suc i) text (e ∷ es) = e ∷ put_text i text es

-- the elements when the open ones, the innermost last, have the text that these tokens add
abbrev pub completed : List Opened → List Token → List Element → List Element
completed [] ts es = es
completed (o ∷ os) ts es =
    put_text o.index (trimmed (o.text.items ++ own_text (length os) ts)) (completed os ts es)

-- all elements, where these tokens follow
abbrev pub with_rest : Tree → List Token → List Element
with_rest t ts = completed t.open.items ts (begun t) ++ elements (length t.open.items) ts

-- each open element is among those that have begun
abbrev pub IsInRange : ℕ → List Opened → Type 0
IsInRange n os = AllByRecursion (λ o. o.index < n) os

abbrev pub IsSound : Tree → Type 0
IsSound t = IsInRange (length t.elements.items) t.open.items

-- the new tree is the old one with one more token
pub record Takes (old new : Tree) (token : Token) : Type 0 where
  pub elements : (ts : List Token) → with_rest new ts ≡ with_rest old (token ∷ ts)
  pub names : names new.open.items ≡ open_after (names old.open.items) token
  pub begun : has_begun (begun new) ≡ begun_after (has_begun (begun old)) token
  pub sound : IsSound new
