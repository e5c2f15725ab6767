-- The plain spelling of content (XML 1.0, sections 2.4 and 3.1): tags without attributes, character data as it is.
use Rattle.std.specs.Prelude.{ℕ, Bool, true, false, not, ◌&&◌, ◌||◌, ◌==◌, List, [], ◌∷◌, ◌++◌, codes}
use Rattle.std.specs.List.{list_all}
use Rattle.xml_subset.specs.Content.{Content, Nothing, Data, Reference, Remark, Leaf, Node}
use Rattle.xml_subset.specs.Cut.{begins}
use Rattle.xml_subset.specs.Name.{is_name_byte, is_name_start}
use Rattle.xml_subset.specs.Token.{is_text_byte}

abbrev pub is_name : List ℕ → Bool
is_name name = begins is_name_start name && list_all is_name_byte name

abbrev pub begins_with_data : Content → Bool
begins_with_data Nothing = false
begins_with_data (Data bytes more) = true
begins_with_data (Reference c more) = false
begins_with_data (Remark more) = false
begins_with_data (Leaf name more) = false
begins_with_data (Node name inner more) = false

-- the content has a plain spelling: names are names, and no two pieces of character data stand side by side
abbrev pub is_plain : Content → Bool
is_plain Nothing = true
is_plain (Data bytes more) =
    begins is_text_byte bytes && (list_all is_text_byte bytes && (not (begins_with_data more) && is_plain more))
is_plain (Reference c more) = false
is_plain (Remark more) = false
is_plain (Leaf name more) = is_name name && is_plain more
is_plain (Node name inner more) = is_name name && (is_plain inner && is_plain more)

-- the spelling of the content, and then this text
abbrev pub spelled : Content → List ℕ → List ℕ
spelled Nothing rest = rest
spelled (Data bytes more) rest = bytes ++ spelled more rest
spelled (Reference c more) rest = rest
spelled (Remark more) rest = rest
spelled (Leaf name more) rest = 60 ∷ (name ++ 47 ∷ 62 ∷ spelled more rest)
spelled (Node name inner more) rest =
    60 ∷ (name ++ 62 ∷ spelled inner (60 ∷ 47 ∷ (name ++ 62 ∷ spelled more rest)))

-- a value in double quotes
abbrev pub is_value : List ℕ → Bool
is_value value = list_all (λ c. not (c == 34 || c == 60)) value

-- an attribute after a blank, and then this text
abbrev pub attribute_text : List ℕ → List ℕ → List ℕ → List ℕ
attribute_text name value rest = 32 ∷ (name ++ 61 ∷ 34 ∷ (value ++ 34 ∷ rest))

-- a document with this content of its root: the declaration and the root, which has one attribute, end with LF
abbrev pub spelled_document : List ℕ → List ℕ → List ℕ → Content → List ℕ
spelled_document root name value inner =
    codes "<?xml version=\"1.0\" encoding=\"UTF-8\"?>"
    ++ 10 ∷ 60 ∷ (root ++ attribute_text name value (62 ∷ spelled inner (60 ∷ 47 ∷ (root ++ 62 ∷ 10 ∷ []))))
