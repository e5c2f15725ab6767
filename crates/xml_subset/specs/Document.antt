-- Documents: which tokens may stand where (XML 1.0, sections 2.1, 2.8 and 3, and the Unicode byte order mark), the
-- place of the first fault, and the outline.
use Rattle.std.specs.Prelude.{◌≡◌, ℕ, ◌-◌, Bool, true, false, not, ◌&&◌, nat_lt, List, [], ◌∷◌, length, drop, map, codes, bytes_eq, Option, Some, None, Result, Ok, Err, if◌then◌else◌}
use Rattle.std.specs.List.{list_all}
use Rattle.std.specs.Option.{unwrap_or}
use Rattle.xml_subset.specs.declared.document.XmlFault.{XmlFault}
use Rattle.xml_subset.specs.declared.document.XmlFault.TheVariants.{Malformed, NoMemory}
use Rattle.byte_cuts.specs.Cuts.{behind}
use Rattle.xml_subset.specs.Cut.{after, begins, is_white}
use Rattle.xml_subset.specs.Element.{Element, elements}
use Rattle.xml_subset.specs.Token.{Token, Placed, Text, Character, Comment, Open, Empty, Close, Broken, End, tokens}

-- an element of this name may begin, where these are open, the innermost first, and where one has begun before or not
abbrev pub may_begin : List ℕ → List (List ℕ) → Bool → List ℕ → Bool
may_begin root [] begun name = not begun && bytes_eq name root
may_begin root (n ∷ names) begun name = nat_lt (length (n ∷ names)) 32

-- The token may stand there. Outside the root only white space and comments may, and close tags match.
abbrev pub may_stand : List ℕ → List (List ℕ) → Bool → Token → Bool
may_stand root names begun (Open name) = may_begin root names begun name
may_stand root names begun (Empty name) = may_begin root names begun name
may_stand root names begun Comment = true
may_stand root names begun Broken = false
may_stand root [] begun (Text bytes) = list_all is_white bytes
may_stand root [] begun (Character c) = false
may_stand root [] begun (Close name) = false
may_stand root [] begun End = begun
may_stand root (n ∷ names) begun (Text bytes) = true
may_stand root (n ∷ names) begun (Character c) = true
may_stand root (n ∷ names) begun (Close name) = bytes_eq name n
may_stand root (n ∷ names) begun End = false

-- the elements that are open after the token
abbrev pub open_after : List (List ℕ) → Token → List (List ℕ)
open_after names (Open name) = name ∷ names
open_after names (Close name) = drop 1 names
open_after names token = names

-- an element has begun up to here
abbrev pub begun_after : Bool → Token → Bool
begun_after begun (Open name) = true
begun_after begun (Empty name) = true
begun_after begun token = begun

-- how many bytes are left at the first token that may not stand where it does
abbrev pub fault : List ℕ → List (List ℕ) → Bool → List Placed → Option ℕ
fault root names begun [] = None
fault root names begun (p ∷ ps) =
    if may_stand root names begun p.token
    then fault root (open_after names p.token) (begun_after begun p.token) ps
    else Some p.left

-- what follows a byte order mark
abbrev pub without_mark : List ℕ → List ℕ
without_mark text = unwrap_or (behind (0xEF ∷ 0xBB ∷ 0xBF ∷ []) text) text

-- what follows the declaration, where this is what follows `<?xml`; without a declaration that is the text
abbrev pub declaration_after : List ℕ → Option (List ℕ) → Option (List ℕ)
declaration_after text None = Some text
declaration_after text (Some rest) = if begins is_white rest then after (codes "?>") rest else Some text

-- what follows the declaration, where the text begins with one; none where that has no end
abbrev pub without_declaration : List ℕ → Option (List ℕ)
without_declaration text = declaration_after text (behind (codes "<?xml") text)

-- the elements, unless one of the tokens is a fault in a text of this length
abbrev pub judged : ℕ → List Placed → Option ℕ → Result (List Element) ℕ
judged len ps None = Ok (elements 0 (map (λ p. p.token) ps))
judged len ps (Some left) = Err (len - left)

-- the outline of a text, of which this follows the declaration
abbrev pub outline_after : List ℕ → List ℕ → Option (List ℕ) → Result (List Element) ℕ
outline_after root text None = Err (length text - length (without_mark text))
outline_after root text (Some rest) = judged (length text) (tokens rest) (fault root [] false (tokens rest))

-- The elements of a document whose root has this name, in the order of their tags, or the place of the first fault:
-- where the first token starts that cannot be cut or may not stand there, or the text's length where the end may not.
abbrev pub outline : List ℕ → List ℕ → Result (List Element) ℕ
outline root text = outline_after root text (without_declaration (without_mark text))

-- the fault tells the place, or there was no memory
abbrev pub IsFaultOf : Result (List Element) ℕ → XmlFault → Type 0
IsFaultOf read NoMemory = Unit {0}
IsFaultOf read (Malformed at) = read ≡ Err at
