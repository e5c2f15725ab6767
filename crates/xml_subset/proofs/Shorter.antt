-- What follows a cut is no longer than the text.
use Rattle.std.proofs.Common.{ℕ, zero, suc, ◌≡◌, ◌==◌, ◌≤◌, ◌+◌, ◌||◌, Bool, true, false, cond, not, List, [], ◌∷◌, length, drop, Option, Some, None, nat_eq, arith, length-drop, refl, ap, codes}
use Rattle.std.specs.Prelude.{IfSome, take_while}
use Rattle.std.specs.List.{starts_with, prefix_len, position_or_len, before_first}
use Rattle.std.specs.Option.{option_map, option_map_or, unwrap_or}
use Rattle.byte_cuts.specs.Cuts.{behind}
use Rattle.xml_subset.specs.Cut.{after, begins, is_white, or_else, without_white, ◌>>=◌}
use Rattle.xml_subset.specs.Document.{declaration_after, without_declaration, without_mark}
use Rattle.xml_subset.specs.Name.{is_name_byte, is_name_start, name}
use Rattle.xml_subset.specs.Reference.{numbered, predefined, reference}
use Rattle.xml_subset.specs.Tag.{attribute, tag_end, tag_rest, value, value_end}
use Rattle.xml_subset.specs.Token.{Text, Comment, Cut, close_tag, comment, first_token, is_text_byte, markup, open_tag, referred}

-- what a cut leaves has at most so many bytes
abbrev pub AtMost : ℕ → Option (List ℕ) → Type 0
AtMost n r = IfSome r (λ rest. length rest ≤ n)

abbrev pub CutAtMost : {X : Type 0} → ℕ → Option (X × List ℕ) → Type 0
CutAtMost n r = IfSome r (λ cut. length cut.1 ≤ n)

pub bound : {A B : Type 0} (P : A → Type 0) (Q : B → Type 0) (f : A → Option B) (o : Option A) → IfSome o P → ((x : A) → P x → IfSome (f x) Q) → IfSome (o >>= f) Q
bound P Q f None h k = tt
bound P Q f (Some x) h k = k x h

either : {A : Type 0} (Q : A → Type 0) (o p : Option A) → IfSome o Q → IfSome p Q → IfSome (or_else o p) Q
either Q None p h k = k
either Q (Some x) p h k = h

pub mapped : {A B : Type 0} (P : A → Type 0) (Q : B → Type 0) (f : A → B) (o : Option A) → IfSome o P → ((x : A) → P x → Q (f x)) → IfSome (option_map f o) Q
mapped P Q f None h k = tt
mapped P Q f (Some x) h k = k x h

pub map_or : {A B : Type 0} (P : A → Type 0) (Q : B → Type 0) (f : A → Option B) (o : Option A) (d : Option B) → IfSome o P → ((x : A) → P x → IfSome (f x) Q) → IfSome d Q → IfSome (option_map_or f o d) Q
map_or P Q f None d h k l = l
map_or P Q f (Some x) d h k l = k x h

pub chosen : {A : Type 0} (Q : A → Type 0) (b : Bool) (o p : Option A) → IfSome o Q → IfSome p Q → IfSome (cond b o p) Q
chosen Q true o p h k = h
chosen Q false o p h k = k

pub any : {A : Type 0} (o : Option A) → IfSome o (λ _. Unit {0})
any None = tt
any (Some x) = tt

lengthened : {X : Type 0} (m n : ℕ) (o : Option (X × List ℕ)) → m ≤ n → CutAtMost m o → CutAtMost n o
lengthened m n None le h = tt
lengthened m n (Some x) le h = omega arith

pub rest_lengthened : (m n : ℕ) (o : Option (List ℕ)) → m ≤ n → AtMost m o → AtMost n o
rest_lengthened m n None le h = tt
rest_lengthened m n (Some x) le h = omega arith

pub behind_shorter : (mark text : List ℕ) → AtMost (length text) (behind mark text)
behind_shorter mark text =
    chosen (λ (rest : List ℕ). length rest ≤ length text) (starts_with nat_eq text mark) (Some (drop (length mark) text)) None
    (omega (arith, length-drop (length mark) text)) tt

shorter_of : (b : Bool) (x y : List ℕ) (n : ℕ) → length x ≤ n → length y ≤ n → length (cond b x y) ≤ n
shorter_of true x y n h k = h
shorter_of false x y n h k = k

pub without_white_shorter : (text : List ℕ) → length (without_white text) ≤ length text
without_white_shorter [] = omega arith
without_white_shorter (c ∷ text) =
    shorter_of (is_white c) (without_white text) (c ∷ text) (length (c ∷ text))
    (omega (arith, without_white_shorter text)) (omega arith)

first_of_two : (b : Bool) (x y : List ℕ) (n : ℕ) → b ≡ true → length x ≤ n → length (cond b x y) ≤ n
first_of_two true x y n e h = h
first_of_two false x y n e h = absurd cc

-- white space at the front takes a byte
pub white_front : (c : ℕ) (text : List ℕ) → is_white c ≡ true → length (without_white (c ∷ text)) ≤ length text
white_front c text e =
    first_of_two (is_white c) (without_white text) (c ∷ text) (length text) e (without_white_shorter text)

pub name_shorter : (text : List ℕ) → CutAtMost (length text) (name text)
name_shorter text =
    chosen (λ (cut : List ℕ × List ℕ). length cut.1 ≤ length text) (begins is_name_start text)
    (Some (take_while is_name_byte text, drop (prefix_len is_name_byte text) text)) None
    (omega (arith, length-drop (prefix_len is_name_byte text) text)) tt

pub after_shorter : (mark text : List ℕ) → AtMost (length text) (after mark text)
after_shorter mark [] = tt
after_shorter mark (c ∷ text) =
    either (λ (rest : List ℕ). length rest ≤ length (c ∷ text)) (behind mark (c ∷ text)) (after mark text)
    (behind_shorter mark (c ∷ text))
    (rest_lengthened (length text) (length (c ∷ text)) (after mark text) (omega arith) (after_shorter mark text))

value_end_shorter : (quote : ℕ) (text : List ℕ) → AtMost (length text) (value_end quote text)
value_end_shorter quote text =
    let n = position_or_len (λ c. c == quote || c == 60) text in
    rest_lengthened (length (drop n text)) (length text) (value_end quote text) (omega (arith, length-drop n text))
    (behind_shorter (quote ∷ []) (drop n text))

quoted_shorter : (quote : ℕ) (text : List ℕ) → AtMost (length text) (behind (quote ∷ []) text >>= value_end quote)
quoted_shorter quote text =
    let P : List ℕ → Type 0 = λ rest. length rest ≤ length text in
    bound P P (value_end quote) (behind (quote ∷ []) text) (behind_shorter (quote ∷ []) text)
    (λ rest le. rest_lengthened (length rest) (length text) (value_end quote rest) le (value_end_shorter quote rest))

value_shorter : (text : List ℕ) → AtMost (length text) (value text)
value_shorter text =
    either (λ (rest : List ℕ). length rest ≤ length text) (behind (34 ∷ []) text >>= value_end 34) (behind (39 ∷ []) text >>= value_end 39)
    (quoted_shorter 34 text) (quoted_shorter 39 text)

pub attribute_shorter : (text : List ℕ) → AtMost (length text) (attribute text)
attribute_shorter text =
    let P : List ℕ → Type 0 = λ rest. length rest ≤ length text in
    bound (λ (cut : List ℕ × List ℕ). length cut.1 ≤ length text) P _ (name text) (name_shorter text)
    (λ named le. bound P P _ (behind (codes "=") (without_white named.1))
    (rest_lengthened (length (without_white named.1)) (length text) (behind (codes "=") (without_white named.1))
    (omega (arith, without_white_shorter named.1)) (behind_shorter (codes "=") (without_white named.1)))
    (λ rest less. rest_lengthened (length (without_white rest)) (length text) (value (without_white rest))
    (omega (arith, without_white_shorter rest)) (value_shorter (without_white rest))))

tag_end_shorter : (text : List ℕ) → CutAtMost (length text) (tag_end text)
tag_end_shorter text =
    let P : List ℕ → Type 0 = λ rest. length rest ≤ length text in
    let Q : Bool × List ℕ → Type 0 = λ cut. length cut.1 ≤ length text in
    either Q (option_map (λ rest. (false, rest)) (behind (codes ">") text)) (option_map (λ rest. (true, rest)) (behind (codes "/>") text))
    (mapped P Q (λ rest. (false, rest)) (behind (codes ">") text) (behind_shorter (codes ">") text) (λ rest le. le))
    (mapped P Q (λ rest. (true, rest)) (behind (codes "/>") text) (behind_shorter (codes "/>") text) (λ rest le. le))

tag_rest_shorter : (n : ℕ) (text : List ℕ) → CutAtMost (length text) (tag_rest n text)
tag_rest_shorter zero text =
    lengthened (length (without_white text)) (length text) (tag_end (without_white text)) (without_white_shorter text) (tag_end_shorter (without_white text))
tag_rest_shorter (suc n) text =
    let more = without_white text in
    let P : List ℕ → Type 0 = λ rest. length rest ≤ length text in
    let Q : Bool × List ℕ → Type 0 = λ cut. length cut.1 ≤ length text in
    either Q (tag_end more) (cond (begins is_white text) (attribute more >>= tag_rest n) None)
    (lengthened (length more) (length text) (tag_end more) (without_white_shorter text) (tag_end_shorter more))
    (chosen Q (begins is_white text) (attribute more >>= tag_rest n) None
    (bound P Q (tag_rest n) (attribute more) (rest_lengthened (length more) (length text) (attribute more) (without_white_shorter text) (attribute_shorter more))
    (λ rest le. lengthened (length rest) (length text) (tag_rest n rest) le (tag_rest_shorter n rest)))
    tt)

reference_shorter : (text : List ℕ) → CutAtMost (length text) (reference text)
reference_shorter text =
    let n = position_or_len (λ c. c == 59) text in
    let Q : ℕ × List ℕ → Type 0 = λ cut. length cut.1 ≤ length text in
    bound (λ (rest : List ℕ). length rest ≤ length text) Q _ (behind (codes ";") (drop n text))
    (rest_lengthened (length (drop n text)) (length text) (behind (codes ";") (drop n text)) (omega (arith, length-drop n text)) (behind_shorter (codes ";") (drop n text)))
    (λ rest le. bound (λ (c : ℕ). Unit {0}) Q _
    (or_else (predefined (before_first (λ c. c == 59) text)) (numbered (before_first (λ c. c == 59) text)))
    (any _) (λ c _. le))

comment_shorter : (text : List ℕ) → CutAtMost (length text) (comment text)
comment_shorter text =
    mapped (λ (rest : List ℕ). length rest ≤ length text) (λ (cut : Cut). length cut.1 ≤ length text) (λ rest. (Comment, rest))
    (after (codes "-->") text) (after_shorter (codes "-->") text) (λ rest le. le)

close_tag_shorter : (text : List ℕ) → CutAtMost (length text) (close_tag text)
close_tag_shorter text =
    let Q : Cut → Type 0 = λ cut. length cut.1 ≤ length text in
    bound (λ (named : List ℕ × List ℕ). length named.1 ≤ length text) Q _ (name text) (name_shorter text)
    (λ named le. bound (λ (rest : List ℕ). length rest ≤ length text) Q _ (behind (codes ">") (without_white named.1))
    (rest_lengthened (length (without_white named.1)) (length text) (behind (codes ">") (without_white named.1))
    (omega (arith, without_white_shorter named.1)) (behind_shorter (codes ">") (without_white named.1)))
    (λ rest less. less))

open_tag_shorter : (text : List ℕ) → CutAtMost (length text) (open_tag text)
open_tag_shorter text =
    let Q : Cut → Type 0 = λ cut. length cut.1 ≤ length text in
    bound (λ (named : List ℕ × List ℕ). length named.1 ≤ length text) Q _ (name text) (name_shorter text)
    (λ named le. bound (λ (end : Bool × List ℕ). length end.1 ≤ length text) Q _ (tag_rest (length named.1) named.1)
    (lengthened (length named.1) (length text) (tag_rest (length named.1) named.1) le (tag_rest_shorter (length named.1) named.1))
    (λ end less. less))

markup_shorter : (text : List ℕ) → CutAtMost (length text) (markup text)
markup_shorter text =
    let P : List ℕ → Type 0 = λ rest. length rest ≤ length text in
    let Q : Cut → Type 0 = λ cut. length cut.1 ≤ length text in
    map_or P Q comment (behind (codes "!--") text) (option_map_or close_tag (behind (codes "/") text) (open_tag text)) (behind_shorter (codes "!--") text)
    (λ rest le. lengthened (length rest) (length text) (comment rest) le (comment_shorter rest))
    (map_or P Q close_tag (behind (codes "/") text) (open_tag text) (behind_shorter (codes "/") text)
    (λ rest le. lengthened (length rest) (length text) (close_tag rest) le (close_tag_shorter rest))
    (open_tag_shorter text))

referred_shorter : (text : List ℕ) → CutAtMost (length text) (referred text)
referred_shorter text =
    bound (λ (found : ℕ × List ℕ). length found.1 ≤ length text) (λ (cut : Cut). length cut.1 ≤ length text) _ (reference text)
    (reference_shorter text) (λ found le. le)

data_front : (a b : Bool) (n : ℕ) → a ≡ false → b ≡ false → cond (not (a || b)) n 0 ≡ n
data_front false false n e f = refl
data_front true b n e f = absurd cc
data_front false true n e f = absurd cc

by_test : {A : Type 0} (Q : A → Type 0) (b : Bool) (o p : Option A) → IfSome o Q → (b ≡ false → IfSome p Q) → IfSome (cond b o p) Q
by_test Q true o p h k = h
by_test Q false o p h k = k refl

-- a token has a byte at least
pub first_token_shorter : (c : ℕ) (text : List ℕ) → CutAtMost (length text) (first_token (c ∷ text))
unfolding first_token
first_token_shorter c text =
    let Q : Cut → Type 0 = λ cut. length cut.1 ≤ length text in
    let n = prefix_len is_text_byte (c ∷ text) in
    by_test Q (c == 60) (markup text) (cond (c == 38) (referred text) (Some (Text (take_while is_text_byte (c ∷ text)), drop n (c ∷ text))))
    (markup_shorter text)
    (λ no_tag. by_test Q (c == 38) (referred text) (Some (Text (take_while is_text_byte (c ∷ text)), drop n (c ∷ text)))
    (referred_shorter text)
    (λ no_reference. omega (arith, length-drop n (c ∷ text), data_front (c == 60) (c == 38) (1 + prefix_len is_text_byte text) no_tag no_reference)))

-- ---- what stands before the tokens

unwrapped : (n : ℕ) (o : Option (List ℕ)) (d : List ℕ) → AtMost n o → length d ≤ n → length (unwrap_or o d) ≤ n
unwrapped n None d h k = k
unwrapped n (Some x) d h k = h

pub without_mark_shorter : (text : List ℕ) → length (without_mark text) ≤ length text
without_mark_shorter text =
    unwrapped (length text) (behind (0xEF ∷ 0xBB ∷ 0xBF ∷ []) text) text (behind_shorter (0xEF ∷ 0xBB ∷ 0xBF ∷ []) text) (omega arith)

declared_shorter : (text : List ℕ) (o : Option (List ℕ)) → AtMost (length text) o → AtMost (length text) (declaration_after text o)
declared_shorter text None h = omega arith
declared_shorter text (Some rest) h =
    chosen (λ (x : List ℕ). length x ≤ length text) (begins is_white rest) (after (codes "?>") rest) (Some text)
    (rest_lengthened (length rest) (length text) (after (codes "?>") rest) h (after_shorter (codes "?>") rest)) (omega arith)

pub some_at_most : (n : ℕ) (o : Option (List ℕ)) (x : List ℕ) → o ≡ Some x → AtMost n o → length x ≤ n
some_at_most n None x e h = absurd cc
some_at_most n (Some y) x e h = let same : y ≡ x = cc in omega (arith, ap length same)

pub without_declaration_shorter : (text rest : List ℕ) → without_declaration text ≡ Some rest → length rest ≤ length text
without_declaration_shorter text rest found =
    some_at_most (length text) (without_declaration text) rest found
    (declared_shorter text (behind (codes "<?xml") text) (behind_shorter (codes "<?xml") text))
