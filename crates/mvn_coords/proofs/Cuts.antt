-- Cuts of a text: at its front, at its end, and at its last slash.
use Rattle.std.proofs.Common.{◌≡◌, ℕ, ◌-◌, ◌<◌, Bool, true, false, cond, eqb, List, [], ◌∷◌, ◌++◌, length, take, drop, reverse, Option, Some, None, MatchOption, option_and_then, is_some, ◌≢◌, refl, ap, sym, ◌∙◌, arith, Bor, lit<}
use Rattle.std.specs.Option.{option_copied}
use Rattle.std.specs.List.{All, slice_split, onto_first, starts_with, ends_with}
use Rattle.std.specs.Str.Pattern.{RFindsChar, SplitsAroundMatch}
use Rattle.std.proofs.lemmas.Bool.{false_from_ne_true}
use Rattle.std.proofs.lemmas.Bool.Decides.{Decides-eqb}
use Rattle.std.proofs.lemmas.Slice.Eq.{starts_is, ends_is}
use Rattle.std.proofs.lemmas.List.{reverse-append, take-append-drop, get_or_default, drop_at, append_assoc, append_cancel_left}
use Rattle.std.proofs.lemmas.List.Splits.{slice_split_none, length-slice_split}
use Rattle.std.proofs.lemmas.Str.Pattern.{NoCharPasses-char, drop_at_char}
use Rattle.std.proofs.lemmas.Bool.{ne_eqb}
use Rattle.std.specs.Str.{NoCharPasses}
use Rattle.byte_cuts.specs.Cuts.{behind, before}
use Rattle.mvn_coords.specs.Segment.{levels}

onto_first-append : (x : ℕ) (ys zs : List (List ℕ)) → 0 < length ys → onto_first x (ys ++ zs) ≡ onto_first x ys ++ zs
onto_first-append x [] zs h = absurd (omega arith)
onto_first-append x (y ∷ ys) zs h = refl

abbrev pub slash : ℕ → Bool
slash b = eqb b 47

-- one more byte in front of a path whose last part is b
pub split_onto : (t : Bool) (x : ℕ) (xs b : List ℕ) → slice_split slash (xs ++ 47 ∷ b) ≡ slice_split slash xs ++ b ∷ [] → cond t ([] ∷ slice_split slash (xs ++ 47 ∷ b)) (onto_first x (slice_split slash (xs ++ 47 ∷ b))) ≡ cond t ([] ∷ slice_split slash xs) (onto_first x (slice_split slash xs)) ++ b ∷ []
split_onto true x xs b ih = ap (λ v. [] ∷ v) ih
split_onto false x xs b ih =
    ap (onto_first x) ih ∙ onto_first-append x (slice_split slash xs) (b ∷ []) (omega (arith, length-slice_split slash xs))

-- a text without a slash after the last one is the last part
pub split_last : (a b : List ℕ) → All (λ x. slash x ≡ false) b → slice_split slash (a ++ 47 ∷ b) ≡ slice_split slash a ++ b ∷ []
split_last [] b h = ap (λ v. [] ∷ v) (slice_split_none slash b h)
split_last (x ∷ xs) b h = split_onto (slash x) x xs b (split_last xs b h)

pub levels_last : (a b : List ℕ) → All (λ x. slash x ≡ false) b → levels (a ++ 47 ∷ b) ≡ b ∷ levels a
levels_last a b h = ap reverse (split_last a b h) ∙ reverse-append (slice_split slash a) (b ∷ [])

pub levels_one : (b : List ℕ) → All (λ x. slash x ≡ false) b → levels b ≡ b ∷ []
levels_one b h = ap reverse (slice_split_none slash b h)

no_slash : (b : List ℕ) → NoCharPasses (λ d. eqb d 47) b → All (λ x. slash x ≡ false) b
no_slash b h k d l =
    rw (get_or_default b k d 0 l) (ne_eqb _ 47 (NoCharPasses-char 47 b k h (lit< tt) l))

pub cut_last_is : (path : List ℕ) (r : Option (Bor (List ℕ) × Bor (List ℕ))) → MatchOption r (RFindsChar 47 path None) (λ x. SplitsAroundMatch (RFindsChar 47) path x.0.now x.1.now)
    → MatchOption r (levels path ≡ path ∷ []) (λ cut. (levels path ≡ cut.1.now ∷ levels cut.0.now) × (path ≡ cut.0.now ++ 47 ∷ cut.1.now))
cut_last_is path None h = levels_one path (no_slash path h)
cut_last_is path (Some x) (i, j, found, front, back, le, front_len, back_len) =
    let at : drop i path ≡ 47 ∷ drop j path = drop_at_char 47 path i j found.1 (lit< tt) in
    let joined : path ≡ x.0.now ++ 47 ∷ x.1.now = sym (take-append-drop i path) ∙ rw (at, front, back) refl in
    let none : All (λ b. slash b ≡ false) x.1.now = rw back (no_slash (drop j path) found.0) in
    (ap levels joined ∙ levels_last x.0.now x.1.now none, joined)

-- what `behind` and `before` say, as sums of lists
pub after_some : (front text rest : List ℕ) → behind front text ≡ Some rest → text ≡ front ++ rest
after_some front text rest h = some (starts_with eqb text front) refl h
  where
    some : (t : Bool) → starts_with eqb text front ≡ t → cond t (Some (drop (length front) text)) None ≡ Some rest → text ≡ front ++ rest
    some true e h = (starts_is Decides-eqb text front _ refl).0 e ∙ ap (λ r. front ++ r) cc
    some false e h = cc

pub some_after : (front text rest : List ℕ) → text ≡ front ++ rest → behind front text ≡ Some rest
some_after front text rest h =
    let e : starts_with eqb text front ≡ true = (starts_is Decides-eqb text front _ refl).1 rest h in
    rw (e, h) (ap Some (drop_at front rest (length front) refl))

pub none_after : (front text : List ℕ) → ((rest : List ℕ) → text ≢ front ++ rest) → behind front text ≡ None
none_after front text h =
    let e : starts_with eqb text front ≡ false = false_from_ne_true _ (λ t. h _ ((starts_is Decides-eqb text front _ refl).0 t)) in
    rw e refl

pub after_none : (front text rest : List ℕ) → behind front text ≡ None → text ≡ front ++ rest → ⊥
after_none front text rest h e = let s = some_after front text rest e in cc

pub before_some : (end text rest : List ℕ) → before end text ≡ Some rest → text ≡ rest ++ end
before_some end text rest h = some (ends_with eqb text end) refl h
  where
    some : (t : Bool) → ends_with eqb text end ≡ t → cond t (Some (take (length text - length end) text)) None ≡ Some rest → text ≡ rest ++ end
    some true e h = (ends_is Decides-eqb text end _ refl).0 e ∙ ap (λ r. r ++ end) cc
    some false e h = cc

-- one front after another
pub behind-append : (a b text : List ℕ) → behind (a ++ b) text ≡ option_and_then (behind b) (behind a text)
behind-append a b text = by_first (behind a text) refl
  where
    by_second : (r : List ℕ) (o : Option (List ℕ)) → text ≡ a ++ r → behind b r ≡ o → behind (a ++ b) text ≡ o
    by_second r None e h = none_after (a ++ b) text (λ rest w. after_none b r rest h (append_cancel_left a r (b ++ rest) (sym e ∙ w ∙ append_assoc a b rest)))
    by_second r (Some rest) e h = some_after (a ++ b) text rest (e ∙ ap (λ v. a ++ v) (after_some b r rest h) ∙ sym (append_assoc a b rest))

    by_first : (o : Option (List ℕ)) → behind a text ≡ o → behind (a ++ b) text ≡ option_and_then (behind b) o
    by_first None h = none_after (a ++ b) text (λ rest w. after_none a text (b ++ rest) h (w ∙ append_assoc a b rest))
    by_first (Some r) h = by_second r (behind b r) (after_some a text r h) refl

-- an artifact, `-` and a version
pub after_version : (a v text : List ℕ) → behind (a ++ 45 ∷ v) text ≡ option_and_then (λ r. option_and_then (behind v) (behind (45 ∷ []) r)) (behind a text)
after_version a v text = behind-append a (45 ∷ v) text ∙ ap (λ f. option_and_then f (behind a text)) (λ i r. behind-append (45 ∷ []) v r i)

-- the same with `-` at its end
pub after_base : (a b text : List ℕ) → behind (a ++ 45 ∷ b ++ 45 ∷ []) text ≡ option_and_then (behind (45 ∷ [])) (behind (a ++ 45 ∷ b) text)
after_base a b text = behind-append (a ++ 45 ∷ b) (45 ∷ []) text

pub before_none : (end text : List ℕ) → before end text ≡ None → ends_with eqb text end ≡ false
before_none end text h = none (ends_with eqb text end) h
  where
    none : (t : Bool) → cond t (Some (take (length text - length end) text)) None ≡ None → t ≡ false
    none true h = cc
    none false h = refl

pub is_some_copied : (r : Option (Bor (List ℕ))) → is_some (option_copied r) ≡ is_some r
is_some_copied None = refl
is_some_copied (Some x) = refl
