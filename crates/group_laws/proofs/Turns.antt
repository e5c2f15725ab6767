-- The first member that passes a test, by its place.
use Rattle.std.proofs.Common.{◌≡◌, ℕ, suc, ◌+◌, Bool, true, false, cond, not, List, [], ◌∷◌, map, length, Option, Some, None, option_map, refl, sym, ◌∙◌, ap, ltb, arith}
use Rattle.std.proofs.lemmas.Bool.{le-ltb, lt-ltb, ltb_from_iff, ltb-true}
use Rattle.std.specs.Prelude.{find}
use Rattle.std.specs.List.{position, position_or_len}
use Rattle.repo_model.specs.Turn.{Seen, is_file, is_text, is_doc, is_nothing, is_to_fetch, is_blocked, is_negative, is_never, first_or, fetches_one, serves_or_fetches}
use Rattle.group_view.specs.Members.{earlier, fetches, next, serves}
use Rattle.group_view.specs.declared.stances.Stance.{Stance}
use Rattle.group_view.specs.declared.stances.Turn.{Turn}
use Rattle.group_view.specs.declared.stances.Turn.TheVariants.{Ask, Serve, Nothing}
use Rattle.group_laws.specs.Seen.{asked_of, seen_of, stance_of}

abbrev later : Option ℕ → Option ℕ
later o = option_map suc o

-- the first place in a list is 0, or one more than that in the rest
place-more : {X : Type 0} (p : X → Bool) (x : X) (xs : List X) → position p (x ∷ xs) ≡ cond (p x) (Some 0) (later (position p xs))
place-more p x xs =
    let n = position_or_len p xs in
    let one : 1 + n ≡ suc n = omega arith in
    let test : ltb (suc n) (suc (length xs)) ≡ ltb n (length xs) =
    ltb_from_iff (λ t. let h = ltb-true (suc n) (suc (length xs)) t in omega (arith, h), λ h. lt-ltb (suc n) (suc (length xs)) (omega (arith, h))) in
    elim (p x)
    as (λ b. cond (ltb (cond (not b) (1 + n) 0) (suc (length xs))) (Some (cond (not b) (1 + n) 0)) None ≡ cond b (Some 0) (later (cond (ltb n (length xs)) (Some n) None))) [
      | true ↦ ap (λ b. cond b (Some 0) None) (lt-ltb 0 (suc (length xs)) (omega arith))
      | false ↦
          ap (λ k. cond (ltb k (suc (length xs))) (Some k) None) one
          ∙ ap (λ b. cond b (Some (suc n)) None) test
          ∙ elim (ltb n (length xs)) as (λ b. cond b (Some (suc n)) None ≡ later (cond b (Some n) None)) [ true ↦ refl | false ↦ refl ]
    ]

-- places one later each
abbrev shifted : Turn → Turn
shifted (Ask n) = Ask (suc n)
shifted (Serve n) = Serve (suc n)
shifted Nothing = Nothing

earlier-later : (a b : Option ℕ) → earlier (later a) (later b) ≡ shifted (earlier a b)
earlier-later None None = refl
earlier-later (Some i) None = refl
earlier-later None (Some j) = refl
earlier-later (Some i) (Some j) =
    let test : ltb (suc i) (suc j) ≡ ltb i j =
    ltb_from_iff (λ t. let h = ltb-true (suc i) (suc j) t in omega (arith, h), λ h. lt-ltb (suc i) (suc j) (omega (arith, h))) in
    ap (λ b. cond b (Serve (suc i)) (Ask (suc j))) test
    ∙ elim (ltb i j) as (λ b. cond b (Serve (suc i)) (Ask (suc j)) ≡ shifted (cond b (Serve i) (Ask j))) [ true ↦ refl | false ↦ refl ]

seen-shifted : (x : Seen) (xs : List Seen) (t : Turn) → seen_of (x ∷ xs) (shifted t) ≡ seen_of xs t
seen-shifted x xs (Ask n) = refl
seen-shifted x xs (Serve n) = refl
seen-shifted x xs Nothing = refl

asked-shifted : (x : Seen) (xs : List Seen) (t : Turn) → asked_of (x ∷ xs) (shifted t) ≡ asked_of xs t
asked-shifted x xs (Ask n) = refl
asked-shifted x xs (Serve n) = refl
asked-shifted x xs Nothing = refl

-- a first member that serves, one that fetches, and one that passes
served-first : (o : Option ℕ) → earlier (Some 0) (later o) ≡ Serve 0
served-first None = refl
served-first (Some j) = ap (λ b. cond b (Serve 0) (Ask (suc j))) (lt-ltb 0 (suc j) (omega arith))

fetched-first : (o : Option ℕ) → earlier (later o) (Some 0) ≡ Ask 0
fetched-first None = refl
fetched-first (Some i) = ap (λ b. cond b (Serve (suc i)) (Ask 0)) (le-ltb (suc i) 0 (omega arith))

turn-more : (x : Stance) (xs : List Stance)
    → next false (x ∷ xs) ≡ earlier (cond (serves x) (Some 0) (later (position serves xs))) (cond (fetches x) (Some 0) (later (position fetches xs)))
turn-more x xs = ap (λ o. earlier o (position fetches (x ∷ xs))) (place-more serves x xs) ∙ ap (earlier (cond (serves x) (Some 0) (later (position serves xs)))) (place-more fetches x xs)

asks-more : (x : Stance) (xs : List Stance) → next true (x ∷ xs) ≡ earlier None (cond (fetches x) (Some 0) (later (position fetches xs)))
asks-more x xs = ap (earlier None) (place-more fetches x xs)

serving : (x : Seen) (xs : List Seen) → serves (stance_of x) ≡ true → fetches (stance_of x) ≡ false → serves_or_fetches x ≡ true
    → first_or (find serves_or_fetches (x ∷ xs)) is_nothing ≡ seen_of (x ∷ xs) (next false (map stance_of (x ∷ xs)))
serving x xs s f t =
    let ss = map stance_of xs in
    ap (λ b. first_or (cond b (Some x) (find serves_or_fetches xs)) is_nothing) t
    ∙ sym (ap (seen_of (x ∷ xs)) (turn-more (stance_of x) ss
    ∙ ap (λ b. earlier (cond b (Some 0) (later (position serves ss))) (cond (fetches (stance_of x)) (Some 0) (later (position fetches ss)))) s
    ∙ ap (λ b. earlier (Some 0) (cond b (Some 0) (later (position fetches ss)))) f
    ∙ served-first (position fetches ss)))

fetching : (x : Seen) (xs : List Seen) → serves (stance_of x) ≡ false → fetches (stance_of x) ≡ true → serves_or_fetches x ≡ true
    → first_or (find serves_or_fetches (x ∷ xs)) is_nothing ≡ seen_of (x ∷ xs) (next false (map stance_of (x ∷ xs)))
fetching x xs s f t =
    let ss = map stance_of xs in
    ap (λ b. first_or (cond b (Some x) (find serves_or_fetches xs)) is_nothing) t
    ∙ sym (ap (seen_of (x ∷ xs)) (turn-more (stance_of x) ss
    ∙ ap (λ b. earlier (cond b (Some 0) (later (position serves ss))) (cond (fetches (stance_of x)) (Some 0) (later (position fetches ss)))) s
    ∙ ap (λ b. earlier (later (position serves ss)) (cond b (Some 0) (later (position fetches ss)))) f
    ∙ fetched-first (position serves ss)))

passing : (x : Seen) (xs : List Seen) → serves (stance_of x) ≡ false → fetches (stance_of x) ≡ false → serves_or_fetches x ≡ false
    → first_or (find serves_or_fetches xs) is_nothing ≡ seen_of xs (next false (map stance_of xs))
    → first_or (find serves_or_fetches (x ∷ xs)) is_nothing ≡ seen_of (x ∷ xs) (next false (map stance_of (x ∷ xs)))
passing x xs s f t rest =
    let ss = map stance_of xs in
    ap (λ b. first_or (cond b (Some x) (find serves_or_fetches xs)) is_nothing) t
    ∙ rest
    ∙ sym (ap (seen_of (x ∷ xs)) (turn-more (stance_of x) ss
    ∙ ap (λ b. earlier (cond b (Some 0) (later (position serves ss))) (cond (fetches (stance_of x)) (Some 0) (later (position fetches ss)))) s
    ∙ ap (λ b. earlier (later (position serves ss)) (cond b (Some 0) (later (position fetches ss)))) f
    ∙ earlier-later (position serves ss) (position fetches ss))
    ∙ seen-shifted x xs (next false ss))

-- of a file
pub file-turn : (seens : List Seen) → first_or (find serves_or_fetches seens) is_nothing ≡ seen_of seens (next false (map stance_of seens))
file-turn [] = refl
file-turn (is_file blob ∷ xs) = serving (is_file blob) xs refl refl refl
file-turn (is_text bytes ∷ xs) = serving (is_text bytes) xs refl refl refl
file-turn (is_doc bytes ∷ xs) = serving (is_doc bytes) xs refl refl refl
file-turn (is_to_fetch member rule path of_file ∷ xs) = fetching (is_to_fetch member rule path of_file) xs refl refl refl
file-turn (is_nothing ∷ xs) = passing is_nothing xs refl refl refl (file-turn xs)
file-turn (is_blocked ∷ xs) = passing is_blocked xs refl refl refl (file-turn xs)
file-turn (is_negative ∷ xs) = passing is_negative xs refl refl refl (file-turn xs)
file-turn (is_never ∷ xs) = passing is_never xs refl refl refl (file-turn xs)

asking : (x : Seen) (xs : List Seen) → fetches (stance_of x) ≡ fetches_one x → find fetches_one xs ≡ asked_of xs (next true (map stance_of xs))
    → find fetches_one (x ∷ xs) ≡ asked_of (x ∷ xs) (next true (map stance_of (x ∷ xs)))
asking x xs same rest =
    let ss = map stance_of xs in
    elim (fetches_one x)
    as (λ b. cond b (Some x) (find fetches_one xs) ≡ asked_of (x ∷ xs) (earlier None (cond b (Some 0) (later (position fetches ss))))) [
      | true ↦ refl
      | false ↦ rest ∙ sym (ap (asked_of (x ∷ xs)) (earlier-later None (position fetches ss)) ∙ asked-shifted x xs (next true ss))
    ]
    ∙ sym (ap (asked_of (x ∷ xs)) (asks-more (stance_of x) ss ∙ ap (λ b. earlier None (cond b (Some 0) (later (position fetches ss)))) same))

-- of a document
pub document-turn : (seens : List Seen) → find fetches_one seens ≡ asked_of seens (next true (map stance_of seens))
document-turn [] = refl
document-turn (is_file blob ∷ xs) = asking (is_file blob) xs refl (document-turn xs)
document-turn (is_text bytes ∷ xs) = asking (is_text bytes) xs refl (document-turn xs)
document-turn (is_doc bytes ∷ xs) = asking (is_doc bytes) xs refl (document-turn xs)
document-turn (is_to_fetch member rule path of_file ∷ xs) = asking (is_to_fetch member rule path of_file) xs refl (document-turn xs)
document-turn (is_nothing ∷ xs) = asking is_nothing xs refl (document-turn xs)
document-turn (is_blocked ∷ xs) = asking is_blocked xs refl (document-turn xs)
document-turn (is_negative ∷ xs) = asking is_negative xs refl (document-turn xs)
document-turn (is_never ∷ xs) = asking is_never xs refl (document-turn xs)
