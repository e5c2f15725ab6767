-- A map from numbers, as its list in rising order.
use Rattle.std.proofs.Common.{◌≡◌, ℕ, ◌+◌, ◌<◌, Bool, true, false, cond, not, ◌||◌, List, [], ◌∷◌, ◌++◌, filter, Some, None, option_map, Less, Equal, Greater, is_eq, nat_cmp, nat_eq, nat_lt, eqb, refl, sym, ap, ◌∙◌, subst, arith, ⊎_elim}
use Rattle.std.proofs.lemmas.Bool.{eqb-true, eq-eqb, ne_eqb, cases_eq, ltb-true}
use Rattle.std.proofs.lemmas.Cmp.{ranked}
use Rattle.std.proofs.lemmas.Option.{none-some}
use Rattle.std.specs.BTreeMap.{is_at, insert_entry}
use Rattle.std.specs.Cmp.{nat_cmp_is}
use Rattle.std.specs.List.{AllByRecursion, list_any}
use Rattle.std.specs.List.Sorted.{IsStrictlySortedBy}
use Rattle.std.specs.Map.{keys_of, lookup, remove_entry, set_value}
use Rattle.std.specs.Ordering.{match_ordering}
use Rattle.blob_yard.specs.declared.places.Place.{Place}
use Rattle.blob_yard.specs.Places.{AreBelow, AreAbove, AreRising, changed}

pub eqb_sym : (a b : ℕ) → eqb a b ≡ eqb b a
eqb_sym a b =
    ⊎_elim (λ e. eq-eqb a b e ∙ sym (eq-eqb b a (sym e))) (λ ne. ne_eqb a b ne ∙ sym (ne_eqb b a (λ h. ne (sym h)))) (cases_eq a b)

pub less_eqb : (k n : ℕ) → k < n → eqb n k ≡ false
less_eqb k n h = ne_eqb n k (λ e. absurd (omega (arith, e, h)))

pub less_eqb_flip : (k n : ℕ) → k < n → eqb k n ≡ false
less_eqb_flip k n h = ne_eqb k n (λ e. absurd (omega (arith, e, h)))

greater : (m n : ℕ) → m < n → nat_cmp n m ≡ Greater
greater m n h = sym (nat_cmp_is n m Greater h)

pub is_at-number : (n m : ℕ) → is_at (nat_cmp n) m ≡ nat_eq n m
is_at-number n m =
    elim (nat_lt n m) as (λ b. nat_lt n m ≡ b → is_eq (cond b Less (cond (eqb n m) Equal Greater)) ≡ eqb n m) [
      | true ↦ λ h. sym (less_eqb_flip n m (ltb-true n m h))
      | false ↦ λ h. elim (eqb n m) as (λ b. is_eq (cond b Equal Greater) ≡ b) [ true ↦ refl | false ↦ refl ]
    ] refl

among-keys_less : (a b r : Bool) → (a || (b || r)) ≡ ((b || r) || a)
among-keys_less true true r = refl
among-keys_less true false true = refl
among-keys_less true false false = refl
among-keys_less false true r = refl
among-keys_less false false true = refl
among-keys_less false false false = refl

among-keys_equal : (b r : Bool) → (b || r) ≡ ((b || r) || b)
among-keys_equal true r = refl
among-keys_equal false true = refl
among-keys_equal false false = refl

among-keys_greater : (a b r : Bool) → (b || (r || a)) ≡ ((b || r) || a)
among-keys_greater a true r = refl
among-keys_greater a false r = refl

module _ {X : Type 0} where
  above-from : (k : ℕ) (es : List (ℕ × X)) → AllByRecursion (λ m. nat_cmp k m ≡ Less) (keys_of es) → AreAbove k es
  above-from k [] h = tt
  above-from k (e ∷ es) h = (ranked k e.0 Less (sym h.0), above-from k es h.1)

  -- the keys of a map rise
  pub rising-from : (es : List (ℕ × X)) → IsStrictlySortedBy nat_cmp (keys_of es) → AreRising es
  unfolding IsStrictlySortedBy
  rising-from [] h = tt
  rising-from (e ∷ es) h = (above-from e.0 es h.0, rising-from es h.1)

  pub found-above : (k n : ℕ) (x : X) (es : List (ℕ × X)) → AreAbove k es → lookup (nat_eq n) es ≡ Some x → k < n
  found-above k n x [] above is = absurd (none-some x is)
  found-above k n x (e ∷ es) above is =
      elim (eqb n e.0) as (λ b. eqb n e.0 ≡ b → cond b (Some e.1) (lookup (nat_eq n) es) ≡ Some x → k < n) [
        | true ↦ λ here at. subst (λ m. k < m) (sym (eqb-true n e.0 here)) above.0
        | false ↦ λ there at. found-above k n x es above.1 at
      ] refl is

  -- what is found after the first is found in the whole
  pub found-after : (n : ℕ) (x : X) (e : ℕ × X) (es : List (ℕ × X)) → AreRising (e ∷ es) → lookup (nat_eq n) es ≡ Some x → lookup (nat_eq n) (e ∷ es) ≡ Some x
  found-after n x e es up is = ap (λ b. cond b (Some e.1) (lookup (nat_eq n) es)) (less_eqb e.0 n (found-above e.0 n x es up.0 is)) ∙ is

  pub found-first : (e : ℕ × X) (es : List (ℕ × X)) → lookup (nat_eq e.0) (e ∷ es) ≡ Some e.1
  found-first e es = ap (λ b. cond b (Some e.1) (lookup (nat_eq e.0) es)) (eq-eqb e.0 e.0 refl)

  pub lookup-number : (n : ℕ) (es : List (ℕ × X)) → lookup (is_at (nat_cmp n)) es ≡ lookup (nat_eq n) es
  lookup-number n [] = refl
  lookup-number n (e ∷ es) =
      ap (λ b. cond b (Some e.1) (lookup (is_at (nat_cmp n)) es)) (is_at-number n e.0) ∙ ap (cond (nat_eq n e.0) (Some e.1)) (lookup-number n es)

  set_value-number : (n : ℕ) (es : List (ℕ × X)) (x : X) → set_value (is_at (nat_cmp n)) es x ≡ set_value (nat_eq n) es x
  set_value-number n [] x = refl
  set_value-number n (e ∷ es) x =
      ap (λ b. cond b ((e.0, x) ∷ es) (e ∷ set_value (is_at (nat_cmp n)) es x)) (is_at-number n e.0)
      ∙ ap (λ r. cond (nat_eq n e.0) ((e.0, x) ∷ es) (e ∷ r)) (set_value-number n es x)

  pub remove_entry-number : (n : ℕ) (es : List (ℕ × X)) → remove_entry (is_at (nat_cmp n)) es ≡ remove_entry (nat_eq n) es
  remove_entry-number n [] = refl
  remove_entry-number n (e ∷ es) =
      ap (λ b. cond b es (e ∷ remove_entry (is_at (nat_cmp n)) es)) (is_at-number n e.0)
      ∙ ap (λ r. cond (nat_eq n e.0) es (e ∷ r)) (remove_entry-number n es)

  -- a number that is greater than all comes last
  pub insert_entry-last : (n : ℕ) (x : X) (es : List (ℕ × X)) → AreBelow n es → insert_entry nat_cmp es n x ≡ es ++ (n, x) ∷ []
  insert_entry-last n x [] below = refl
  insert_entry-last n x (e ∷ es) below =
      ap (λ o. match_ordering o ((n, x) ∷ e ∷ es) ((e.0, x) ∷ es) (e ∷ insert_entry nat_cmp es n x)) (greater e.0 n below.0)
      ∙ ap (λ r. e ∷ r) (insert_entry-last n x es below.1)

  filter-above : (n : ℕ) (es : List (ℕ × X)) → AreAbove n es → filter (λ e. not (eqb e.0 n)) es ≡ es
  filter-above n [] above = refl
  filter-above n (e ∷ es) above =
      ap (λ b. cond (not b) (e ∷ filter (λ e. not (eqb e.0 n)) es) (filter (λ e. not (eqb e.0 n)) es)) (less_eqb n e.0 above.0)
      ∙ ap (λ r. e ∷ r) (filter-above n es above.1)

  -- a number is taken out
  pub remove_entry-rising : (n : ℕ) (es : List (ℕ × X)) → AreRising es → remove_entry (nat_eq n) es ≡ filter (λ e. not (eqb e.0 n)) es
  remove_entry-rising n [] up = refl
  remove_entry-rising n (e ∷ es) up =
      ap (λ b. cond b es (e ∷ remove_entry (nat_eq n) es)) (eqb_sym n e.0)
      ∙ elim (eqb e.0 n) as (λ b. eqb e.0 n ≡ b → cond b es (e ∷ remove_entry (nat_eq n) es) ≡ cond (not b) (e ∷ filter (λ e. not (eqb e.0 n)) es) (filter (λ e. not (eqb e.0 n)) es)) [
        | true ↦ λ here. sym (filter-above n es (subst (λ m. AreAbove m es) (eqb-true e.0 n here) up.0))
        | false ↦ λ there. ap (λ r. e ∷ r) (remove_entry-rising n es up.1)
      ] refl

  pub AreBelow-insert_entry : (next n : ℕ) (x : X) (es : List (ℕ × X)) → n < next → AreBelow next es → AreBelow next (insert_entry nat_cmp es n x)
  AreBelow-insert_entry next n x [] h below = (h, tt)
  AreBelow-insert_entry next n x (e ∷ es) h below =
      elim (nat_cmp n e.0) as (λ o. AreBelow next (match_ordering o ((n, x) ∷ e ∷ es) ((e.0, x) ∷ es) (e ∷ insert_entry nat_cmp es n x))) [
        | Less ↦ (h, below)
        | Equal ↦ below
        | Greater ↦ (below.0, AreBelow-insert_entry next n x es h below.1)
      ]

  pub AreBelow-push : (n : ℕ) (x : X) (es : List (ℕ × X)) → AreBelow n es → AreBelow (n + 1) (es ++ (n, x) ∷ [])
  AreBelow-push n x [] below = (omega arith, tt)
  AreBelow-push n x (e ∷ es) below = (omega (arith, below.0), AreBelow-push n x es below.1)

  pub AreBelow-filter : (next : ℕ) (p : ℕ × X → Bool) (es : List (ℕ × X)) → AreBelow next es → AreBelow next (filter p es)
  AreBelow-filter next p [] below = tt
  AreBelow-filter next p (e ∷ es) below =
      elim (p e) as (λ b. AreBelow next (cond b (e ∷ filter p es) (filter p es))) [
        | true ↦ (below.0, AreBelow-filter next p es below.1)
        | false ↦ AreBelow-filter next p es below.1
      ]

  -- whether a number is among the keys
  pub among-insert_entry : (n k : ℕ) (x : X) (es : List (ℕ × X)) → list_any (λ m. eqb m n) (keys_of (insert_entry nat_cmp es k x)) ≡ (list_any (λ m. eqb m n) (keys_of es) || eqb k n)
  among-insert_entry n k x [] = elim (eqb k n) as (λ b. (b || false) ≡ b) [ true ↦ refl | false ↦ refl ]
  among-insert_entry n k x (e ∷ es) =
      elim (nat_cmp k e.0) as (λ o. nat_cmp k e.0 ≡ o → list_any (λ m. eqb m n) (keys_of (match_ordering o ((k, x) ∷ e ∷ es) ((e.0, x) ∷ es) (e ∷ insert_entry nat_cmp es k x)))
      ≡ ((eqb e.0 n || list_any (λ m. eqb m n) (keys_of es)) || eqb k n)) [
        | Less ↦ λ h. among-keys_less (eqb k n) (eqb e.0 n) (list_any (λ m. eqb m n) (keys_of es))
        | Equal ↦ λ h.
            among-keys_equal (eqb e.0 n) (list_any (λ m. eqb m n) (keys_of es))
            ∙ ap (λ m. (eqb e.0 n || list_any (λ m. eqb m n) (keys_of es)) || eqb m n) (sym (ranked k e.0 Equal (sym h)))
        | Greater ↦ λ h.
            ap (λ r. eqb e.0 n || r) (among-insert_entry n k x es)
            ∙ among-keys_greater (eqb k n) (eqb e.0 n) (list_any (λ m. eqb m n) (keys_of es))
      ] refl

-- no later number is an earlier one
changed-above : (k : ℕ) (f : Place → Place) (es : List (ℕ × Place)) → AreAbove k es → changed k f es ≡ es
changed-above k f [] above = refl
changed-above k f (e ∷ es) above =
    ap (λ b. cond b (e.0, f e.1) e ∷ changed k f es) (less_eqb_flip k e.0 above.0) ∙ ap (λ r. e ∷ r) (changed-above k f es above.1)

-- the place of a number is written over
changed_here : (n : ℕ) (f : Place → Place) (es : List (ℕ × Place)) (old new : Place) → AreRising es
    → lookup (nat_eq n) es ≡ Some old → new ≡ f old → set_value (nat_eq n) es new ≡ changed n f es
changed_here n f [] old new up is written = absurd (none-some old is)
changed_here n f (e ∷ es) old new up is written =
    elim (nat_eq n e.0)
    as (λ b. nat_eq n e.0 ≡ b → set_value (nat_eq n) (e ∷ es) new ≡ cond b (e.0, f e.1) e ∷ changed n f es) [
      | true ↦ λ here.
          let same : n ≡ e.0 = eqb-true n e.0 here in
          let first : Some e.1 ≡ Some old = sym (ap (λ b. cond b (Some e.1) (lookup (nat_eq n) es)) here) ∙ is in
          let is_old : e.1 ≡ old = cc in
          ap (λ b. cond b ((e.0, new) ∷ es) (e ∷ set_value (nat_eq n) es new)) here
          ∙ ap (λ (p : Place). (e.0, p) ∷ es) (written ∙ ap f (sym is_old))
          ∙ ap (λ r. (e.0, f e.1) ∷ r) (sym (ap (λ m. changed m f es) same ∙ changed-above e.0 f es up.0))
      | false ↦ λ there.
          let behind : lookup (nat_eq n) es ≡ Some old = sym (ap (λ b. cond b (Some e.1) (lookup (nat_eq n) es)) there) ∙ is in
          ap (λ b. cond b ((e.0, new) ∷ es) (e ∷ set_value (nat_eq n) es new)) there
          ∙ ap (λ r. e ∷ r) (changed_here n f es old new up.1 behind written)
    ] refl

changed_nowhere : (n : ℕ) (f : Place → Place) (es : List (ℕ × Place)) → lookup (nat_eq n) es ≡ None → changed n f es ≡ es
changed_nowhere n f [] none = refl
changed_nowhere n f (e ∷ es) none =
    elim (nat_eq n e.0)
    as (λ b. nat_eq n e.0 ≡ b → cond b (e.0, f e.1) e ∷ changed n f es ≡ e ∷ es) [
      | true ↦ λ here. absurd (none-some e.1 (sym (sym (ap (λ b. cond b (Some e.1) (lookup (nat_eq n) es)) here) ∙ none)))
      | false ↦ λ there.
          ap (λ r. e ∷ r) (changed_nowhere n f es (sym (ap (λ b. cond b (Some e.1) (lookup (nat_eq n) es)) there) ∙ none))
    ] refl

-- what a map is after a write through `get_mut`, or where that found nothing
pub written : (n : ℕ) (f : Place → Place) (es : List (ℕ × Place)) (old new : Place) → IsStrictlySortedBy nat_cmp (keys_of es)
    → lookup (is_at (nat_cmp n)) es ≡ Some old → new ≡ f old → set_value (is_at (nat_cmp n)) es new ≡ changed n f es
written n f es old new sorted is change =
    set_value-number n es new ∙ changed_here n f es old new (rising-from es sorted) (sym (lookup-number n es) ∙ is) change

pub unwritten : (n : ℕ) (f : Place → Place) (es : List (ℕ × Place)) → lookup (is_at (nat_cmp n)) es ≡ None → es ≡ changed n f es
unwritten n f es none = sym (changed_nowhere n f es (sym (lookup-number n es) ∙ none))

-- what is found after a change
pub lookup-changed : (m n : ℕ) (f : Place → Place) (es : List (ℕ × Place)) → lookup (nat_eq m) (changed n f es) ≡ option_map (λ p. cond (nat_eq n m) (f p) p) (lookup (nat_eq m) es)
lookup-changed m n f [] = refl
lookup-changed m n f (e ∷ es) =
    let first : (b : Bool) → lookup (nat_eq m) (cond b (e.0, f e.1) e ∷ changed n f es) ≡ cond (nat_eq m e.0) (Some (cond b (f e.1) e.1)) (lookup (nat_eq m) (changed n f es)) =
    λ b. elim b as (λ b. lookup (nat_eq m) (cond b (e.0, f e.1) e ∷ changed n f es) ≡ cond (nat_eq m e.0) (Some (cond b (f e.1) e.1)) (lookup (nat_eq m) (changed n f es))) [ true ↦ refl | false ↦ refl ] in
    first (nat_eq n e.0)
    ∙ elim (nat_eq m e.0) as (λ b. nat_eq m e.0 ≡ b → cond b (Some (cond (nat_eq n e.0) (f e.1) e.1)) (lookup (nat_eq m) (changed n f es))
    ≡ option_map (λ p. cond (nat_eq n m) (f p) p) (cond b (Some e.1) (lookup (nat_eq m) es))) [
      | true ↦ λ here. ap (λ k. Some (cond (nat_eq n k) (f e.1) e.1)) (sym (eqb-true m e.0 here))
      | false ↦ λ there. lookup-changed m n f es
    ] refl

pub AreBelow-changed : (next n : ℕ) (f : Place → Place) (es : List (ℕ × Place)) → AreBelow next es → AreBelow next (changed n f es)
AreBelow-changed next n f [] below = tt
AreBelow-changed next n f (e ∷ es) below =
    elim (nat_eq n e.0) as (λ b. AreBelow next (cond b (e.0, f e.1) e ∷ changed n f es)) [
      | true ↦ (below.0, AreBelow-changed next n f es below.1)
      | false ↦ (below.0, AreBelow-changed next n f es below.1)
    ]
