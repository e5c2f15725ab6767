-- The numbers that stand in one way, after a change of one place.
use Rattle.std.proofs.Common.{◌≡◌, ℕ, Bool, true, false, cond, not, ◌&&◌, ◌||◌, List, [], ◌∷◌, ◌++◌, map, filter, Option, Some, None, Less, Equal, Greater, nat_cmp, nat_eq, eqb, refl, sym, ap, ◌∙◌, subst, arith}
use Rattle.std.proofs.lemmas.Bool.{false≢true, eqb-true, eq-eqb, lt-ltb, le-ltb}
use Rattle.std.proofs.lemmas.List.{map-append}
use Rattle.std.proofs.lemmas.List.Elements.{filter-append}
use Rattle.std.proofs.lemmas.List.Folds.{list_any-append}
use Rattle.std.specs.BTreeMap.{insert_entry}
use Rattle.std.specs.Ordering.{match_ordering}
use Rattle.std.proofs.lemmas.Option.{none-some}
use Rattle.std.specs.List.{list_any}
use Rattle.std.specs.Map.{lookup, remove_entry}
use Rattle.std.specs.Option.{option_map_or}
use Rattle.repo_model.specs.Effect.{with_number, without_number}
use Rattle.repo_model.specs.State.{is_among}
use Rattle.blob_yard.specs.declared.places.Place.{Place}
use Rattle.blob_yard.specs.declared.places.Stand.TheVariants.{Kept}
use Rattle.blob_yard.specs.Places.{AreAbove, AreKept, AreRising, changed, without}
use Rattle.blob_yard.proofs.MapLemmas.{eqb_sym, less_eqb, less_eqb_flip, found-above, remove_entry-rising}

-- the numbers whose places pass a test
abbrev pub passing : (Place → Bool) → List (ℕ × Place) → List ℕ
passing test es = map (λ e. e.0) (filter (λ e. test e.1) es)

module _ (test : Place → Bool) where
  -- greater numbers alone
  with_number-above : (n : ℕ) (es : List (ℕ × Place)) → AreAbove n es → with_number n (passing test es) ≡ n ∷ passing test es
  with_number-above n [] above = refl
  with_number-above n (e ∷ es) above =
      elim (test e.1) as (λ b. with_number n (map (λ e. e.0) (cond b (e ∷ filter (λ e. test e.1) es) (filter (λ e. test e.1) es))) ≡ n ∷ map (λ e. e.0) (cond b (e ∷ filter (λ e. test e.1) es) (filter (λ e. test e.1) es))) [
        | true ↦ ap (λ b. cond b (e.0 ∷ with_number n (passing test es)) (n ∷ e.0 ∷ passing test es)) (le-ltb e.0 n (omega (arith, above.0)))
        | false ↦ with_number-above n es above.1
      ]

  without_number-above : (n : ℕ) (es : List (ℕ × Place)) → AreAbove n es → without_number n (passing test es) ≡ passing test es
  without_number-above n [] above = refl
  without_number-above n (e ∷ es) above =
      elim (test e.1) as (λ b. without_number n (map (λ e. e.0) (cond b (e ∷ filter (λ e. test e.1) es) (filter (λ e. test e.1) es))) ≡ map (λ e. e.0) (cond b (e ∷ filter (λ e. test e.1) es) (filter (λ e. test e.1) es))) [
        | true ↦
            ap (λ b. cond (not b) (e.0 ∷ without_number n (passing test es)) (without_number n (passing test es))) (less_eqb n e.0 above.0)
            ∙ ap (λ r. e.0 ∷ r) (without_number-above n es above.1)
        | false ↦ without_number-above n es above.1
      ]

  among-above : (n : ℕ) (es : List (ℕ × Place)) → AreAbove n es → is_among n (passing test es) ≡ false
  among-above n [] above = refl
  among-above n (e ∷ es) above =
      elim (test e.1) as (λ b. is_among n (map (λ e. e.0) (cond b (e ∷ filter (λ e. test e.1) es) (filter (λ e. test e.1) es))) ≡ false) [
        | true ↦ ap (λ b. b || is_among n (passing test es)) (less_eqb n e.0 above.0) ∙ among-above n es above.1
        | false ↦ among-above n es above.1
      ]

  -- a number is among those that pass exactly where its place passes
  pub among-passing : (n : ℕ) (es : List (ℕ × Place)) → AreRising es → is_among n (passing test es) ≡ option_map_or test (lookup (nat_eq n) es) false
  among-passing n [] up = refl
  among-passing n (e ∷ es) up =
      elim (eqb n e.0) as (λ b. eqb n e.0 ≡ b → is_among n (passing test (e ∷ es)) ≡ option_map_or test (cond b (Some e.1) (lookup (nat_eq n) es)) false) [
        | true ↦ λ here.
            let same : e.0 ≡ n = sym (eqb-true n e.0 here) in
            elim (test e.1) as (λ b. is_among n (map (λ e. e.0) (cond b (e ∷ filter (λ e. test e.1) es) (filter (λ e. test e.1) es))) ≡ b) [
              | true ↦ ap (λ b. b || is_among n (passing test es)) (eq-eqb e.0 n same)
              | false ↦ among-above n es (subst (λ m. AreAbove m es) same up.0)
            ]
        | false ↦ λ there.
            elim (test e.1) as (λ b. is_among n (map (λ e. e.0) (cond b (e ∷ filter (λ e. test e.1) es) (filter (λ e. test e.1) es))) ≡ option_map_or test (lookup (nat_eq n) es) false) [
              | true ↦ ap (λ b. b || is_among n (passing test es)) (eqb_sym e.0 n ∙ there) ∙ among-passing n es up.1
              | false ↦ among-passing n es up.1
            ]
      ] refl

  module _ (n : ℕ) (f : Place → Place) where
    passing-changed_above : (es : List (ℕ × Place)) → AreAbove n es → passing test (changed n f es) ≡ passing test es
    passing-changed_above [] above = refl
    passing-changed_above (e ∷ es) above =
        ap (λ b. passing test (cond b (e.0, f e.1) e ∷ changed n f es)) (less_eqb_flip n e.0 above.0)
        ∙ elim (test e.1) as (λ b. map (λ e. e.0) (cond b (e ∷ filter (λ e. test e.1) (changed n f es)) (filter (λ e. test e.1) (changed n f es))) ≡ map (λ e. e.0) (cond b (e ∷ filter (λ e. test e.1) es) (filter (λ e. test e.1) es))) [
          | true ↦ ap (λ r. e.0 ∷ r) (passing-changed_above es above.1)
          | false ↦ passing-changed_above es above.1
        ]

    -- the changed place passes as it did, no longer, or for the first time
    pub passing_same : (es : List (ℕ × Place)) → ((p : Place) → test (f p) ≡ test p) → passing test (changed n f es) ≡ passing test es
    passing_same [] same = refl
    passing_same (e ∷ es) same =
        let first : (b : Bool) → passing test (cond b (e.0, f e.1) e ∷ changed n f es) ≡ map (λ e. e.0) (cond (test e.1) ((e.0, e.1) ∷ filter (λ e. test e.1) (changed n f es)) (filter (λ e. test e.1) (changed n f es))) =
        λ b. elim b as (λ b. passing test (cond b (e.0, f e.1) e ∷ changed n f es) ≡ map (λ e. e.0) (cond (test e.1) ((e.0, e.1) ∷ filter (λ e. test e.1) (changed n f es)) (filter (λ e. test e.1) (changed n f es)))) [
          | true ↦
              ap (λ b. map (λ (e : ℕ × Place). e.0) (cond b ((e.0, f e.1) ∷ filter (λ e. test e.1) (changed n f es)) (filter (λ e. test e.1) (changed n f es)))) (same e.1)
              ∙ elim (test e.1) as (λ b. map (λ (e : ℕ × Place). e.0) (cond b ((e.0, f e.1) ∷ filter (λ e. test e.1) (changed n f es)) (filter (λ e. test e.1) (changed n f es))) ≡ map (λ e. e.0) (cond b ((e.0, e.1) ∷ filter (λ e. test e.1) (changed n f es)) (filter (λ e. test e.1) (changed n f es)))) [ true ↦ refl | false ↦ refl ]
          | false ↦ refl
        ] in
        first (nat_eq n e.0)
        ∙ elim (test e.1) as (λ b. map (λ (e : ℕ × Place). e.0) (cond b ((e.0, e.1) ∷ filter (λ e. test e.1) (changed n f es)) (filter (λ e. test e.1) (changed n f es))) ≡ map (λ e. e.0) (cond b (e ∷ filter (λ e. test e.1) es) (filter (λ e. test e.1) es))) [
          | true ↦ ap (λ r. e.0 ∷ r) (passing_same es same)
          | false ↦ passing_same es same
        ]

    -- the place of the number passes alike before and after
    pub passing_still : (b : Bool) (es : List (ℕ × Place)) (p : Place) → AreRising es → lookup (nat_eq n) es ≡ Some p → test p ≡ b → ((p : Place) → test (f p) ≡ b) → passing test (changed n f es) ≡ passing test es
    passing_still b [] p up is before after = absurd (none-some p is)
    passing_still b (e ∷ es) p up is before after =
        elim (eqb n e.0) as (λ c. eqb n e.0 ≡ c → passing test (cond c (e.0, f e.1) e ∷ changed n f es) ≡ passing test (e ∷ es)) [
          | true ↦ λ here.
              let same : e.0 ≡ n = sym (eqb-true n e.0 here) in
              let first : Some e.1 ≡ Some p = sym (ap (λ b. cond b (Some e.1) (lookup (nat_eq n) es)) here) ∙ is in
              let is_p : e.1 ≡ p = cc in
              ap (λ b. map (λ (e : ℕ × Place). e.0) (cond b ((e.0, f e.1) ∷ filter (λ e. test e.1) (changed n f es)) (filter (λ e. test e.1) (changed n f es)))) (after e.1)
              ∙ elim b as (λ b. map (λ (e : ℕ × Place). e.0) (cond b ((e.0, f e.1) ∷ filter (λ e. test e.1) (changed n f es)) (filter (λ e. test e.1) (changed n f es))) ≡ map (λ (e : ℕ × Place). e.0) (cond b (e ∷ filter (λ e. test e.1) es) (filter (λ e. test e.1) es))) [
                | true ↦ ap (λ r. e.0 ∷ r) (passing-changed_above es (subst (λ m. AreAbove m es) same up.0))
                | false ↦ passing-changed_above es (subst (λ m. AreAbove m es) same up.0)
              ]
              ∙ ap (λ b. map (λ (e : ℕ × Place). e.0) (cond b (e ∷ filter (λ e. test e.1) es) (filter (λ e. test e.1) es))) (sym (ap test is_p ∙ before))
          | false ↦ λ there.
              let behind : lookup (nat_eq n) es ≡ Some p = sym (ap (λ b. cond b (Some e.1) (lookup (nat_eq n) es)) there) ∙ is in
              elim (test e.1) as (λ b. map (λ (e : ℕ × Place). e.0) (cond b (e ∷ filter (λ e. test e.1) (changed n f es)) (filter (λ e. test e.1) (changed n f es))) ≡ map (λ (e : ℕ × Place). e.0) (cond b (e ∷ filter (λ e. test e.1) es) (filter (λ e. test e.1) es))) [
                | true ↦ ap (λ r. e.0 ∷ r) (passing_still b es p up.1 behind before after)
                | false ↦ passing_still b es p up.1 behind before after
              ]
        ] refl

    pub passing_out : (es : List (ℕ × Place)) (p : Place) → AreRising es → lookup (nat_eq n) es ≡ Some p → test p ≡ true → ((p : Place) → test (f p) ≡ false) → passing test (changed n f es) ≡ without_number n (passing test es)
    passing_out [] p up is passes fails = absurd (none-some p is)
    passing_out (e ∷ es) p up is passes fails =
        elim (eqb n e.0) as (λ b. eqb n e.0 ≡ b → passing test (cond b (e.0, f e.1) e ∷ changed n f es) ≡ without_number n (passing test (e ∷ es))) [
          | true ↦ λ here.
              let same : e.0 ≡ n = sym (eqb-true n e.0 here) in
              let first : Some e.1 ≡ Some p = sym (ap (λ b. cond b (Some e.1) (lookup (nat_eq n) es)) here) ∙ is in
              let is_p : e.1 ≡ p = cc in
              let above : AreAbove n es = subst (λ m. AreAbove m es) same up.0 in
              ap (λ b. map (λ (e : ℕ × Place). e.0) (cond b ((e.0, f e.1) ∷ filter (λ e. test e.1) (changed n f es)) (filter (λ e. test e.1) (changed n f es)))) (fails e.1)
              ∙ passing-changed_above es above
              ∙ sym (
              ap (λ b. without_number n (map (λ (e : ℕ × Place). e.0) (cond b (e ∷ filter (λ e. test e.1) es) (filter (λ e. test e.1) es)))) (ap test is_p ∙ passes)
              ∙ ap (λ b. cond (not b) (e.0 ∷ without_number n (passing test es)) (without_number n (passing test es))) (eq-eqb e.0 n same)
              ∙ without_number-above n es above)
          | false ↦ λ there.
              let behind : lookup (nat_eq n) es ≡ Some p = sym (ap (λ b. cond b (Some e.1) (lookup (nat_eq n) es)) there) ∙ is in
              elim (test e.1) as (λ b. map (λ (e : ℕ × Place). e.0) (cond b (e ∷ filter (λ e. test e.1) (changed n f es)) (filter (λ e. test e.1) (changed n f es))) ≡ without_number n (map (λ (e : ℕ × Place). e.0) (cond b (e ∷ filter (λ e. test e.1) es) (filter (λ e. test e.1) es)))) [
                | true ↦
                    ap (λ r. e.0 ∷ r) (passing_out es p up.1 behind passes fails)
                    ∙ sym (ap (λ b. cond (not b) (e.0 ∷ without_number n (passing test es)) (without_number n (passing test es))) (eqb_sym e.0 n ∙ there))
                | false ↦ passing_out es p up.1 behind passes fails
              ]
        ] refl

    pub passing_in : (es : List (ℕ × Place)) (p : Place) → AreRising es → lookup (nat_eq n) es ≡ Some p → test p ≡ false → ((p : Place) → test (f p) ≡ true) → passing test (changed n f es) ≡ with_number n (passing test es)
    passing_in [] p up is fails passes = absurd (none-some p is)
    passing_in (e ∷ es) p up is fails passes =
        elim (eqb n e.0) as (λ b. eqb n e.0 ≡ b → passing test (cond b (e.0, f e.1) e ∷ changed n f es) ≡ with_number n (passing test (e ∷ es))) [
          | true ↦ λ here.
              let same : e.0 ≡ n = sym (eqb-true n e.0 here) in
              let first : Some e.1 ≡ Some p = sym (ap (λ b. cond b (Some e.1) (lookup (nat_eq n) es)) here) ∙ is in
              let is_p : e.1 ≡ p = cc in
              let above : AreAbove n es = subst (λ m. AreAbove m es) same up.0 in
              ap (λ b. map (λ (e : ℕ × Place). e.0) (cond b ((e.0, f e.1) ∷ filter (λ e. test e.1) (changed n f es)) (filter (λ e. test e.1) (changed n f es)))) (passes e.1)
              ∙ ap (λ r. e.0 ∷ r) (passing-changed_above es above)
              ∙ ap (λ m. m ∷ passing test es) same
              ∙ sym (
              ap (λ b. with_number n (map (λ (e : ℕ × Place). e.0) (cond b (e ∷ filter (λ e. test e.1) es) (filter (λ e. test e.1) es)))) (ap test is_p ∙ fails)
              ∙ with_number-above n es above)
          | false ↦ λ there.
              let behind : lookup (nat_eq n) es ≡ Some p = sym (ap (λ b. cond b (Some e.1) (lookup (nat_eq n) es)) there) ∙ is in
              elim (test e.1) as (λ b. map (λ (e : ℕ × Place). e.0) (cond b (e ∷ filter (λ e. test e.1) (changed n f es)) (filter (λ e. test e.1) (changed n f es))) ≡ with_number n (map (λ (e : ℕ × Place). e.0) (cond b (e ∷ filter (λ e. test e.1) es) (filter (λ e. test e.1) es)))) [
                | true ↦
                    ap (λ r. e.0 ∷ r) (passing_in es p up.1 behind fails passes)
                    ∙ sym (ap (λ b. cond b (e.0 ∷ with_number n (passing test es)) (n ∷ e.0 ∷ passing test es)) (lt-ltb e.0 n (found-above e.0 n p es up.0 behind)))
                | false ↦ passing_in es p up.1 behind fails passes
              ]
        ] refl

  -- one more number at the end
  pub passing-push : (es : List (ℕ × Place)) (n : ℕ) (p : Place) → passing test (es ++ (n, p) ∷ []) ≡ passing test es ++ cond (test p) (n ∷ []) []
  passing-push es n p =
      ap (map (λ (e : ℕ × Place). e.0)) (filter-append (λ e. test e.1) es ((n, p) ∷ []))
      ∙ map-append (λ (e : ℕ × Place). e.0) (filter (λ e. test e.1) es) (cond (test p) ((n, p) ∷ []) [])
      ∙ ap (λ r. passing test es ++ r) (elim (test p) as (λ b. map (λ (e : ℕ × Place). e.0) (cond b ((n, p) ∷ []) []) ≡ cond b (n ∷ []) []) [ true ↦ refl | false ↦ refl ])

  pub passing-append : (es fs : List (ℕ × Place)) → passing test (es ++ fs) ≡ passing test es ++ passing test fs
  passing-append es fs =
      ap (map (λ (e : ℕ × Place). e.0)) (filter-append (λ e. test e.1) es fs)
      ∙ map-append (λ (e : ℕ × Place). e.0) (filter (λ e. test e.1) es) (filter (λ e. test e.1) fs)

-- what a test finds
pub found_so : (test : Place → Bool) (o : Option Place) → option_map_or test o false ≡ true → (p : Place) × (o ≡ Some p) × (test p ≡ true)
found_so test None h = absurd (false≢true h)
found_so test (Some p) h = (p, refl, h)

AreAbove-filter : (n : ℕ) (p : ℕ × Place → Bool) (es : List (ℕ × Place)) → AreAbove n es → AreAbove n (filter p es)
AreAbove-filter n p [] above = tt
AreAbove-filter n p (e ∷ es) above =
    elim (p e) as (λ b. AreAbove n (cond b (e ∷ filter p es) (filter p es))) [
      | true ↦ (above.0, AreAbove-filter n p es above.1)
      | false ↦ AreAbove-filter n p es above.1
    ]

AreRising-filter : (p : ℕ × Place → Bool) (es : List (ℕ × Place)) → AreRising es → AreRising (filter p es)
AreRising-filter p [] up = tt
AreRising-filter p (e ∷ es) up =
    elim (p e) as (λ b. AreRising (cond b (e ∷ filter p es) (filter p es))) [
      | true ↦ (AreAbove-filter e.0 p es up.0, AreRising-filter p es up.1)
      | false ↦ AreRising-filter p es up.1
    ]

filter-filter : {X : Type 0} (p q r : X → Bool) → ((x : X) → r x ≡ (q x && p x)) → (xs : List X) → filter p (filter q xs) ≡ filter r xs
filter-filter p q r both [] = refl
filter-filter p q r both (x ∷ xs) =
    elim (q x) as (λ b. filter p (cond b (x ∷ filter q xs) (filter q xs)) ≡ cond (b && p x) (x ∷ filter r xs) (filter r xs)) [
      | true ↦ elim (p x) as (λ b. cond b (x ∷ filter p (filter q xs)) (filter p (filter q xs)) ≡ cond b (x ∷ filter r xs) (filter r xs)) [
        | true ↦ ap (λ ys. x ∷ ys) (filter-filter p q r both xs)
        | false ↦ filter-filter p q r both xs
      ]
      | false ↦ filter-filter p q r both xs
    ]
    ∙ ap (λ b. cond b (x ∷ filter r xs) (filter r xs)) (sym (both x))

pub without-none : (es : List (ℕ × Place)) → es ≡ without [] es
without-none [] = refl
without-none (e ∷ es) = ap (λ r. e ∷ r) (without-none es)

not-or : (a b c : Bool) → b ≡ c → not (a || (b || false)) ≡ (not a && not c)
not-or true b c h = refl
not-or false true c h = ap not h
not-or false false c h = ap not h

-- one more number is taken out
pub removed : (n : ℕ) (ns : List ℕ) (es : List (ℕ × Place)) → AreRising es → remove_entry (nat_eq n) (without ns es) ≡ without (ns ++ n ∷ []) es
removed n ns es up =
    remove_entry-rising n (without ns es) (AreRising-filter (λ e. not (list_any (λ m. eqb m e.0) ns)) es up)
    ∙ filter-filter (λ e. not (eqb e.0 n)) (λ e. not (list_any (λ m. eqb m e.0) ns)) (λ e. not (list_any (λ m. eqb m e.0) (ns ++ n ∷ [])))
    (λ e. ap not (list_any-append (λ m. eqb m e.0) ns (n ∷ [])) ∙ not-or (list_any (λ m. eqb m e.0) ns) (eqb n e.0) (eqb e.0 n) (eqb_sym n e.0)) es

pub AreKept-insert_entry : (n : ℕ) (p : Place) (es : List (ℕ × Place)) → p ≡ record { stand = Kept; leases = 0 } → AreKept es → AreKept (insert_entry nat_cmp es n p)
AreKept-insert_entry n p [] is kept = (is, tt)
AreKept-insert_entry n p (e ∷ es) is kept =
    elim (nat_cmp n e.0) as (λ o. AreKept (match_ordering o ((n, p) ∷ e ∷ es) ((e.0, p) ∷ es) (e ∷ insert_entry nat_cmp es n p))) [
      | Less ↦ (is, kept)
      | Equal ↦ (is, kept.1)
      | Greater ↦ (kept.0, AreKept-insert_entry n p es is kept.1)
    ]
