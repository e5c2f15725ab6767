-- How many numbers are garbage, as places come, change and go.
use Rattle.std.proofs.Common.{◌≡◌, ℕ, ◌+◌, ◌-◌, ◌≤◌, Bool, true, false, cond, ◌&&◌, List, [], ◌∷◌, ◌++◌, map, filter, length, Some, eqb, refl, sym, ap, ◌∙◌, arith}
use Rattle.std.proofs.lemmas.Bool.{ne_eqb}
use Rattle.std.proofs.lemmas.List.{append-nil}
use Rattle.std.proofs.lemmas.Option.{none-some}
use Rattle.std.specs.Map.{lookup, remove_entry, set_value}
use Rattle.blob_yard.specs.declared.places.Place.{Place}
use Rattle.blob_yard.specs.declared.places.Stand.TheVariants.{Draft}
use Rattle.blob_yard.specs.Places.{AreKept, garbage_of, is_condemned, is_garbage}
use Rattle.blob_yard.proofs.PlaceLemmas.{passing-push}

abbrev pub count : List (ℕ × Place) → ℕ
count es = length (garbage_of es)

abbrev one_if : Bool → ℕ
one_if b = cond b 1 0

abbrev pub weight : Place → ℕ
weight p = one_if (is_garbage p)

first : (e : ℕ × Place) (es : List (ℕ × Place)) → count (e ∷ es) ≡ weight e.1 + count es
first e es =
    elim (is_garbage e.1)
    as (λ b. length (map (λ (e : ℕ × Place). e.0) (cond b (e ∷ filter (λ e. is_garbage e.1) es) (filter (λ e. is_garbage e.1) es))) ≡ one_if b + count es) [
      | true ↦ omega arith
      | false ↦ omega arith
    ]

pub light : (p : Place) → weight p ≤ 1
light p = elim (is_garbage p) as (λ b. one_if b ≤ 1) [ true ↦ omega arith | false ↦ omega arith ]

pub few : (es : List (ℕ × Place)) → count es ≤ length es
few [] = omega arith
few (e ∷ es) = omega (arith, first e es, light e.1, few es)

-- numbers in use are no garbage
pub none_kept : (es : List (ℕ × Place)) → AreKept es → 0 ≡ count es
none_kept [] kept = refl
none_kept (e ∷ es) kept = omega (arith, first e es, ap weight kept.0, none_kept es kept.1)

-- nor is a draft
pub drawn : (n : ℕ) (es : List (ℕ × Place)) → count es ≡ count (es ++ (n, record { stand = Draft; leases = 0 }) ∷ [])
drawn n es = sym (ap length (passing-push is_garbage es n (record { stand = Draft; leases = 0 }) ∙ append-nil (garbage_of es)))

-- what is lent is none
pub lent : (p : Place) → weight (record p { leases = p.leases + 1 }) ≡ 0
lent p =
    elim (is_condemned p.stand) as (λ b. one_if (b && eqb (p.leases + 1) 0) ≡ 0) [
      | true ↦ ap one_if (ne_eqb (p.leases + 1) 0 (λ e. absurd (omega (arith, e))))
      | false ↦ refl
    ]

same_weight : (p q : Place) → Some p ≡ Some q → weight p ≡ weight q
same_weight p q e = cc

module _ (at : ℕ → Bool) where
  -- the place of a number is written over
  written : (es : List (ℕ × Place)) (old new : Place) → lookup at es ≡ Some old → count (set_value at es new) + weight old ≡ count es + weight new
  written [] old new is = absurd (none-some old is)
  written (e ∷ es) old new is =
      elim (at e.0)
      as (λ b. cond b (Some e.1) (lookup at es) ≡ Some old → count (cond b ((e.0, new) ∷ es) (e ∷ set_value at es new)) + weight old ≡ count (e ∷ es) + weight new) [
        | true ↦ λ here. omega (arith, first (e.0, new) es, first e es, same_weight e.1 old here)
        | false ↦ λ there. omega (arith, first e (set_value at es new), first e es, written es old new there)
      ] is

  -- the place of a number is taken out
  taken : (es : List (ℕ × Place)) (old : Place) → lookup at es ≡ Some old → count (remove_entry at es) + weight old ≡ count es
  taken [] old is = absurd (none-some old is)
  taken (e ∷ es) old is =
      elim (at e.0) as (λ b. cond b (Some e.1) (lookup at es) ≡ Some old → count (cond b es (e ∷ remove_entry at es)) + weight old ≡ count (e ∷ es)) [
        | true ↦ λ here. omega (arith, first e es, same_weight e.1 old here)
        | false ↦ λ there. omega (arith, first e (remove_entry at es), first e es, taken es old there)
      ] is

  -- the count once a place is written over or taken out
  module _ (es after : List (ℕ × Place)) (garbage less : ℕ) (old : Place) (counted : garbage ≡ count es) (is : less ≡ weight old) (found : lookup at es ≡ Some old) where
    pub at_least : less ≤ garbage
    at_least = omega (arith, counted, is, taken es old found)

    pub rewritten : (more : ℕ) (new : Place) → more ≡ weight new → after ≡ set_value at es new → garbage - less + more ≡ count after
    rewritten more new weighs made = omega (arith, counted, is, weighs, taken es old found, written es old new found, ap count made)

    pub removed_one : after ≡ remove_entry at es → garbage - less ≡ count after
    removed_one made = omega (arith, counted, is, taken es old found, ap count made)
