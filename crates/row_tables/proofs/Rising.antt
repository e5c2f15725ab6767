-- Sessions in rising order of number.
use Rattle.std.proofs.Common.{◌≡◌, ℕ, zero, suc, ◌-◌, ◌<◌, Bool, true, false, cond, ◌&&◌, List, [], ◌∷◌, find, length, get_or, set, Some, refl, sym, ◌∙◌, ap, subst, arith}
use Rattle.std.specs.Prelude.{slice_get, nat_lt, ◌==◌}
use Rattle.std.specs.List.{list_all}
use Rattle.std.proofs.lemmas.Bool.Decides.{nat_tests}
use Rattle.std.proofs.lemmas.Option.{none-some}
use Rattle.repo_model.specs.State.{change_where}
use Rattle.repo_model.specs.Tables.{RecordedSession, is_session}
use Rattle.repo_model.specs.declared.session.SessionResult.{SessionResult}
use Rattle.row_tables.specs.Applying.{AreRising}
use Rattle.row_tables.specs.Stored.{shown_session, shown_sessions}
use Rattle.row_tables.specs.declared.sessions.SessionRow.{SessionRow}

abbrev above : ℕ → RecordedSession → Bool
above k s = nat_lt k s.number

both : (x y : Bool) → x && y ≡ true → (x ≡ true) × (y ≡ true)
both true true is = (refl, refl)
both true false is = absurd cc
both false y is = absurd cc

-- the last of a list is the last of its rest
behind : (s : SessionRow) (ss : List SessionRow) (last : SessionRow) → 0 < length ss → slice_get (s ∷ ss) (length (s ∷ ss) - 1) ≡ Some last → slice_get ss (length ss - 1) ≡ Some last
behind s ss last some is =
    let place : suc (length ss - 1) ≡ length (s ∷ ss) - 1 = omega arith in
    ap (slice_get (s ∷ ss)) place ∙ is

-- what is above all is above the last
above_last : (k : ℕ) (ss : List SessionRow) (last : SessionRow) → list_all (above k) (shown_sessions ss) ≡ true → slice_get ss (length ss - 1) ≡ Some last → nat_lt k last.number ≡ true
above_last k [] last all is = absurd (none-some last is)
above_last k (s ∷ []) last all is =
    let same : s ≡ last = cc in
    subst (λ (t : SessionRow). nat_lt k t.number ≡ true) same (both (nat_lt k s.number) true all).0
above_last k (s ∷ t ∷ ss) last all is =
    above_last k (t ∷ ss) last (both (nat_lt k s.number) (list_all (above k) (shown_sessions (t ∷ ss))) all).1 (behind s (t ∷ ss) last (omega arith) is)

-- the greatest number is the last one's
pub below_all : (n : ℕ) (ss : List SessionRow) (last : SessionRow) → AreRising (shown_sessions ss) → slice_get ss (length ss - 1) ≡ Some last
    → nat_lt last.number n ≡ list_all (λ (s : RecordedSession). nat_lt s.number n) (shown_sessions ss)
below_all n [] last rising is = absurd (none-some last is)
below_all n (s ∷ []) last rising is =
    let same : s ≡ last = cc in
    subst (λ (t : SessionRow). nat_lt t.number n ≡ (nat_lt s.number n && true)) same (one (nat_lt s.number n))
  where
    one : (b : Bool) → b ≡ b && true
    one true = refl
    one false = refl
below_all n (s ∷ t ∷ ss) last rising is =
    let next = behind s (t ∷ ss) last (omega arith) is in
    let rest = below_all n (t ∷ ss) last rising.1 next in
    let up : nat_lt s.number last.number ≡ true = above_last s.number (t ∷ ss) last rising.0 next in
    elim (nat_lt last.number n)
    as (λ b. nat_lt last.number n ≡ b → b ≡ nat_lt s.number n && list_all (λ (s : RecordedSession). nat_lt s.number n) (shown_sessions (t ∷ ss))) [
      | true ↦ λ low.
          let first : nat_lt s.number n ≡ true = grind (arith, nat_tests) in
          let others : true ≡ list_all (λ (s : RecordedSession). nat_lt s.number n) (shown_sessions (t ∷ ss)) = sym low ∙ rest in
          λ i. (sym first) i && others i
      | false ↦ λ high.
          let others : false ≡ list_all (λ (s : RecordedSession). nat_lt s.number n) (shown_sessions (t ∷ ss)) = sym high ∙ rest in
          none (nat_lt s.number n) ∙ ap (λ b. nat_lt s.number n && b) others
    ] refl
  where
    none : (b : Bool) → false ≡ b && false
    none true = refl
    none false = refl

number_above : (k : ℕ) (ts : List SessionRow) (j : ℕ) (e : SessionRow) → list_all (above k) (shown_sessions ts) ≡ true → j < length ts → nat_lt k (get_or ts j e).number ≡ true
number_above k [] j e all low = absurd (omega arith)
number_above k (t ∷ ts) zero e all low = (both (nat_lt k t.number) _ all).0
number_above k (t ∷ ts) (suc j) e all low = number_above k ts j e (both (nat_lt k t.number) _ all).1 (omega (arith, low))

-- the session at a place is the first with its number
pub first_found : (n : ℕ) (ss : List SessionRow) (i : ℕ) (d : SessionRow) → AreRising (shown_sessions ss) → i < length ss → (get_or ss i d).number ≡ n
    → find (is_session n) (shown_sessions ss) ≡ slice_get (shown_sessions ss) i
first_found n [] i d rising within is = absurd (omega arith)
first_found n (s ∷ ss) zero d rising within is =
    let here : (s.number == n) ≡ true = grind (arith, nat_tests) in
    rw here refl
first_found n (s ∷ ss) (suc i) d rising within is =
    let up : nat_lt s.number n ≡ true = subst (λ k. nat_lt s.number k ≡ true) is (number_above s.number ss i d rising.0 (omega (arith, within))) in
    let other : (s.number == n) ≡ false = grind (arith, nat_tests) in
    rw other (first_found n ss i d rising.1 (omega (arith, within)) is)

-- where all have greater numbers, none is changed
none_changed : (n : ℕ) (f : RecordedSession → RecordedSession) (ss : List SessionRow) → list_all (above n) (shown_sessions ss) ≡ true → change_where (is_session n) f (shown_sessions ss) ≡ shown_sessions ss
none_changed n f [] all = refl
none_changed n f (s ∷ ss) all =
    let parts = both (nat_lt n s.number) (list_all (above n) (shown_sessions ss)) all in
    let greater : nat_lt n s.number ≡ true = parts.0 in
    let other : (s.number == n) ≡ false = grind (arith, nat_tests) in
    λ i. cond (other i) (f (shown_session s)) (shown_session s) ∷ none_changed n f ss parts.1 i

-- the session at a place is the one that is changed
pub set_ended : (n : ℕ) (how : SessionResult) (ss : List SessionRow) (i : ℕ) (d : SessionRow) → AreRising (shown_sessions ss) → i < length ss → (get_or ss i d).number ≡ n
    → shown_sessions (set ss i (record { number = n; result = Some how })) ≡ change_where (is_session n) (λ s. record s { result = Some how }) (shown_sessions ss)
set_ended n how [] i d rising within is = absurd (omega arith)
set_ended n how (s ∷ ss) zero d rising within is =
    let here : (s.number == n) ≡ true = grind (arith, nat_tests) in
    let rest = none_changed n (λ s. record s { result = Some how }) ss (subst (λ k. list_all (above k) (shown_sessions ss) ≡ true) is rising.0) in
    ap (λ k. record { number = k; result = Some how } ∷ shown_sessions ss) (sym is)
    ∙ ap (λ ts. record { number = s.number; result = Some how } ∷ ts) (sym rest)
    ∙ ap (λ b. cond b (record (shown_session s) { result = Some how }) (shown_session s) ∷ change_where (is_session n) (λ s. record s { result = Some how }) (shown_sessions ss)) (sym here)
set_ended n how (s ∷ ss) (suc i) d rising within is =
    let up : nat_lt s.number n ≡ true = subst (λ k. nat_lt s.number k ≡ true) is (number_above s.number ss i d rising.0 (omega (arith, within))) in
    let other : (s.number == n) ≡ false = grind (arith, nat_tests) in
    ap (λ ts. shown_session s ∷ ts) (set_ended n how ss i d rising.1 (omega (arith, within)) is)
    ∙ ap (λ b. cond b (record (shown_session s) { result = Some how }) (shown_session s) ∷ change_where (is_session n) (λ s. record s { result = Some how }) (shown_sessions ss)) (sym other)
