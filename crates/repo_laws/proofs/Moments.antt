-- The moments of a legal history never fall, nor pass the latest moment.
use native.Mathlib.Omega.{arith}
use Rattle.std.proofs.Common.{◌≡◌, ℕ, zero, suc, ◌≤◌, min, max, List, [], ◌∷◌, map, Option, Some, None, refl, sym, subst}
use Rattle.std.specs.Prelude.{All, MatchOption}
use Rattle.std.specs.List.Sorted.{IsNonDecreasing}
use Rattle.std.proofs.lemmas.List.Elements.{All-nil, All-cons, All-weaker}
use Rattle.std.proofs.lemmas.List.Sorted.{IsNonDecreasingBy-short}
use Rattle.outside.specs.Moments.{Moments}
use Rattle.repo_model.specs.Settings.{Settings}
use Rattle.repo_model.specs.State.{State}
use Rattle.repo_model.specs.Effect.{Effect, with_effect, with_effects}
use Rattle.repo_model.specs.History.{Entry, Fits, latest_moment, ticked, effects_of, after, Legal}
use Rattle.repo_laws.specs.Replies.{moments_of}

-- effects set no moment
pub last_of : (es : List Effect) (s : State) → (with_effects s es).last ≡ s.last
last_of [] s = refl
last_of (e ∷ es) s = last_of es (with_effect s e)

pub last-after : (settings : Settings) (old : State) (e : Entry) → (after settings old e).last ≡ e.moment
last-after settings old e = last_of (effects_of settings old e) (ticked old e.moment e.faults)

-- a moment that fits is no earlier than the last one, and no later than both it and the latest
bounded : (last moment : ℕ) (clock : Option Moments) →
    MatchOption clock ((last ≤ moment) × (moment ≤ latest_moment)) (λ left. moment ≡ max last (min latest_moment left.next)) →
    (last ≤ moment) × (moment ≤ max last latest_moment)
bounded last moment None fits = (fits.0, omega (arith, fits.1))
bounded last moment (Some left) fits = (omega (arith, fits), omega (arith, fits))

pub last-capped : (settings : Settings) (old : State) (e : Entry) → old.last ≤ latest_moment → Fits settings old e → (after settings old e).last ≤ latest_moment
last-capped settings old e cap fits =
    let is = last-after settings old e in
    omega (arith, is, cap, (bounded old.last e.moment old.clock fits.moment).1)

rising-cons : (n : ℕ) (ns : List ℕ) → All (λ m. n ≤ m) ns → IsNonDecreasing ns → IsNonDecreasing (n ∷ ns)
rising-cons n ns above rising zero zero d le lt = omega arith
rising-cons n ns above rising zero (suc j) d le lt = above j d (omega arith)
rising-cons n ns above rising (suc i) zero d le lt = absurd (omega arith)
rising-cons n ns above rising (suc i) (suc j) d le lt = rising i j d (omega arith) (omega arith)

first_least : (n : ℕ) (ns : List ℕ) → IsNonDecreasing (n ∷ ns) → All (λ m. n ≤ m) ns
first_least n ns rising k d lt = rising 0 (suc k) d (omega arith) (omega arith)

rises : (first second : ℕ) (rest : List ℕ) → first ≤ second → IsNonDecreasing (second ∷ rest) → IsNonDecreasing (first ∷ second ∷ rest)
rises first second rest up rising =
    let above : All (λ m. second ≤ m) rest = first_least second rest rising in
    rising-cons first (second ∷ rest)
    (All-cons (λ m. first ≤ m) second rest up (All-weaker (λ m. second ≤ m) (λ m. first ≤ m) (λ m le. omega (arith, up)) rest above)) rising

pub moments-rising : (settings : Settings) (start : State) (entries : List Entry) → Legal settings start entries → IsNonDecreasing (moments_of start entries)
moments-rising settings start [] legal = IsNonDecreasingBy-short (λ (m : ℕ). m) (start.last ∷ []) (omega arith)
moments-rising settings start (e ∷ entries) legal =
    let rest : IsNonDecreasing (e.moment ∷ map (λ x. x.moment) entries) =
    subst (λ (m : ℕ). IsNonDecreasing (m ∷ map (λ (x : Entry). x.moment) entries)) (last-after settings start e)
    (moments-rising settings (after settings start e) entries legal.1) in
    rises start.last e.moment (map (λ x. x.moment) entries) (bounded start.last e.moment start.clock legal.0.moment).0 rest

pub moments-capped : (settings : Settings) (start : State) (entries : List Entry) → Legal settings start entries → start.last ≤ latest_moment →
    All (λ moment. moment ≤ latest_moment) (moments_of start entries)
moments-capped settings start [] legal cap = All-cons (λ moment. moment ≤ latest_moment) start.last [] cap (All-nil (λ moment. moment ≤ latest_moment))
moments-capped settings start (e ∷ entries) legal cap =
    let P : ℕ → Type 0 = λ moment. moment ≤ latest_moment in
    let later = map (λ (x : Entry). x.moment) entries in
    let here : P e.moment = omega (arith, (bounded start.last e.moment start.clock legal.0.moment).1) in
    let is = last-after settings start e in
    let rest = moments-capped settings (after settings start e) entries legal.1 (subst P (sym is) here) in
    All-cons P start.last (e.moment ∷ later) cap (subst (λ (m : ℕ). All P (m ∷ later)) is rest)
