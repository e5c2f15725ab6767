-- A number that was given out counts as standing in one more place: it was condemned, and is so no longer.
use native.Mathlib.Omega.{arith}
use Rattle.std.proofs.Common.{◌≡◌, ◌≤◌, ◌<◌, ◌+◌, ℕ, Bool, true, false, not, List, [], ◌∷◌, refl, ◌∙◌, ap, subst}
use Rattle.std.specs.Prelude.{◌==◌, nat_lt, filter}
use Rattle.std.specs.List.{AllByRecursion, list_any}
use Rattle.std.proofs.lemmas.Bool.{ltb-true, ltb-false}
use Rattle.std.proofs.lemmas.List.Sums.{sum_by-append, sum_by-take-le}
use Rattle.repo_model.specs.Data.{Hosted}
use Rattle.repo_model.specs.Settings.{Settings}
use Rattle.repo_model.specs.State.{State, Yard, Lease, is_among}
use Rattle.repo_model.specs.Effect.{Effect, forgets, with_effect, with_effects}
use Rattle.repo_model.specs.Purge.{expire_all}
use Rattle.repo_model.specs.Turn.{most_collected, unlent}
use Rattle.repo_model.specs.History.{Entry, Fits, after, Legal, end}
use Rattle.repo_laws.specs.Laws.{places_of, count_of}
use Rattle.repo_laws.specs.Sound.{AreNamedApart, Sound, OnePlace}
use Rattle.repo_laws.specs.Closed.{given_out, all_given_out}
use Rattle.repo_laws.proofs.ByPath.{all-apart}
use Rattle.repo_laws.proofs.Counts.{one_if, count-filter, among-counts, none-counts}
use Rattle.repo_laws.proofs.Places.{is_draw, one-place-kept, places-counted, next-counted, never-again}
use Rattle.repo_laws.proofs.Making.{expired-all}
use Rattle.repo_laws.proofs.Histories.{entry-keeps, sound-entry, one-place-entry}
use Rattle.repo_laws.proofs.Untouched.{count-forgotten, only-collect, collects, cleared, cleared-keeps}

count-unlent : (n : ℕ) (yard : Yard) → count_of n (unlent yard) ≤ count_of n yard.condemned
count-unlent n yard =
    let unleased : ℕ → Bool = λ m. not (list_any (λ (l : Lease). l.blob == m) yard.leases) in
    omega (arith, sum_by-take-le (λ (m : ℕ). one_if (m == n)) (filter unleased yard.condemned) most_collected, count-filter (λ m. m == n) unleased yard.condemned)

-- what is given out was condemned
forgets-counted : (t : State) (n : ℕ) → places_of (with_effect t (forgets (unlent t.yard))) n + count_of n (unlent t.yard) ≤ places_of t n
forgets-counted t n =
    elim (is_among n (unlent t.yard)) as (λ b. is_among n (unlent t.yard) ≡ b → places_of (with_effect t (forgets (unlent t.yard))) n + count_of n (unlent t.yard) ≤ places_of t n) [
      | true ↦ λ among. omega (arith, count-forgotten n (unlent t.yard) t.yard.condemned among, count-unlent n t.yard)
      | false ↦ λ none. omega (arith, none-counts (λ (m : ℕ). m == n) (unlent t.yard) none, count-filter (λ m. m == n) (λ m. not (is_among m (unlent t.yard))) t.yard.condemned)
    ] refl

-- the next number is the same where none is drawn
next-same : (es : List Effect) (s : State) → AllByRecursion (λ e. is_draw e ≡ false) es → (with_effects s es).yard.next_draft ≡ s.yard.next_draft
next-same [] s none = refl
next-same (e ∷ es) s none =
    let zero_here : one_if (is_draw e) ≡ 0 = ap one_if none.0 in
    omega (arith, next-counted s e, zero_here, next-same es (with_effect s e) none.1)

expire-draws-none : (grace now : ℕ) (hosted : List Hosted) → AllByRecursion (λ e. is_draw e ≡ false) (expire_all grace now hosted)
expire-draws-none = expired-all (λ e. is_draw e ≡ false) (λ repo path blob. refl)

module _ (settings : Settings) (apart : AreNamedApart settings.hosted) where
  -- a number that was drawn stands in no more places than it did
  fewer-places : (s : State) (e : Entry) (n : ℕ) → Fits settings s e → Sound settings s → n < s.yard.next_draft
      → (n < (after settings s e).yard.next_draft) × (places_of (after settings s e) n ≤ places_of s n)
  fewer-places s e n fits sound drawn =
      entry-keeps settings apart s e (λ t. (n < t.yard.next_draft) × (places_of t n ≤ places_of s n)) fits sound
      (λ t f _ may old. (omega (arith, old.0, next-counted t f), omega (arith, places-counted settings.grace e.moment t n f may, never-again t f n old.0, old.1))) (drawn, omega arith)

  given-counted : (s : State) (e : Entry) (n : ℕ) → Fits settings s e → Sound settings s → OnePlace s → n < s.yard.next_draft
      → places_of (after settings s e) n + count_of n (given_out e.command e.reply) ≤ places_of s n
  given-counted s e n fits sound placed drawn =
      elim (is_among n (given_out e.command e.reply))
      as (λ b. is_among n (given_out e.command e.reply) ≡ b → places_of (after settings s e) n + count_of n (given_out e.command e.reply) ≤ places_of s n) [
        | false ↦ λ none. omega (arith, none-counts (λ (m : ℕ). m == n) (given_out e.command e.reply) none, (fewer-places s e n fits sound drawn).1)
        | true ↦ λ among.
            let is_collect = only-collect n e.command e.reply among in
            let t : State = cleared settings apart s e in
            let (given, is, blobs_are) = collects settings apart s e n fits.reply is_collect (subst (λ c. is_among n (given_out c e.reply) ≡ true) is_collect among) in
            let same : places_of (after settings s e) n ≡ places_of (with_effect t (forgets (unlent t.yard))) n = ap (λ u. places_of u n) is in
            let blobs_so : count_of n (given_out e.command e.reply) ≡ count_of n (unlent t.yard) = ap (λ c. count_of n (given_out c e.reply)) is_collect ∙ ap (count_of n) blobs_are in
            let before = cleared-keeps settings apart s e (λ u. (n < u.yard.next_draft) × (places_of u n ≤ places_of s n)) sound
            (λ u f _ may old. (omega (arith, old.0, next-counted u f), omega (arith, places-counted settings.grace e.moment u n f may, never-again u f n old.0, old.1))) (drawn, omega arith) in
            omega (arith, same, blobs_so, forgets-counted t n, before.1)
      ] refl

  -- so through a history
  given-through : (entries : List Entry) (s : State) (n : ℕ) → Sound settings s → OnePlace s → Legal settings s entries → n < s.yard.next_draft
      → places_of (end settings s entries) n + count_of n (all_given_out entries) ≤ places_of s n
  given-through [] s n sound placed legal drawn = omega arith
  given-through (e ∷ entries) s n sound placed legal drawn =
      let rest = given-through entries (after settings s e) n (sound-entry settings apart s e legal.0 sound) (one-place-entry settings apart s e legal.0 sound placed) legal.1
      (fewer-places s e n legal.0 sound drawn).0 in
      omega (arith, sum_by-append (λ (m : ℕ). one_if (m == n)) (given_out e.command e.reply) (all_given_out entries), rest, given-counted s e n legal.0 sound placed drawn)

  -- a number that is not drawn yet is not given out
  not-yet : (s : State) (e : Entry) (n : ℕ) → Fits settings s e → Sound settings s → OnePlace s → s.yard.next_draft ≤ n → count_of n (given_out e.command e.reply) ≡ 0
  not-yet s e n fits sound placed later =
      elim (is_among n (given_out e.command e.reply)) as (λ b. is_among n (given_out e.command e.reply) ≡ b → count_of n (given_out e.command e.reply) ≡ 0) [
        | false ↦ λ none. none-counts (λ (m : ℕ). m == n) (given_out e.command e.reply) none
        | true ↦ λ among.
            let is_collect = only-collect n e.command e.reply among in
            let t : State = cleared settings apart s e in
            let (given, _, _) = collects settings apart s e n fits.reply is_collect (subst (λ c. is_among n (given_out c e.reply) ≡ true) is_collect among) in
            let placed_so : OnePlace t = cleared-keeps settings apart s e OnePlace sound (λ u f sound_then may old. one-place-kept settings.grace e.moment u f (all-apart u.hosted sound_then.rows) may old) placed in
            let next_same : t.yard.next_draft ≡ s.yard.next_draft = next-same (expire_all settings.grace e.moment s.hosted) s (expire-draws-none settings.grace e.moment s.hosted) in
            absurd (omega (arith, among-counts n (unlent t.yard) given, count-unlent n t.yard, placed_so.later n (omega (arith, next_same, later))))
      ] refl

  -- at the end of a history each drawn number stands in one place at most, or was given out once
  pub one-place-or-given : (entries : List Entry) (s : State) (n : ℕ) → Sound settings s → OnePlace s → Legal settings s entries → n < (end settings s entries).yard.next_draft
      → places_of (end settings s entries) n + count_of n (all_given_out entries) ≤ 1
  one-place-or-given [] s n sound placed legal drawn = omega (arith, placed.drawn n drawn)
  one-place-or-given (e ∷ entries) s n sound placed legal drawn =
      elim (nat_lt n s.yard.next_draft)
      as (λ b. nat_lt n s.yard.next_draft ≡ b → places_of (end settings s (e ∷ entries)) n + count_of n (all_given_out (e ∷ entries)) ≤ 1) [
        | true ↦ λ is.
            let before : n < s.yard.next_draft = ltb-true n s.yard.next_draft is in
            omega (arith, given-through (e ∷ entries) s n sound placed legal before, placed.drawn n before)
        | false ↦ λ is.
            let rest = one-place-or-given entries (after settings s e) n (sound-entry settings apart s e legal.0 sound) (one-place-entry settings apart s e legal.0 sound placed) legal.1 drawn in
            omega (arith, sum_by-append (λ (m : ℕ). one_if (m == n)) (given_out e.command e.reply) (all_given_out entries), rest, not-yet s e n legal.0 sound placed (ltb-false n s.yard.next_draft is))
      ] refl
