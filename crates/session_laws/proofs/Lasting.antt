-- The result of a session that has ended, through effects, entries, histories and a start.
use Rattle.std.proofs.Common.{◌≡◌, ℕ, Bool, true, false, cond, ◌&&◌, List, [], ◌∷◌, ◌++◌, Option, Some, None, refl, sym, ◌∙◌, ap}
use Rattle.std.specs.Prelude.{◌==◌, find, is_none}
use Rattle.std.specs.Option.{option_and_then, option_or}
use Rattle.std.proofs.lemmas.Option.{none-some}
use Rattle.std.proofs.lemmas.List.Folds.{find-append}
use Rattle.outside.specs.Moments.{Moments}
use Rattle.repo_model.specs.declared.session.SessionResult.{SessionResult}
use Rattle.repo_model.specs.Data.{Session}
use Rattle.repo_model.specs.Settings.{Settings}
use Rattle.repo_model.specs.State.{State, change_first, is_session, is_open, is_open_at}
use Rattle.repo_model.specs.Effect.{Effect, stages, delivers, discards, opens, ends, new_session, with_staged, without_staged, sessions_after, with_effect, with_effects}
use Rattle.repo_model.specs.Tables.{Tables, RecordedSession, is_session as is_recorded_session}
use Rattle.repo_model.specs.Restart.{started}
use Rattle.repo_model.specs.History.{Entry, ticked, effects_of, after, Legal, end}
use Rattle.repo_laws.specs.Sound.{AreNamedApart, IsSound}
use Rattle.repo_laws.specs.Holds.{InOrder, Holds, StandsFor, with_items, told, result_in, result_of}
use Rattle.repo_laws.specs.InRange.{InRange, Completes}
use Rattle.repo_laws.proofs.Completing.{completed-order, completed-range}
use Rattle.repo_laws.proofs.Holding.{history-recorded}
use Rattle.repo_laws.proofs.Ranges.{range-history}
use Rattle.repo_laws.proofs.Starting.{started-stands}

-- what is found and not changed is found still
found-stays : {X : Type 0} (p q : X → Bool) (f : X → X) → ((x : X) → p (f x) ≡ p x) → (xs : List X) (one : X) → q one ≡ false → find p xs ≡ Some one → find p (change_first q f xs) ≡ Some one
found-stays p q f keeps [] one other is = absurd (none-some one is)
found-stays p q f keeps (x ∷ xs) one other is =
    elim (p x) as (λ b. p x ≡ b → cond b (Some x) (find p xs) ≡ Some one → find p (change_first q f (x ∷ xs)) ≡ Some one) [
      | true ↦ λ here found.
          let x_is : x ≡ one = cc in
          let same : q x ≡ false = ap q x_is ∙ other in
          rw (same, here) found
      | false ↦ λ there found.
          let rest = found-stays p q f keeps xs one other found in
          elim (q x) as (λ b. find p (cond b (f x ∷ xs) (x ∷ change_first q f xs)) ≡ Some one) [
            | true ↦ rw (keeps x, there) found
            | false ↦ rw there rest
          ]
    ] refl is

-- the session of a number is there and has ended so
abbrev pub Over : ℕ → SessionResult → List Session → Type 0
Over n r sessions = (one : Session) × (find (is_session n) sessions ≡ Some one) × (one.ended ≡ Some r)

pub is-over : (n : ℕ) (r : SessionResult) (s : State) → result_of s n ≡ Some r → Over n r s.sessions
is-over n r s is = by (find (is_session n) s.sessions) refl is where
  by : (found : Option Session) → find (is_session n) s.sessions ≡ found → option_and_then (λ (one : Session). one.ended) found ≡ Some r → Over n r s.sessions
  by None _ none = absurd (none-some r none)
  by (Some one) found over = (one, found, over)

result-is : (n : ℕ) (r : SessionResult) (s : State) → Over n r s.sessions → result_of s n ≡ Some r
result-is n r s (one, found, over) = ap (option_and_then (λ (x : Session). x.ended)) found ∙ over

module _ (n : ℕ) (r : SessionResult) where
  first-over : (m : ℕ) (f : Session → Session) → ((x : Session) → (f x).number ≡ x.number) → (sessions : List Session) → Over n r sessions → Over n r (change_first (is_open_at m) f sessions)
  first-over m f keeps sessions (one, found, over) =
      let shut : is_open one ≡ false = ap is_none over in
      let unchanged : is_open_at m one ≡ false = elim (is_session m one) as (λ b. (b && is_open one) ≡ false) [ true ↦ shut | false ↦ refl ] in
      (one, found-stays (is_session n) (is_open_at m) f (λ x. ap (λ k. k == n) (keeps x)) sessions one unchanged found, over)

  push-over : (new : Session) (sessions : List Session) → Over n r sessions → Over n r (sessions ++ new ∷ [])
  push-over new sessions (one, found, over) =
      (one, find-append (is_session n) sessions (new ∷ []) ∙ ap (λ first. option_or first (find (is_session n) (new ∷ []))) found, over)

  over-kept : (e : Effect) (sessions : List Session) → Over n r sessions → Over n r (sessions_after e sessions)
  over-kept (stages m path blob) sessions old =
      first-over m (λ session. record session { staged = with_staged (record { path = path; blob = blob }) session.staged }) (λ x. refl) sessions old
  over-kept (delivers m repo path blob moment) sessions old = first-over m (without_staged path) (λ x. refl) sessions old
  over-kept (discards m path draft) sessions old = first-over m (without_staged path) (λ x. refl) sessions old
  over-kept (opens m repo) sessions old = push-over (new_session m repo) sessions old
  over-kept (ends m result) sessions old = first-over m (λ session. record session { ended = Some result }) (λ x. refl) sessions old
  over-kept e sessions old = old

  effects-over : (es : List Effect) (s : State) → Over n r s.sessions → Over n r (with_effects s es).sessions
  effects-over [] s old = old
  effects-over (e ∷ es) s old = effects-over es (with_effect s e) (over-kept e s.sessions old)

pub effect-result : (s : State) (e : Effect) (n : ℕ) (r : SessionResult) → result_of s n ≡ Some r → result_of (with_effect s e) n ≡ Some r
effect-result s e n r is = result-is n r (with_effect s e) (over-kept n r e s.sessions (is-over n r s is))

pub entry-result : (settings : Settings) (old : State) (e : Entry) (n : ℕ) (r : SessionResult) → result_of old n ≡ Some r → result_of (after settings old e) n ≡ Some r
entry-result settings old e n r is =
    result-is n r (after settings old e) (effects-over n r (effects_of settings old e) (ticked old e.moment e.faults) (is-over n r old is))

pub history-result : (settings : Settings) (start : State) (entries : List Entry) (n : ℕ) (r : SessionResult) → result_of start n ≡ Some r → result_of (end settings start entries) n ≡ Some r
history-result settings start [] n r is = is
history-result settings start (e ∷ entries) n r is = history-result settings (after settings start e) entries n r (entry-result settings start e n r is)

pub started-result : (settings later : Settings) (start : State) (t : Tables) (entries : List Entry) (tells : ℕ → Option (List ℕ)) (stored : List ℕ) (clock : Option Moments) (faults n : ℕ) (r : SessionResult)
    (whole : Tables) → AreNamedApart settings.hosted → IsSound settings start → InOrder t → InRange t → Holds t start → Legal settings start entries → result_of start n ≡ Some r
    → Completes (with_items t (told settings start entries)) whole → result_of (started later tells stored clock faults whole) n ≡ Some r
started-result settings later start t entries tells stored clock faults n r whole apart sound order range holds legal is completes =
    let left : Tables = with_items t (told settings start entries) in
    let (_, order_then, holds_then) = history-recorded settings apart entries start t legal sound.order sound.places sound.sessions order holds in
    let stands : StandsFor whole (started later tells stored clock faults whole) =
    started-stands later tells stored clock faults whole (completed-order left whole completes order_then)
    (completed-range left whole completes (range-history settings apart entries start t legal sound range)) in
    let same : result_in whole n ≡ result_in left n = ap (λ (sessions : List RecordedSession). option_and_then (λ (one : RecordedSession). one.result) (find (is_recorded_session n) sessions)) completes.sessions in
    sym (stands.holds.ended n) ∙ same ∙ holds_then.ended n ∙ history-result settings start entries n r is
