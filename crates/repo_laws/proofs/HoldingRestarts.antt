-- What two states have in common that the same tables hold.
use native.Mathlib.Omega.{arith}
use Rattle.std.proofs.Common.{◌≡◌, ◌≤◌, ℕ, true, false, cond, List, [], ◌∷◌, Some, None, refl, sym, ◌∙◌, ap}
use Rattle.std.specs.Prelude.{find, is_none, IsTrue}
use Rattle.std.specs.Option.{option_map, option_and_then}
use Rattle.std.specs.List.{AllByRecursion, list_any}
use Rattle.std.proofs.lemmas.Bool.{false≢true}
use Rattle.repo_model.specs.Data.{Session}
use Rattle.repo_model.specs.State.{State, is_repository, is_session, is_open, is_open_at, row_at, rows_of, session_of}
use Rattle.repo_model.specs.Tables.{Tables, RecordedSession}
use Rattle.repo_laws.specs.Laws.{without_bytes}
use Rattle.repo_laws.specs.Holds.{Holds, StandsFor, result_of}

module _ (t : Tables) (old new : State) (before : Holds t old) where
  pub rows-again : Holds t new → (repo path : List ℕ) → IsTrue (list_any (is_repository repo) old.hosted) → IsTrue (list_any (is_repository repo) new.hosted)
      → option_map without_bytes (row_at path (rows_of repo new)) ≡ option_map without_bytes (row_at path (rows_of repo old))
  rows-again after repo path there there_too = sym (after.rows repo path there_too) ∙ before.rows repo path there

  pub results-again : Holds t new → (n : ℕ) → result_of new n ≡ result_of old n
  results-again after n = sym (after.ended n) ∙ before.ended n

  pub numbers-again : Holds t new → new.yard.next_session ≡ old.yard.next_session
  numbers-again after = after.next_session ∙ sym before.next_session

  pub moments-again : StandsFor t new → new.last ≤ old.last
  moments-again after = omega (arith, after.last, before.moments)

  -- where none is open, what has no result is not there
  gone : (n : ℕ) (sessions : List Session) → AllByRecursion (λ (one : Session). is_open one ≡ false) sessions → option_and_then (λ (one : Session). one.ended) (find (is_session n) sessions) ≡ None → find (is_session n) sessions ≡ None
  gone n [] none is = refl
  gone n (x ∷ sessions) none is =
      elim (is_session n x) as (λ b. option_and_then (λ (one : Session). one.ended) (cond b (Some x) (find (is_session n) sessions)) ≡ None → cond b (Some x) (find (is_session n) sessions) ≡ None) [
        | true ↦ λ going. absurd (false≢true (sym none.0 ∙ ap is_none going))
        | false ↦ λ rest. gone n sessions none.1 rest
      ] is

  pub open-lost : StandsFor t new → (n : ℕ) → IsTrue (list_any (is_open_at n) old.sessions) → session_of n new ≡ None
  open-lost after n there =
      gone n new.sessions after.none_open
      (sym (after.holds.ended n) ∙ ap (option_and_then (λ (one : RecordedSession). one.result)) (before.opened n there))
