-- The limits of sessions, from an opening and a start through effects, entries and histories.
use native.Mathlib.Omega.{arith}
use Rattle.std.proofs.Common.{◌≡◌, ◌≤◌, ℕ, false, not, List, [], ◌∷◌, length, Option, Some, refl, ap}
use Rattle.std.specs.Prelude.{count_by}
use Rattle.std.specs.List.{AllByRecursion}
use Rattle.outside.specs.Moments.{Moments}
use Rattle.repo_model.specs.Data.{Staged, Session}
use Rattle.repo_model.specs.Settings.{Settings}
use Rattle.repo_model.specs.State.{State, change_first, is_open, is_open_at, is_staged, most_sessions, most_staged, opening}
use Rattle.repo_model.specs.Effect.{Effect, stages, delivers, discards, opens, ends, with_staged, without_staged, new_session, with_effect}
use Rattle.repo_model.specs.May.{May}
use Rattle.repo_model.specs.Tables.{Tables}
use Rattle.repo_model.specs.Restart.{started}
use Rattle.repo_model.specs.History.{Entry, Fits, ticked, after, Legal, end}
use Rattle.repo_laws.specs.Sound.{AreNamedApart, IsSound}
use Rattle.repo_laws.proofs.Counts.{one_if, count-cons, count-push}
use Rattle.repo_laws.proofs.Histories.{entry-keeps}
use Rattle.repo_laws.proofs.HoldingLists.{all-change_first, all-push}
use Rattle.repo_laws.proofs.Keeping.{keeps-sound}
use Rattle.repo_laws.proofs.Starting.{each-from}
use Rattle.session_laws.specs.Limits.{KeepsLimits}
use Rattle.session_laws.proofs.Counting.{first-counts, first-has, filter-fewer, one-more}

abbrev StagesFew : Session → Type 0
StagesFew one = length one.staged ≤ most_staged

pub opening-limits : (settings : Settings) (clock : Option Moments) → KeepsLimits (opening settings clock)
opening-limits settings clock = record { sessions = omega arith; staged = tt }

none-open : (sessions : List Session) → AllByRecursion (λ one. is_open one ≡ false) sessions → count_by is_open sessions ≡ 0
none-open [] all = refl
none-open (one ∷ sessions) all =
    let here : one_if (is_open one) ≡ 0 = ap one_if all.0 in
    omega (arith, count-cons is_open one sessions, here, none-open sessions all.1)

pub started-limits : (settings : Settings) (tells : ℕ → Option (List ℕ)) (stored : List ℕ) (clock : Option Moments) (faults : ℕ) (t : Tables) → KeepsLimits (started settings tells stored clock faults t)
started-limits settings tells stored clock faults t =
    let s : State = started settings tells stored clock faults t in
    let none = none-open s.sessions (each-from (λ (one : Session). is_open one ≡ false) (λ n result. refl) t.sessions) in
    record {
      sessions = omega (arith, none);
      staged = each-from StagesFew (λ n result. omega arith) t.sessions;
    }

module _ (grace now : ℕ) (s : State) where
  few-open : (e : Effect) → May grace now s e → count_by is_open s.sessions ≤ most_sessions → count_by is_open (with_effect s e).sessions ≤ most_sessions
  few-open (stages n path blob) may few =
      omega (arith, few, first-counts is_open (is_open_at n) (λ one. record one { staged = with_staged (record { path = path; blob = blob }) one.staged }) (λ one. omega arith) s.sessions)
  few-open (delivers n repo path blob moment) may few = omega (arith, few, first-counts is_open (is_open_at n) (without_staged path) (λ one. omega arith) s.sessions)
  few-open (discards n path draft) may few = omega (arith, few, first-counts is_open (is_open_at n) (without_staged path) (λ one. omega arith) s.sessions)
  few-open (opens n repo) may few = omega (arith, may.3, count-push is_open s.sessions (new_session n repo))
  few-open (ends n outcome) may few = omega (arith, few, first-counts is_open (is_open_at n) (λ one. record one { ended = Some outcome }) (λ one. omega arith) s.sessions)
  few-open e may few = few

  fewer-staged : (n : ℕ) (path : List ℕ) → AllByRecursion StagesFew s.sessions → AllByRecursion StagesFew (change_first (is_open_at n) (without_staged path) s.sessions)
  fewer-staged n path all =
      all-change_first StagesFew (is_open_at n) (without_staged path)
      (λ one few. omega (arith, few, filter-fewer (λ (file : Staged). not (is_staged path file)) one.staged)) s.sessions all

  few-staged : (e : Effect) → May grace now s e → AllByRecursion StagesFew s.sessions → AllByRecursion StagesFew (with_effect s e).sessions
  few-staged (stages n path blob) may all =
      let (one, there, _, _, room) = may in
      let new : Staged = record { path = path; blob = blob } in
      first-has StagesFew (is_open_at n) (λ session. record session { staged = with_staged new session.staged }) s.sessions one all there (omega (arith, room, one-more new one.staged))
  few-staged (delivers n repo path blob moment) may all = fewer-staged n path all
  few-staged (discards n path draft) may all = fewer-staged n path all
  few-staged (opens n repo) may all = all-push StagesFew s.sessions (new_session n repo) all (omega arith)
  few-staged (ends n outcome) may all = all-change_first StagesFew (is_open_at n) (λ one. record one { ended = Some outcome }) (λ one few. few) s.sessions all
  few-staged e may all = all

pub effect-limits : (grace now : ℕ) (s : State) (e : Effect) → May grace now s e → KeepsLimits s → KeepsLimits (with_effect s e)
effect-limits grace now s e may old = record {
  sessions = few-open grace now s e may old.sessions;
  staged = few-staged grace now s e may old.staged;
}

ticked-limits : (s : State) (moment faults : ℕ) → KeepsLimits s → KeepsLimits (ticked s moment faults)
ticked-limits s moment faults old = record { sessions = old.sessions; staged = old.staged }

module _ (settings : Settings) (apart : AreNamedApart settings.hosted) where
  pub entry-limits : (s : State) (e : Entry) → IsSound settings s → KeepsLimits s → Fits settings s e → KeepsLimits (after settings s e)
  entry-limits s e sound old fits =
      entry-keeps settings apart s e KeepsLimits fits sound.order (λ t f _ may kept. effect-limits settings.grace e.moment t f may kept)
      (ticked-limits s e.moment e.faults old)

  pub history-limits : (s : State) (entries : List Entry) → IsSound settings s → KeepsLimits s → Legal settings s entries → KeepsLimits (end settings s entries)
  history-limits s [] sound old legal = old
  history-limits s (e ∷ entries) sound old legal =
      history-limits (after settings s e) entries (keeps-sound settings apart s e sound legal.0) (entry-limits s e sound old legal.0) legal.1
