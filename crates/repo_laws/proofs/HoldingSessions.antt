-- Session numbers lie apart, and the sessions in the tables are those of the state: kept by each effect and its item.
use native.Mathlib.Omega.{arith}
use Rattle.std.proofs.Common.{◌≡◌, ◌≤◌, ◌<◌, ◌+◌, ℕ, Bool, true, false, cond, ◌&&◌, ◌||◌, max, List, [], ◌∷◌, ◌++◌, Option, Some, None, refl, sym, ◌∙◌, ap, subst, option_map, eqb-true}
use Rattle.std.specs.Prelude.{◌==◌, IsTrue, find, fold, is_none}
use Rattle.std.specs.Option.{option_and_then, option_or}
use Rattle.std.specs.List.{AllByRecursion, list_any}
use Rattle.std.proofs.lemmas.Bool.{false≢true, and_parts, ne_eqb}
use Rattle.std.proofs.lemmas.Option.{none-some}
use Rattle.std.proofs.lemmas.List.Folds.{find-append, list_any-append}
use Rattle.std.proofs.lemmas.List.Sums.{fold_push}
use Rattle.repo_model.specs.declared.session.SessionResult.{SessionResult}
use Rattle.repo_model.specs.Data.{Session}
use Rattle.repo_model.specs.State.{State, is_session, is_open, is_open_at, change_where, change_first}
use Rattle.repo_model.specs.Effect.{Effect, stages, delivers, discards, opens, ends, new_session, without_staged, with_staged, with_effect}
use Rattle.repo_model.specs.May.{May}
use Rattle.repo_model.specs.Tables as kept
use Rattle.repo_laws.specs.Numbered.{NumbersApart, Numbered}
use Rattle.repo_laws.proofs.Lists.{all-then}
use Rattle.repo_laws.proofs.HoldingLists.{find-changed, find-change-elsewhere, find-first-elsewhere, any-first, any-first-elsewhere, find-part, part-push, none-any, all-change_first, all-push, greatest-below, greatest-same}

pub none-is : {X : Type 0} (found : Option X) → is_none found ≡ true → found ≡ None
none-is None is = refl
none-is (Some x) is = absurd (false≢true is)

-- numbers
none-first : (n : ℕ) (q : Session → Bool) (f : Session → Session) → ((x : Session) → (f x).number ≡ x.number) → (sessions : List Session) → find (is_session n) sessions ≡ None → find (is_session n) (change_first q f sessions) ≡ None
none-first n q f keeps sessions none =
    none-is (find (is_session n) (change_first q f sessions)) (find-part is_none (is_session n) q f (λ x. ap (λ k. k == n) (keeps x)) (λ x. refl) sessions ∙ ap is_none none)

apart-first : (q : Session → Bool) (f : Session → Session) → ((x : Session) → (f x).number ≡ x.number) → (sessions : List Session) → NumbersApart sessions → NumbersApart (change_first q f sessions)
apart-first q f keeps [] apart = tt
apart-first q f keeps (x ∷ sessions) apart =
    elim (q x) as (λ b. NumbersApart (cond b (f x ∷ sessions) (x ∷ change_first q f sessions))) [
      | true ↦ (subst (λ (n : ℕ). find (is_session n) sessions ≡ None) (sym (keeps x)) apart.0, apart.1)
      | false ↦ (none-first x.number q f keeps sessions apart.0, apart-first q f keeps sessions apart.1)
    ]

apart-push : (sessions : List Session) (new : Session) → AllByRecursion (λ (one : Session). one.number < new.number) sessions → NumbersApart sessions → NumbersApart (sessions ++ new ∷ [])
apart-push [] new all apart = (refl, tt)
apart-push (x ∷ sessions) new all apart = (
  find-append (is_session x.number) sessions (new ∷ []) ∙ ap (λ found. option_or found (find (is_session x.number) (new ∷ []))) apart.0
      ∙ ap (λ b. cond b (Some new) None) (ne_eqb new.number x.number (λ same. omega (arith, same, all.0))),
  apart-push sessions new all.1 apart.1,
)

first-numbered : (s : State) (q : Session → Bool) (f : Session → Session) → ((x : Session) → (f x).number ≡ x.number) → Numbered s
    → AllByRecursion (λ (one : Session). one.number < s.yard.next_session) (change_first q f s.sessions) × NumbersApart (change_first q f s.sessions)
first-numbered s q f keeps old = (
  all-change_first (λ (one : Session). one.number < s.yard.next_session) q f (λ x below. subst (λ (n : ℕ). n < s.yard.next_session) (sym (keeps x)) below) s.sessions old.below,
  apart-first q f keeps s.sessions old.apart,
)

same-numbered : (s t : State) → t.sessions ≡ s.sessions → t.yard.next_session ≡ s.yard.next_session → Numbered s → Numbered t
same-numbered s t sessions next old = record {
  below = subst (λ (n : ℕ). AllByRecursion (λ (one : Session). one.number < n) t.sessions) (sym next) (subst (λ (list : List Session). AllByRecursion (λ (one : Session). one.number < s.yard.next_session) list) (sym sessions) old.below);
  apart = subst NumbersApart (sym sessions) old.apart;
}

pub numbered-kept : (grace now : ℕ) (s : State) (e : Effect) → May grace now s e → Numbered s → Numbered (with_effect s e)
numbered-kept grace now s (stages n path blob) may old =
    let (below, apart) = first-numbered s (is_open_at n) (λ session. record session { staged = with_staged (record { path = path; blob = blob }) session.staged }) (λ x. refl) old in record { below = below; apart = apart }
numbered-kept grace now s (delivers n repo path blob moment) may old =
    let (below, apart) = first-numbered s (is_open_at n) (without_staged path) (λ x. refl) old in record { below = below; apart = apart }
numbered-kept grace now s (discards n path draft) may old =
    let (below, apart) = first-numbered s (is_open_at n) (without_staged path) (λ x. refl) old in record { below = below; apart = apart }
numbered-kept grace now s (ends n result) may old =
    let (below, apart) = first-numbered s (is_open_at n) (λ session. record session { ended = Some result }) (λ x. refl) old in record { below = below; apart = apart }
numbered-kept grace now s (opens n repo) may old =
    let below : AllByRecursion (λ (one : Session). one.number < n) s.sessions = subst (λ (k : ℕ). AllByRecursion (λ (one : Session). one.number < k) s.sessions) (sym may.0) old.below in
    record {
      below = all-push (λ (one : Session). one.number < n + 1) s.sessions (new_session n repo)
          (all-then (λ (one : Session). one.number < n) (λ (one : Session). one.number < n + 1) (λ one less. omega (arith, less)) s.sessions below) (omega arith);
      apart = apart-push s.sessions (new_session n repo) below old.apart;
    }
numbered-kept grace now s e may old = same-numbered s (with_effect s e) refl refl old

-- what the tables tell of the sessions
abbrev pub result_among : ℕ → List kept.RecordedSession → Option SessionResult
result_among n sessions = option_and_then (λ (one : kept.RecordedSession). one.result) (find (kept.is_session n) sessions)

abbrev pub ended_among : ℕ → List Session → Option SessionResult
ended_among n sessions = option_and_then (λ (one : Session). one.ended) (find (is_session n) sessions)

abbrev pub greatest_among : List kept.RecordedSession → ℕ
greatest_among sessions = fold (λ m (one : kept.RecordedSession). max m one.number) 0 sessions

abbrev pub just_opened : ℕ → kept.RecordedSession
just_opened n = record { number = n; result = None }

pub record SessionsHeld (tables : List kept.RecordedSession) (sessions : List Session) (next : ℕ) : Type 0 where
  pub ended : (n : ℕ) → result_among n tables ≡ ended_among n sessions
  pub opened : (n : ℕ) → IsTrue (list_any (is_open_at n) sessions) → find (kept.is_session n) tables ≡ Some (just_opened n)
  pub next_session : next ≡ greatest_among tables + 1

-- staged files come and go
pub sessions-staged : (n : ℕ) (f : Session → Session) → ((x : Session) → (f x).number ≡ x.number) → ((x : Session) → (f x).ended ≡ x.ended) → (tables : List kept.RecordedSession) (sessions : List Session) (next : ℕ)
    → SessionsHeld tables sessions next → SessionsHeld tables (change_first (is_open_at n) f sessions) next
sessions-staged n f keeps stays tables sessions next old = record {
  ended = λ k. old.ended k ∙ sym (find-part (option_and_then (λ (one : Session). one.ended)) (is_session k) (is_open_at n) f (λ x. ap (λ m. m == k) (keeps x)) stays sessions);
  opened = λ k there. old.opened k (sym (any-first (is_open_at k) (is_open_at n) f (λ x. ap (λ m. (m == k) && is_open (f x)) (keeps x) ∙ ap (λ o. (x.number == k) && is_none o) (stays x)) sessions) ∙ there);
  next_session = old.next_session;
}

-- a session is opened
pub none-recorded : (n : ℕ) (tables : List kept.RecordedSession) → AllByRecursion (λ (one : kept.RecordedSession). one.number < n) tables → AllByRecursion (λ (one : kept.RecordedSession). kept.is_session n one ≡ false) tables
none-recorded n = all-then (λ (one : kept.RecordedSession). one.number < n) (λ one. kept.is_session n one ≡ false) (λ one below. ne_eqb one.number n (λ same. omega (arith, same, below)))

pub all-below-next : (n : ℕ) (tables : List kept.RecordedSession) → n ≡ greatest_among tables + 1 → AllByRecursion (λ (one : kept.RecordedSession). one.number < n) tables
all-below-next n tables is =
    all-then (λ (one : kept.RecordedSession). one.number ≤ greatest_among tables) (λ one. one.number < n) (λ one up. omega (arith, is, up)) tables
    (greatest-below (λ (one : kept.RecordedSession). one.number) (greatest_among tables) tables 0 (omega arith)).1

pub sessions-opened : (n : ℕ) (repo : List ℕ) (tables : List kept.RecordedSession) (sessions : List Session) → SessionsHeld tables sessions n
    → SessionsHeld (tables ++ just_opened n ∷ []) (sessions ++ new_session n repo ∷ []) (n + 1)
sessions-opened n repo tables sessions old = record {
  ended = λ k.
      ap (option_and_then (λ (one : kept.RecordedSession). one.result)) (find-append (kept.is_session k) tables (just_opened n ∷ []))
      ∙ part-push (λ (one : kept.RecordedSession). one.result) (find (kept.is_session k) tables) (n == k) (just_opened n) refl
      ∙ old.ended k
      ∙ sym (ap (option_and_then (λ (one : Session). one.ended)) (find-append (is_session k) sessions (new_session n repo ∷ []))
      ∙ part-push (λ (one : Session). one.ended) (find (is_session k) sessions) (n == k) (new_session n repo) refl);
  opened = λ k there.
      find-append (kept.is_session k) tables (just_opened n ∷ [])
      ∙ elim (n == k)
      as (λ b. (n == k) ≡ b → option_or (find (kept.is_session k) tables) (cond b (Some (just_opened n)) None) ≡ Some (just_opened k)) [
        | true ↦ λ is.
            let same : n ≡ k = eqb-true n k is in
            subst (λ (m : ℕ). option_or (find (kept.is_session m) tables) (Some (just_opened n)) ≡ Some (just_opened m)) same
            (ap (λ found. option_or found (Some (just_opened n))) (none-any (kept.is_session n) tables (none-recorded n tables (all-below-next n tables old.next_session))))
        | false ↦ λ other.
            ap (λ found. option_or found None) (old.opened k (before (list_any (is_open_at k) sessions) ((n == k) && true) (sym (list_any-append (is_open_at k) sessions (new_session n repo ∷ [])) ∙ there) (ap (λ b. b && true) other)))
      ] refl;
  next_session =
      let up = greatest-below (λ (one : kept.RecordedSession). one.number) (greatest_among tables) tables 0 (omega arith) in
      let pushed : greatest_among (tables ++ just_opened n ∷ []) ≡ max (greatest_among tables) n = fold_push (λ m (one : kept.RecordedSession). max m one.number) 0 tables (just_opened n) in
      omega (arith, pushed, old.next_session);
} where
  before : (a b : Bool) → (a || (b || false)) ≡ true → b ≡ false → a ≡ true
  before true b any none = refl
  before false true any none = absurd (false≢true (sym none))
  before false false any none = any

-- a session ends
first-ended : (n : ℕ) (result : SessionResult) (sessions : List Session) → list_any (is_open_at n) sessions ≡ true → ended_among n sessions ≡ None
    → ended_among n (change_first (is_open_at n) (λ one. record one { ended = Some result }) sessions) ≡ Some result
first-ended n result [] there none = absurd (false≢true there)
first-ended n result (x ∷ sessions) there none =
    elim (x.number == n)
    as (λ b. (x.number == n) ≡ b → ((b && is_open x) || list_any (is_open_at n) sessions) ≡ true → option_and_then (λ (one : Session). one.ended) (cond b (Some x) (find (is_session n) sessions)) ≡ None → ended_among n (cond (b && is_open x) (record x { ended = Some result } ∷ sessions) (x ∷ change_first (is_open_at n) (λ one. record one { ended = Some result }) sessions)) ≡ Some result) [
      | true ↦ λ is _ going.
          let opened : is_open x ≡ true = ap is_none going in
          rw (opened, is) refl
      | false ↦ λ is later none_later. rw is (first-ended n result sessions later none_later)
    ] refl there none

no-other-open : (n : ℕ) (sessions : List Session) → find (is_session n) sessions ≡ None → list_any (is_open_at n) sessions ≡ false
no-other-open n [] none = refl
no-other-open n (x ∷ sessions) none =
    elim (x.number == n) as (λ b. cond b (Some x) (find (is_session n) sessions) ≡ None → ((b && is_open x) || list_any (is_open_at n) sessions) ≡ false) [
      | true ↦ λ found. absurd (none-some x (sym found))
      | false ↦ λ rest. no-other-open n sessions rest
    ] none

none-open : (n : ℕ) (result : SessionResult) (sessions : List Session) → NumbersApart sessions → list_any (is_open_at n) (change_first (is_open_at n) (λ one. record one { ended = Some result }) sessions) ≡ false
none-open n result [] apart = refl
none-open n result (x ∷ sessions) apart =
    let ending : Session → Session = λ one. record one { ended = Some result } in
    elim (is_open_at n x) as (λ b. is_open_at n x ≡ b → list_any (is_open_at n) (cond b (ending x ∷ sessions) (x ∷ change_first (is_open_at n) ending sessions)) ≡ false) [
      | true ↦ λ is.
          let (numbered, _) = and_parts (x.number == n) (is_open x) is in
          let rest : find (is_session n) sessions ≡ None = subst (λ (k : ℕ). find (is_session k) sessions ≡ None) (eqb-true x.number n numbered) apart.0 in
          rw numbered (no-other-open n sessions rest)
      | false ↦ λ is. rw is (none-open n result sessions apart.1)
    ] refl

pub sessions-ended : (n : ℕ) (result : SessionResult) (tables : List kept.RecordedSession) (sessions : List Session) (next : ℕ) → list_any (is_open_at n) sessions ≡ true → NumbersApart sessions
    → SessionsHeld tables sessions next
    → SessionsHeld (change_where (kept.is_session n) (λ one. record one { result = Some result }) tables) (change_first (is_open_at n) (λ one. record one { ended = Some result }) sessions) next
sessions-ended n result tables sessions next there apart old =
    let telling : kept.RecordedSession → kept.RecordedSession = λ one. record one { result = Some result } in
    let ending : Session → Session = λ one. record one { ended = Some result } in
    let found : find (kept.is_session n) tables ≡ Some (just_opened n) = old.opened n there in
    record {
      ended = λ k.
          elim (n == k)
          as (λ b. (n == k) ≡ b → result_among k (change_where (kept.is_session n) telling tables) ≡ ended_among k (change_first (is_open_at n) ending sessions)) [
            | true ↦ λ is.
                subst (λ (m : ℕ). result_among m (change_where (kept.is_session n) telling tables) ≡ ended_among m (change_first (is_open_at n) ending sessions)) (eqb-true n k is)
                (ap (option_and_then (λ (one : kept.RecordedSession). one.result)) (find-changed (kept.is_session n) telling (λ x. refl) tables ∙ ap (option_map telling) found)
                ∙ sym (first-ended n result sessions there (sym (old.ended n) ∙ ap (option_and_then (λ (one : kept.RecordedSession). one.result)) found)))
            | false ↦ λ other.
                ap (option_and_then (λ (one : kept.RecordedSession). one.result)) (find-change-elsewhere (kept.is_session k) (kept.is_session n) telling (λ x is. of-another x.number n k is other) (λ x. refl) tables)
                ∙ old.ended k
                ∙ sym (ap (option_and_then (λ (one : Session). one.ended)) (find-first-elsewhere (is_session k) (is_open_at n) ending (λ x is. of-another x.number n k (and_parts (x.number == n) (is_open x) is).0 other) (λ x. refl) sessions))
          ] refl;
      opened = λ k opened_then.
          elim (n == k) as (λ b. (n == k) ≡ b → find (kept.is_session k) (change_where (kept.is_session n) telling tables) ≡ Some (just_opened k)) [
            | true ↦ λ is.
                let none : list_any (is_open_at k) (change_first (is_open_at n) ending sessions) ≡ false =
                subst (λ (m : ℕ). list_any (is_open_at m) (change_first (is_open_at n) ending sessions) ≡ false) (eqb-true n k is) (none-open n result sessions apart) in
                absurd (false≢true (sym none ∙ opened_then))
            | false ↦ λ other.
                find-change-elsewhere (kept.is_session k) (kept.is_session n) telling (λ x is. of-another x.number n k is other) (λ x. refl) tables
                ∙ old.opened k
                (sym (any-first-elsewhere (is_open_at k) (is_open_at n) ending
                (λ x is. ap (λ b. b && is_open x) (of-another x.number n k (and_parts (x.number == n) (is_open x) is).0 other))
                (λ x is. ap (λ b. b && false) (of-another x.number n k (and_parts (x.number == n) (is_open x) is).0 other)) sessions) ∙ opened_then)
          ] refl;
      next_session = old.next_session ∙ ap (λ m. m + 1) (sym (greatest-same (λ (one : kept.RecordedSession). one.number) (kept.is_session n) telling (λ x. refl) tables 0));
    } where
      of-another : (m n k : ℕ) → (m == n) ≡ true → (n == k) ≡ false → (m == k) ≡ false
      of-another m n k is other = ap (λ i. i == k) (eqb-true m n is) ∙ other
