-- The state that a start makes stands for the tables.
use native.Mathlib.Omega.{arith}
use Rattle.std.proofs.Common.{◌≡◌, ◌≤◌, ◌<◌, ℕ, true, false, cond, ◌&&◌, ◌||◌, List, [], ◌∷◌, ◌++◌, Option, Some, None, refl, sym, ◌∙◌, ap, subst}
use Rattle.std.specs.Prelude.{◌==◌, nat_lt, max, fold, find, count_by, if◌then◌else◌, IsTrue}
use Rattle.std.specs.Option.{option_map, option_and_then}
use Rattle.std.specs.List.{AllByRecursion, list_any}
use Rattle.std.specs.List.Sorted.{IsStrictlySortedBy}
use Rattle.std.specs.declared.cmp.Ordering.TheVariants.{Less}
use Rattle.std.proofs.lemmas.Bool.{false≢true, ltb-true, ne_eqb, eqb-true, lt-ltb}
use Rattle.std.proofs.lemmas.Cmp.{ranked}
use Rattle.outside.specs.Moments.{Moments}
use Rattle.repo_model.specs.declared.session.SessionResult.{SessionResult}
use Rattle.repo_model.specs.Data.{Proxy, Session}
use Rattle.repo_model.specs.Settings.{Settings}
use Rattle.repo_model.specs.State.{State, is_session, is_open, is_open_at, row_at, number_end}
use Rattle.repo_model.specs.Tables.{Tables, RecordedRow, RecordedSession, names_blob}
use Rattle.repo_model.specs.Tables as kept
use Rattle.repo_model.specs.Restart.{session_from, sessions_from, greatest_number, blobs_named, started, proxy_from}
use Rattle.repo_laws.specs.Laws.{staged_with, without_bytes}
use Rattle.repo_laws.specs.Holds.{session_cmp, InOrder, Holds, StandsFor}
use Rattle.repo_laws.specs.InRange.{InRange}
use Rattle.repo_laws.proofs.Counts.{stages_it, sum-none}
use Rattle.repo_laws.proofs.HoldingLists.{all-map, all-of-map, all-so, all-split, none-any}
use Rattle.repo_laws.proofs.HoldingSessions.{ended_among, result_among}
use Rattle.repo_laws.proofs.Lists.{all-then}
use Rattle.repo_laws.proofs.Ranges.{rows-named, range-bare, range-numbers}
use Rattle.repo_laws.proofs.StartingRows.{held-rows, rows-under, of-found}
use Rattle.repo_laws.proofs.StartingFiles.{started-files, started-documents}

-- sessions
abbrev pub later_number : ℕ → RecordedSession → Type 0
later_number n one = n < one.number

pub rising-later : (x : RecordedSession) (sessions : List RecordedSession) → AllByRecursion (λ y. session_cmp x y ≡ Less) sessions → AllByRecursion (later_number x.number) sessions
rising-later x sessions all = all-then (λ y. session_cmp x y ≡ Less) (later_number x.number) (λ y is. ranked x.number y.number Less (sym is)) sessions all

-- what is made of sessions of later numbers has later numbers
pub later-from : (n : ℕ) (sessions : List RecordedSession) → AllByRecursion (later_number n) sessions → AllByRecursion (λ (one : Session). is_session n one ≡ false) (sessions_from sessions)
later-from n [] all = tt
later-from n (x ∷ sessions) all =
    elim x.result as (λ result. AllByRecursion (λ (one : Session). is_session n one ≡ false) (session_from x.number result ++ sessions_from sessions)) [
      | None ↦ later-from n sessions all.1
      | (Some result) ↦ (ne_eqb x.number n (λ same. omega (arith, all.0, same)), later-from n sessions all.1)
    ]

none-later : (n : ℕ) (sessions : List RecordedSession) → AllByRecursion (later_number n) sessions → ended_among n (sessions_from sessions) ≡ None
none-later n sessions all = ap (option_and_then (λ (one : Session). one.ended)) (none-any (is_session n) (sessions_from sessions) (later-from n sessions all))

-- the results are those of the sessions that are recorded
results-from : (n : ℕ) (sessions : List RecordedSession) → IsStrictlySortedBy session_cmp sessions → result_among n sessions ≡ ended_among n (sessions_from sessions)
unfolding IsStrictlySortedBy
results-from n [] rising = refl
results-from n (x ∷ sessions) rising =
    elim (x.number == n)
    as (λ b. (x.number == n) ≡ b
    → option_and_then (λ (one : RecordedSession). one.result) (cond b (Some x) (find (kept.is_session n) sessions)) ≡ ended_among n (sessions_from (x ∷ sessions))) [
      | true ↦ λ is. sym (here x.result is)
      | false ↦ λ is. results-from n sessions rising.1 ∙ sym (there x.result is)
    ] refl where
      here : (result : Option SessionResult) → (x.number == n) ≡ true → ended_among n (session_from x.number result ++ sessions_from sessions) ≡ result
      here None is = none-later n sessions (subst (λ k. AllByRecursion (later_number k) sessions) (eqb-true x.number n is) (rising-later x sessions rising.0))
      here (Some result) is = ap (λ b. option_and_then (λ (one : Session). one.ended) (cond b (Some (record { number = x.number; repo = []; staged = []; ended = Some result })) (find (is_session n) (sessions_from sessions)))) is

      there : (result : Option SessionResult) → (x.number == n) ≡ false → ended_among n (session_from x.number result ++ sessions_from sessions) ≡ ended_among n (sessions_from sessions)
      there None is = refl
      there (Some result) is = ap (λ b. option_and_then (λ (one : Session). one.ended) (cond b (Some (record { number = x.number; repo = []; staged = []; ended = Some result })) (find (is_session n) (sessions_from sessions)))) is

-- each of the sessions that are made has a property that those of a number and a result have
pub all-from : (P : Session → Type 0) (sessions : List RecordedSession)
    → AllByRecursion (λ (one : RecordedSession). (result : SessionResult) → P (record { number = one.number; repo = []; staged = []; ended = Some result })) sessions
    → AllByRecursion P (sessions_from sessions)
all-from P [] all = tt
all-from P (x ∷ sessions) all =
    elim x.result as (λ result. AllByRecursion P (session_from x.number result ++ sessions_from sessions)) [
      | None ↦ all-from P sessions all.1
      | (Some result) ↦ (all.0 result, all-from P sessions all.1)
    ]

pub each-from : (P : Session → Type 0) → ((n : ℕ) (result : SessionResult) → P (record { number = n; repo = []; staged = []; ended = Some result })) → (sessions : List RecordedSession) → AllByRecursion P (sessions_from sessions)
each-from P so sessions =
    all-from P sessions (all-so (λ (one : RecordedSession). (result : SessionResult) → P (record { number = one.number; repo = []; staged = []; ended = Some result })) (λ one result. so one.number result) sessions)

none-is-open : (n : ℕ) (sessions : List Session) → AllByRecursion (λ (one : Session). is_open one ≡ false) sessions → list_any (is_open_at n) sessions ≡ false
none-is-open n [] all = refl
none-is-open n (x ∷ sessions) all =
    ap (λ b. (is_session n x && b) || list_any (is_open_at n) sessions) all.0
    ∙ elim (is_session n x) as (λ b. ((b && false) || list_any (is_open_at n) sessions) ≡ false) [ true ↦ none-is-open n sessions all.1 | false ↦ none-is-open n sessions all.1 ]

-- numbers
abbrev pub number_step : ℕ → ℕ → ℕ
number_step m n = if nat_lt n number_end then max m n else m

pub greatest-from : (numbers : List ℕ) (m : ℕ) → (m ≤ fold number_step m numbers) × AllByRecursion (λ n. n < number_end → n ≤ fold number_step m numbers) numbers
greatest-from [] m = (omega arith, tt)
greatest-from (n ∷ numbers) m =
    elim (nat_lt n number_end)
    as (λ b. nat_lt n number_end ≡ b → (m ≤ fold number_step (if b then max m n else m) numbers)
    × ((n < number_end → n ≤ fold number_step (if b then max m n else m) numbers) × AllByRecursion (λ k. k < number_end → k ≤ fold number_step (if b then max m n else m) numbers) numbers)) [
      | true ↦ λ is. let rest = greatest-from numbers (max m n) in (omega (arith, rest.0), ((λ _. omega (arith, rest.0)), rest.1))
      | false ↦ λ is. let rest = greatest-from numbers m in (rest.0, ((λ below. absurd (false≢true (sym is ∙ lt-ltb n number_end below))), rest.1))
    ] refl

pub greatest-below-end : (numbers : List ℕ) (m : ℕ) → m < number_end → fold number_step m numbers < number_end
greatest-below-end [] m below = below
greatest-below-end (n ∷ numbers) m below =
    elim (nat_lt n number_end) as (λ b. nat_lt n number_end ≡ b → fold number_step (if b then max m n else m) numbers < number_end) [
      | true ↦ λ is. let n_below : n < number_end = ltb-true n number_end is in greatest-below-end numbers (max m n) (omega (arith, below, n_below))
      | false ↦ λ is. greatest-below-end numbers m below
    ] refl

pub named-has : (P : ℕ → Type 0) (n : ℕ) (t : Tables) → AllByRecursion P (blobs_named t) → IsTrue (names_blob n t) → P n
named-has P n t all named =
    let each = all-split (λ (r : RecordedRow). P r.row.blob.number) t.hosted t.cached (all-of-map (λ (r : RecordedRow). r.row.blob.number) P (t.hosted ++ t.cached) all) in
    rows-named P n t each.0 each.1 named

module _ (settings : Settings) (tells : ℕ → Option (List ℕ)) (stored : List ℕ) (clock : Option Moments) (faults : ℕ) (t : Tables) (order : InOrder t) (range : InRange t) where
  abbrev s : State
  s = started settings tells stored clock faults t

  -- the next draft is above each number that rows name
  pub next-above : (n : ℕ) → IsTrue (names_blob n t) → n < s.yard.next_draft
  next-above n named =
      let all = (all-split (λ k. k < number_end → k ≤ greatest_number (blobs_named t ++ stored)) (blobs_named t) stored (greatest-from (blobs_named t ++ stored) 0).1).0 in
      let below = named-has (λ k. k < number_end → k ≤ greatest_number (blobs_named t ++ stored)) n t all named (range-numbers t range n named).1 in
      omega (arith, below)

  pub started-none-staged : (n : ℕ) → staged_with n s.sessions ≡ 0
  started-none-staged n =
      sum-none (λ (one : Session). count_by (stages_it n) one.staged) s.sessions (each-from (λ (one : Session). count_by (stages_it n) one.staged ≡ 0) (λ m result. refl) t.sessions)

  closed-all : AllByRecursion (λ (one : Session). is_open one ≡ false) s.sessions
  closed-all = each-from (λ (one : Session). is_open one ≡ false) (λ m result. refl) t.sessions

  pub started-held : Holds t s
  started-held = record {
    files = started-files tells t range settings.proxies;
    documents = started-documents tells t settings.proxies;
    rows = λ repo path there.
        held-rows tells repo path t.hosted (range-bare t range)
        ∙ ap (option_map without_bytes) (sym (ap (row_at path) (rows-under tells repo t.hosted settings.hosted there) ∙ of-found tells repo path t.hosted));
    ended = λ n. results-from n t.sessions order.sessions;
    opened = λ n up. absurd (false≢true (sym (none-is-open n s.sessions closed-all) ∙ up));
    next_session = refl;
    drawn = next-above;
    loose = λ n named. omega (arith, started-none-staged n);
    moments = omega arith;
  }

  pub started-stands : StandsFor t s
  started-stands = record {
    holds = started-held;
    last = refl;
    next_lease = refl;
    none_open = closed-all;
    leases = refl;
    drafts = refl;
    condemned = refl;
    negatives = all-map (proxy_from tells t) (λ (p : Proxy). p.negatives ≡ []) (λ rule. refl) settings.proxies;
  }
