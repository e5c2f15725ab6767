-- What the items that build tables up say of their sessions, and what a start makes of these.
use Rattle.std.proofs.Common.{◌≡◌, ℕ, zero, suc, ◌+◌, ◌<◌, ◌≤◌, max, Bool, true, false, cond, ◌&&◌, List, [], ◌∷◌, fold, length, get_or, take, Option, Some, None, Ok, Err, nat_lt, nat_le, refl, sym, ap, ◌∙◌, subst, arith}
use Rattle.std.specs.Prelude.{count_by}
use Rattle.std.proofs.lemmas.Bool.{and_parts, and_from, leb-true, lt-ltb, ltb-true}
use Rattle.std.proofs.lemmas.List.Folds.{list_all-append}
use Rattle.std.proofs.lemmas.List.Sums.{sum_by-append}
use Rattle.std.specs.List.{list_all}
use Rattle.repo_model.specs.declared.item.Item.{Item}
use Rattle.repo_model.specs.declared.item.Item.TheVariants.{HostedPut, Faded, Relisted, Removed, CachedFile, CachedDoc, SessionOpened, SessionEnded, Digested}
use Rattle.repo_model.specs.declared.session.SessionResult.{SessionResult}
use Rattle.repo_model.specs.Data.{Session}
use Rattle.repo_model.specs.Restart.{session_from, sessions_from}
use Rattle.repo_model.specs.State.{change_where, is_open, number_end}
use Rattle.mvn_digest.specs.declared.known.Further.{Further}
use Rattle.repo_model.specs.Tables.{Tables, RecordedSession, applied_from, change_recorded, digested, fits_on, lacks_at, is_session, item_on, no_tables}
use Rattle.row_tables.specs.Applying.{AreRising, with_items}
use Rattle.row_tables.specs.Items.{is_item, is_number}
use Rattle.row_tables.specs.Recorded.{IsBuiltUp}
use Rattle.row_tables.specs.Stored.{shown_session, shown_sessions}
use Rattle.row_tables.specs.declared.sessions.SessionRow.{SessionRow}
use Rattle.row_tables.proofs.Kept.{rising_push, rising_changed}
use Rattle.deploy_session.specs.Known.{IsSound, has_recordable, is_drawn}

-- each number is a session's, from 1 to 2 ^ 63 - 1
abbrev pub are_numbers : List RecordedSession → Bool
are_numbers ss = list_all (λ (s : RecordedSession). is_number s.number) ss

abbrev pub AreRecordedSessions : List RecordedSession → Type 0
AreRecordedSessions ss = AreRising ss × (are_numbers ss ≡ true)

range_of : (n : ℕ) → is_number n ≡ true → (0 < n) × (n < number_end)
range_of n is =
    let parts = and_parts (nat_lt 0 n) (nat_le n 9223372036854775807) is in
    (ltb-true 0 n parts.0, omega (arith, leb-true n 9223372036854775807 parts.1))

-- a result doesn't matter to the numbers
numbers_changed : (n : ℕ) (how : SessionResult) (ss : List RecordedSession) → are_numbers (change_where (is_session n) (λ s. record s { result = Some how }) ss) ≡ are_numbers ss
numbers_changed n how [] = refl
numbers_changed n how (s ∷ ss) =
    elim (is_session n s)
    as (λ b. (is_number (cond b (record s { result = Some how }) s).number && are_numbers (change_where (is_session n) (λ s. record s { result = Some how }) ss)) ≡ (is_number s.number && are_numbers ss)) [
      | true ↦ ap (λ b. is_number s.number && b) (numbers_changed n how ss)
      | false ↦ ap (λ b. is_number s.number && b) (numbers_changed n how ss)
    ]

-- further digests leave sessions
digests_leave : (hosted : Bool) (repo path : List ℕ) (further : Further) (t : Tables) → AreRecordedSessions t.sessions
    → AreRecordedSessions (cond hosted (record t { hosted = change_recorded repo path (digested further) t.hosted }) (record t { cached = change_recorded repo path (digested further) t.cached })).sessions
digests_leave true repo path further t so = so
digests_leave false repo path further t so = so

-- an item that fits keeps that
by_item : (t : Tables) (item : Item) → fits_on t item ≡ true → is_item item ≡ true → AreRecordedSessions t.sessions → AreRecordedSessions (item_on t item).sessions
by_item t (HostedPut repo path blob print accepted) fits form so = so
by_item t (Faded repo path moment) fits form so = so
by_item t (Relisted repo path accepted) fits form so = so
by_item t (Removed repo path) fits form so = so
by_item t (CachedFile repo path blob print accepted) fits form so = so
by_item t (CachedDoc repo path checked document) fits form so = so
by_item t (Digested repo path further) fits form so = digests_leave (lacks_at repo path t.hosted) repo path further t so
by_item t (SessionOpened n) fits form so =
    let new : RecordedSession = record { number = n; result = None } in (
      rising_push n new t.sessions refl so.0 fits,
      list_all-append (λ (s : RecordedSession). is_number s.number) t.sessions (new ∷ []) ∙ and_from (are_numbers t.sessions) (are_numbers (new ∷ [])) so.1 (and_from (is_number n) true form refl),
    )
by_item t (SessionEnded n how) fits form so = (rising_changed n how t.sessions so.0, numbers_changed n how t.sessions ∙ so.1)

by_items : (place : ℕ) (t : Tables) (items : List Item) (r : Tables) → applied_from place t items ≡ Ok r → list_all is_item items ≡ true → AreRecordedSessions t.sessions → AreRecordedSessions r.sessions
by_items place t [] r is form so =
    let same : t ≡ r = cc in
    subst (λ (u : Tables). AreRecordedSessions u.sessions) same so
by_items place t (item ∷ items) r is form so =
    let parts = and_parts (is_item item) (list_all is_item items) form in
    elim (fits_on t item) as (λ b. fits_on t item ≡ b → cond b (applied_from (place + 1) (item_on t item) items) (Err place) ≡ Ok r → AreRecordedSessions r.sessions) [
      | true ↦ λ fits e. by_items (place + 1) (item_on t item) items r e parts.1 (by_item t item fits parts.0 so)
      | false ↦ λ fits e. absurd cc
    ] refl is

-- sessions of tables that were built up rise, from 1 to 2 ^ 63 - 1
pub built_so : (t : Tables) → IsBuiltUp t → AreRecordedSessions t.sessions
built_so t built =
    subst (λ (u : Tables). AreRecordedSessions u.sessions) (sym built.built)
    (by_items 0 no_tables built.items (with_items no_tables built.items) built.recorded.fit built.recorded.form (tt, refl))

-- the greatest of a number and those of sessions
abbrev pub greatest_from : ℕ → List RecordedSession → ℕ
greatest_from m ss = fold (λ m (one : RecordedSession). max m one.number) m ss

at_least : (m : ℕ) (ss : List RecordedSession) → m ≤ greatest_from m ss
at_least m [] = omega arith
at_least m (s ∷ ss) = omega (arith, at_least (max m s.number) ss)

pub greatest_below : (m : ℕ) (ss : List RecordedSession) → m < number_end → are_numbers ss ≡ true → greatest_from m ss < number_end
greatest_below m [] low numbers = low
greatest_below m (s ∷ ss) low numbers =
    let parts = and_parts (is_number s.number) (are_numbers ss) numbers in
    greatest_below (max m s.number) ss (omega (arith, low, (range_of s.number parts.0).1)) parts.1

-- sessions with those of one more record
all_from : (test : Session → Bool) (s : RecordedSession) (ss : List RecordedSession) → list_all test (session_from s.number s.result) ≡ true → list_all test (sessions_from ss) ≡ true
    → list_all test (sessions_from (s ∷ ss)) ≡ true
all_from test s ss one rest =
    list_all-append test (session_from s.number s.result) (sessions_from ss) ∙ and_from (list_all test (session_from s.number s.result)) (list_all test (sessions_from ss)) one rest

drawn_one : (next n : ℕ) (r : Option SessionResult) → 0 < n → n < next → list_all (is_drawn next) (session_from n r) ≡ true
drawn_one next n None low high = refl
drawn_one next n (Some how) low high =
    and_from (nat_lt 0 n && nat_lt n next) true (and_from (nat_lt 0 n) (nat_lt n next) (lt-ltb 0 n low) (lt-ltb n next high)) refl

drawn_from : (m : ℕ) (ss : List RecordedSession) → are_numbers ss ≡ true → list_all (is_drawn (greatest_from m ss + 1)) (sessions_from ss) ≡ true
drawn_from m [] numbers = refl
drawn_from m (s ∷ ss) numbers =
    let parts = and_parts (is_number s.number) (are_numbers ss) numbers in
    let next : ℕ = greatest_from (max m s.number) ss + 1 in
    let high : s.number < next = omega (arith, at_least (max m s.number) ss) in
    all_from (is_drawn next) s ss (drawn_one next s.number s.result (range_of s.number parts.0).0 high) (drawn_from (max m s.number) ss parts.1)

formed_one : (n : ℕ) (r : Option SessionResult) → list_all has_recordable (session_from n r) ≡ true
formed_one n None = refl
formed_one n (Some how) = refl

formed_from : (ss : List RecordedSession) → list_all has_recordable (sessions_from ss) ≡ true
formed_from [] = refl
formed_from (s ∷ ss) = all_from has_recordable s ss (formed_one s.number s.result) (formed_from ss)

closed_one : (n : ℕ) (r : Option SessionResult) → count_by is_open (session_from n r) ≡ 0
closed_one n None = refl
closed_one n (Some how) = refl

none_open : (ss : List RecordedSession) → count_by is_open (sessions_from ss) ≡ 0
none_open [] = refl
none_open (s ∷ ss) =
    sum_by-append (λ (t : Session). cond (is_open t) 1 0) (session_from s.number s.result) (sessions_from ss)
    ∙ ap (λ n. n + count_by is_open (sessions_from ss)) (closed_one s.number s.result)
    ∙ ap (λ n. 0 + n) (none_open ss)

-- what a start makes of recorded sessions is sound
pub sound_from : (ss : List RecordedSession) → are_numbers ss ≡ true → IsSound 0 (greatest_from 0 ss + 1) (sessions_from ss)
sound_from ss numbers = record {
  counted = sym (none_open ss);
  drawn = drawn_from 0 ss numbers;
  formed = formed_from ss;
  first = omega arith;
  last = omega (arith, greatest_below 0 ss (omega arith) numbers);
}

above_at : (k : ℕ) (rows : List SessionRow) (i : ℕ) (d : SessionRow) → i < length rows → list_all (λ (t : RecordedSession). nat_lt k t.number) (shown_sessions rows) ≡ true → k < (get_or rows i d).number
above_at k [] i d low all = absurd (omega arith)
above_at k (r ∷ rows) zero d low all = ltb-true k r.number (and_parts (nat_lt k r.number) (list_all (λ (t : RecordedSession). nat_lt k t.number) (shown_sessions rows)) all).0
above_at k (r ∷ rows) (suc i) d low all = above_at k rows i d (omega (arith, low)) (and_parts (nat_lt k r.number) (list_all (λ (t : RecordedSession). nat_lt k t.number) (shown_sessions rows)) all).1

-- the sessions before a place have smaller numbers than the one there
pub below_at : (rows : List SessionRow) (i : ℕ) (d : SessionRow) → i < length rows → AreRising (shown_sessions rows) → are_numbers (shown_sessions rows) ≡ true
    → list_all (is_drawn (get_or rows i d).number) (sessions_from (shown_sessions (take i rows))) ≡ true
below_at [] i d low rising numbers = absurd (omega arith)
below_at (r ∷ rows) zero d low rising numbers = refl
below_at (r ∷ rows) (suc i) d low rising numbers =
    let parts = and_parts (is_number r.number) (are_numbers (shown_sessions rows)) numbers in
    let within : i < length rows = omega (arith, low) in
    let next : ℕ = (get_or rows i d).number in
    all_from (is_drawn next) (shown_session r) (shown_sessions (take i rows))
    (drawn_one next r.number r.result (range_of r.number parts.0).0 (above_at r.number rows i d within rising.0))
    (below_at rows i d within rising.1 parts.1)
