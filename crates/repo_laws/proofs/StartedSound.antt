-- The state that a start makes from tables in order is sound.
use native.Mathlib.Omega.{arith}
use Rattle.std.proofs.Common.{◌≡◌, ◌≤◌, ◌<◌, ℕ, true, false, cond, List, [], ◌∷◌, ◌++◌, map, Option, Some, None, refl, sym, ◌∙◌, ap, subst}
use Rattle.std.specs.Prelude.{nat_lt, filter, bytes_eq, if◌then◌else◌, IsTrue}
use Rattle.std.specs.Option.{option_map}
use Rattle.std.specs.List.{AllByRecursion, list_any}
use Rattle.std.specs.List.Sorted.{IsStrictlySortedBy}
use Rattle.std.proofs.lemmas.Bool.{ltb-true, ltb-false}
use Rattle.std.proofs.lemmas.Option.{none-some}
use Rattle.outside.specs.Moments.{Moments}
use Rattle.repo_model.specs.declared.session.SessionResult.{SessionResult}
use Rattle.repo_model.specs.Data.{Row, Hosted, Proxy, Session}
use Rattle.repo_model.specs.Settings.{Rule, Settings}
use Rattle.repo_model.specs.State.{State, is_repository, is_session, is_among, row_at, rows_of, number_end}
use Rattle.repo_model.specs.Command.{is_there}
use Rattle.repo_model.specs.Tables.{Tables, RecordedRow, RecordedSession, names_blob, recorded_at}
use Rattle.repo_model.specs.History.{latest_moment}
use Rattle.repo_model.specs.Restart.{with_bytes, is_of, recorded_of, hosted_from, session_from, sessions_from, greatest_session, greatest_number, blobs_named, proxy_from, started}
use Rattle.repo_laws.specs.Laws.{places_of}
use Rattle.repo_model.specs.Paths.{FadesRightly}
use Rattle.repo_laws.specs.Numbered.{NumbersApart}
use Rattle.repo_laws.specs.Sound.{AreNamedApart, AreByPath, IsInOrder, OnePlace, IsSound, AreProxiesApart}
use Rattle.repo_laws.specs.Holds.{session_cmp, named_in, InOrder}
use Rattle.repo_laws.specs.InRange.{InRange}
use Rattle.repo_laws.proofs.HoldingBlobs.{counts-named, greatest-least}
use Rattle.repo_laws.proofs.HoldingLists.{all-map, map-undone, none-any, all-split, greatest-below, all-greatest}
use Rattle.repo_laws.proofs.Orderly.{there-as-set}
use Rattle.repo_laws.proofs.Ranges.{range-fading, range-numbers, range-moments}
use Rattle.repo_laws.proofs.Rows.{rows_in}
use Rattle.repo_laws.proofs.Lists.{all-then, among-has}
use Rattle.repo_laws.proofs.StartingRows.{by-path-of, of-found, rows-under, none-under}
use Rattle.repo_laws.proofs.Starting.{rising-later, later-from, each-from, all-from, greatest-from, greatest-below-end, next-above, started-none-staged}
use Rattle.repo_laws.proofs.StartedRows.{rows-named}
use Rattle.repo_laws.proofs.StartingFiles.{files-named}

module _ (tells : ℕ → Option (List ℕ)) where
  same-rules : (rows : List RecordedRow) (rules : List Rule) → map (λ (h : Hosted). h.rule) (map (hosted_from tells rows) rules) ≡ rules
  same-rules rows = map-undone (hosted_from tells rows) (λ (h : Hosted). h.rule) (λ rule. refl)

  -- what rows have whatever their bytes, those of a repository have
  all-recorded : (P : Row → Type 0) → ((row : Row) → P row → P (with_bytes tells row)) → (rows : List RecordedRow) → AllByRecursion (λ (r : RecordedRow). P r.row) rows → (repo : List ℕ) → AllByRecursion P (recorded_of tells rows repo)
  all-recorded P so [] all repo = tt
  all-recorded P so (r ∷ rows) all repo =
      elim (bytes_eq r.repo repo) as (λ b. AllByRecursion P (map (λ (x : RecordedRow). with_bytes tells x.row) (cond b (r ∷ filter (is_of repo) rows) (filter (is_of repo) rows)))) [
        | true ↦ (so r.row all.0, all-recorded P so rows all.1 repo)
        | false ↦ all-recorded P so rows all.1 repo
      ]

-- sessions of rising numbers are apart
apart-from : (sessions : List RecordedSession) → IsStrictlySortedBy session_cmp sessions → NumbersApart (sessions_from sessions)
unfolding IsStrictlySortedBy
apart-from [] rising = tt
apart-from (x ∷ sessions) rising =
    elim x.result as (λ result. NumbersApart (session_from x.number result ++ sessions_from sessions)) [
      | None ↦ apart-from sessions rising.1
      | (Some result) ↦ (none-any (is_session x.number) (sessions_from sessions) (later-from x.number sessions (rising-later x sessions rising.0)), apart-from sessions rising.1)
    ]

module _ (settings : Settings) (tells : ℕ → Option (List ℕ)) (stored : List ℕ) (clock : Option Moments) (faults : ℕ) (t : Tables) (apart : AreNamedApart settings.hosted) (named : AreProxiesApart settings.proxies) (order : InOrder t) (range : InRange t) where
  abbrev s : State
  s = started settings tells stored clock faults t

  in-places : (n : ℕ) → places_of s n ≤ named_in t n
  in-places n = omega (arith, rows-named tells n t.hosted settings.hosted apart, files-named tells t n settings.proxies named, started-none-staged settings tells stored clock faults t order range n)

  not-named : (n : ℕ) → (IsTrue (names_blob n t) → ⊥) → places_of s n ≡ 0
  not-named n never =
      elim (nat_lt 0 (named_in t n)) as (λ b. nat_lt 0 (named_in t n) ≡ b → places_of s n ≡ 0) [
        | true ↦ λ is. absurd (never (counts-named n t (ltb-true 0 (named_in t n) is)))
        | false ↦ λ is. omega (arith, in-places n, ltb-false 0 (named_in t n) is)
      ] refl

  one-place-started : OnePlace s
  one-place-started = record {
    drawn = λ n _. omega (arith, in-places n, order.blobs n);
    later = λ n up. not-named n (λ named. omega (arith, up, next-above settings tells stored clock faults t order range n named));
    none = not-named 0 (λ named. omega (arith, (range-numbers t range 0 named).0));
    begun = omega arith;
    lent = tt;
  }

  session-bound : AllByRecursion (λ (one : RecordedSession). one.number ≤ greatest_session t) t.sessions
  session-bound = (greatest-below (λ (one : RecordedSession). one.number) (greatest_session t) t.sessions 0 (omega arith)).1

  greatest-session-below : greatest_session t < number_end
  greatest-session-below =
      let up : greatest_session t ≤ 9223372036854775807 =
      all-greatest (λ (one : RecordedSession). one.number) 9223372036854775807 t.sessions 0 (omega arith)
      (all-then (λ (one : RecordedSession). one.number < number_end) (λ (one : RecordedSession). one.number ≤ 9223372036854775807) (λ one below. omega (arith, below)) t.sessions range.sessions) in
      omega (arith, up)

  pub started-sound : IsSound settings s
  started-sound = record {
    order = record {
      rules = same-rules tells t.hosted settings.hosted;
      rows = all-map (hosted_from tells t.hosted) (λ (h : Hosted). AreByPath h.rows) (λ rule. by-path-of tells rule.id t.hosted order.hosted) settings.hosted;
      proxies = map-undone (proxy_from tells t) (λ (p : Proxy). p.rule) (λ rule. refl) settings.proxies;
      files = all-map (proxy_from tells t) (λ (p : Proxy). AreByPath p.files) (λ rule. by-path-of tells rule.id t.cached order.cached) settings.proxies;
      sessions = each-from (IsInOrder settings) (λ n result. ((λ none. absurd (none-some result (sym none))), tt)) t.sessions;
      draft = let below = greatest-below-end (blobs_named t ++ stored) 0 (omega arith) in omega (arith, below);
      lease = omega arith;
      session = omega (arith, greatest-session-below);
    };
    places = one-place-started;
    leases = record { once = λ n. omega arith; later = λ n _. refl; none = refl; begun = omega arith };
    sessions = record {
      below = all-from (λ (one : Session). one.number < s.yard.next_session) t.sessions
          (all-then (λ (one : RecordedSession). one.number ≤ greatest_session t) (λ (one : RecordedSession). (result : SessionResult) → one.number < s.yard.next_session)
          (λ one up result. omega (arith, up)) t.sessions session-bound);
      apart = apart-from t.sessions order.sessions;
    };
    condemned = tt;
    fading = all-map (hosted_from tells t.hosted) (λ (h : Hosted). AllByRecursion FadesRightly h.rows) (λ rule. all-recorded tells FadesRightly (λ row so. so) t.hosted (range-fading t range) rule.id) settings.hosted;
    last = greatest-least t latest_moment (range-moments t range);
  }

pub started-rows : (settings : Settings) (tells : ℕ → Option (List ℕ)) (stored : List ℕ) (clock : Option Moments) (faults : ℕ) (t : Tables) (repo path : List ℕ)
    → row_at path (rows_of repo (started settings tells stored clock faults t))
    ≡ (if is_there repo settings then option_map (with_bytes tells) (recorded_at repo path t.hosted) else None)
started-rows settings tells stored clock faults t repo path =
    let hosted : List Hosted = map (hosted_from tells t.hosted) settings.hosted in
    subst (λ b. row_at path (rows_in repo hosted) ≡ (if b then option_map (with_bytes tells) (recorded_at repo path t.hosted) else None))
    (there-as-set settings (started settings tells stored clock faults t) repo (same-rules tells t.hosted settings.hosted))
    (elim (list_any (is_repository repo) hosted)
    as (λ b. list_any (is_repository repo) hosted ≡ b → row_at path (rows_in repo hosted) ≡ (if b then option_map (with_bytes tells) (recorded_at repo path t.hosted) else None)) [
      | true ↦ λ there. ap (row_at path) (rows-under tells repo t.hosted settings.hosted there) ∙ of-found tells repo path t.hosted
      | false ↦ λ none. ap (row_at path) (none-under tells repo t.hosted settings.hosted none)
    ] refl)

pub stored-below : (settings : Settings) (tells : ℕ → Option (List ℕ)) (stored : List ℕ) (clock : Option Moments) (faults : ℕ) (t : Tables) (n : ℕ)
    → IsTrue (is_among n stored) → n < number_end → n < (started settings tells stored clock faults t).yard.next_draft
stored-below settings tells stored clock faults t n among below =
    let most : ℕ = greatest_number (blobs_named t ++ stored) in
    let up : n ≤ most =
    among-has (λ k. k < number_end → k ≤ most) n stored (all-split (λ k. k < number_end → k ≤ most) (blobs_named t) stored (greatest-from (blobs_named t ++ stored) 0).1).1 among below in
    omega (arith, up)
