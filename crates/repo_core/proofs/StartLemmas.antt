-- What a start makes of tables that were built up: a sound state that stands for them, whose parts fit one another.
use native.Mathlib.Omega.{arith}
use Rattle.std.proofs.Common.{◌≡◌, ℕ, ◌+◌, ◌<◌, ◌≤◌, ◌==◌, true, false, cond, List, [], ◌∷◌, ◌++◌, map, Option, Some, None, refl, sym, ap, ◌∙◌, subst, rules, append-nil}
use Rattle.std.specs.Prelude.{filter, IfSome, IsTrue, unwrap_or}
use Rattle.std.specs.List.{All, AllByRecursion}
use Rattle.std.specs.Map.{keys_of}
use Rattle.std.specs.Option.{ForSome, option_map}
use Rattle.std.proofs.lemmas.List.Elements.{All-from_recursion}
use Rattle.std.proofs.lemmas.Option.{none-some}
use Rattle.outside.specs.Blobs.{Numbered, Shelf, numbers_of}
use Rattle.outside.specs.Moments.{Moments}
use Rattle.outside.specs.Told.{IsWhereTold}
use Rattle.repo_config.specs.Form.{IsSettings}
use Rattle.repo_model.specs.Data.{Hosted, Proxy, Row, fading, listed}
use Rattle.repo_model.specs.History.{latest_moment}
use Rattle.repo_model.specs.Restart.{blobs_named, greatest_number, hosted_from, is_of, proxy_from, recorded_of, started, with_bytes}
use Rattle.repo_model.specs.Settings.{ProxyRule, Rule, Settings}
use Rattle.repo_model.specs.State.{State, is_among, number_end, opening}
use Rattle.repo_model.specs.Tables.{Tables, RecordedRow, no_tables}
use Rattle.repo_laws.specs.Holds.{InOrder, StandsFor}
use Rattle.repo_laws.specs.InRange.{InRange, IsRowInRange}
use Rattle.repo_model.specs.Paths.{FadesRightly}
use Rattle.repo_laws.specs.Sound.{IsSound}
use Rattle.repo_laws.proofs.HoldingLists.{all-join, all-split}
use Rattle.repo_laws.proofs.Lists.{all-both, all-then}
use Rattle.repo_laws.proofs.Starting.{each-from, greatest-below-end, greatest-from, started-stands}
use Rattle.repo_laws.proofs.StartedSound.{started-sound}
use Rattle.row_tables.specs.Leaving.{Shown}
use Rattle.row_tables.specs.Items.{is_file_path}
use Rattle.row_tables.specs.Recorded.{IsBuiltUp}
use Rattle.row_tables.specs.Records.{Expected}
use Rattle.row_completion.specs.Completion.{IsComplete, IsDigestedWhereTold}
use Rattle.row_completion.proofs.Digesting.{tables-stay, where-told}
use Rattle.table_laws.specs.Standing.{IsListed, StandsAtFile}
use Rattle.table_laws.proofs.Building.{built-cached, built-hosted, built-listed, built-order, built-range}
use Rattle.repo_restart.specs.Leftovers.{Clears, ClearsFront, left_over}
use Rattle.repo_restart.specs.Rows.{AreRestored, IsRestorable}
use Rattle.repo_parts.specs.Deploys.{AreStagedInUse}
use Rattle.repo_parts.specs.Hosted.{AreInUse, rules_of}
use Rattle.repo_parts.specs.Proxies.{AreCachedInUse, proxy_rules_of}
use Rattle.blob_audit.specs.declared.damages.Damaged.{Damaged}
use Rattle.repo_core.specs.Start.{AreCompleted, Starts}
use Rattle.repo_core.specs.StartFaults.{OnDamage}
use Rattle.repo_core.specs.declared.faults.StartFault.{StartFault}
use Rattle.repo_core.specs.declared.faults.StartFault.TheVariants as start
use Rattle.repo_core.specs.Whole.{IsKept, Parts, Tell, counting, whole_of}
use Rattle.settings_laws.proofs.Apart.{named-apart, proxies-apart}
use Rattle.repo_parts.proofs.StagedLemmas.{SessionUsed}
use Rattle.repo_parts.proofs.UseLemmas.{RowsUsed}
use Rattle.repo_parts.proofs.AmongLemmas.{here-so, or-right}
use Rattle.repo_parts.proofs.ListLemmas.{all-map}

abbrev number_in : RecordedRow → ℕ
number_in r = r.row.blob.number

-- ---- what the steps need
pub restorable : (t : Tables) → IsBuiltUp t → IsComplete t → IsRestorable t
restorable t built complete =
    let order : InOrder t = built-order t built in
    let range : InRange t = built-range t built in
    record {
      hosted = record {
        rising = order.hosted;
        apart = λ n. omega (arith, order.blobs n);
        files = all-then StandsAtFile (λ (r : RecordedRow). IsTrue (is_file_path r.row.path)) (λ r so. so.1) t.hosted (built-hosted t built);
        in_time = all-then (λ (r : RecordedRow). IsRowInRange r × FadesRightly r.row) (λ (r : RecordedRow). r.row.accepted ≤ latest_moment) (λ r so. so.0.3.0) t.hosted range.hosted;
        fading = all-then (λ (r : RecordedRow). IsRowInRange r × FadesRightly r.row) (λ (r : RecordedRow). FadesRightly r.row) (λ r so. so.1) t.hosted range.hosted;
        complete = complete.hosted;
      };
      cached = record {
        rows_so = record {
          rising = order.cached;
          apart = λ n. omega (arith, order.blobs n);
          files = all-then StandsAtFile (λ (r : RecordedRow). IsTrue (is_file_path r.row.path)) (λ r so. so.1) t.cached (built-cached t built);
          in_time = all-then IsRowInRange (λ (r : RecordedRow). r.row.accepted ≤ latest_moment) (λ r so. so.3.0) t.cached range.cached;
          fading = all-then IsListed (λ (r : RecordedRow). FadesRightly r.row) (λ r is. listed-fades r.row is) t.cached (built-listed t built);
          complete = complete.cached;
        };
        visible = built-listed t built;
      };
      apart = order.blobs;
      rising = order.documents;
      checked = range.documents;
    } where
      listed-fades : (row : Row) → row.phase ≡ listed → FadesRightly row
      listed-fades row is since fades = absurd (let no : listed ≡ fading since = sym is ∙ fades in cc)

-- ---- numbers
named-below : (t : Tables) → InRange t → AllByRecursion (λ n. n < number_end) (blobs_named t)
named-below t range =
    all-map number_in (λ n. n < number_end) (t.hosted ++ t.cached)
    (all-join (λ (r : RecordedRow). r.row.blob.number < number_end) t.hosted t.cached
    (all-then (λ (r : RecordedRow). IsRowInRange r × FadesRightly r.row) (λ (r : RecordedRow). r.row.blob.number < number_end) (λ r so. so.0.2) t.hosted range.hosted)
    (all-then IsRowInRange (λ (r : RecordedRow). r.row.blob.number < number_end) (λ r so. so.2) t.cached range.cached))

-- each number that rows name is below the next, which is at most the end
pub next-above : (t : Tables) (stored named : List ℕ) (next : ℕ) → IsBuiltUp t → named ≡ blobs_named t → next ≡ greatest_number (blobs_named t ++ stored) + 1 → All (λ n. n < next) named
next-above t stored named next built same above =
    let most : ℕ = greatest_number (blobs_named t ++ stored) in
    let bound = (all-split (λ k. k < number_end → k ≤ most) (blobs_named t) stored (greatest-from (blobs_named t ++ stored) 0).1).0 in
    let below : AllByRecursion (λ n. n < next) (blobs_named t) =
    all-both {X = ℕ} (λ n. n < number_end) (λ n. n < number_end → n ≤ most) (λ n. n < next) (λ n low up. let le : n ≤ most = up low in omega (arith, le, above)) (blobs_named t) (named-below t (built-range t built)) bound in
    All-from_recursion (λ n. n < next) named (subst (AllByRecursion (λ n. n < next)) (sym same) below)

pub next-end : (t : Tables) (stored : List ℕ) (next : ℕ) → next ≡ greatest_number (blobs_named t ++ stored) + 1 → next ≤ number_end
next-end t stored next above = let below = greatest-below-end (blobs_named t ++ stored) 0 (omega arith) in omega (arith, below, above)

-- ---- the blobs of rows are in use
among-itself : (rows : List RecordedRow) → AllByRecursion (λ (r : RecordedRow). IsTrue (is_among r.row.blob.number (map number_in rows))) rows
among-itself [] = tt
among-itself (r ∷ rows) = (
  here-so r.row.blob.number (is_among r.row.blob.number (map number_in rows)),
  all-then (λ (x : RecordedRow). IsTrue (is_among x.row.blob.number (map number_in rows))) (λ (x : RecordedRow). IsTrue (is_among x.row.blob.number (map number_in (r ∷ rows))))
      (λ x among. or-right (r.row.blob.number == x.row.blob.number) (is_among x.row.blob.number (map number_in rows)) among) rows (among-itself rows),
)

module _ (kept : List ℕ) (tells : ℕ → Option (List ℕ)) where
  recorded-used : (repo : List ℕ) (rows : List RecordedRow) → AllByRecursion (λ (r : RecordedRow). IsTrue (is_among r.row.blob.number kept)) rows → RowsUsed kept (recorded_of tells rows repo)
  recorded-used repo [] all = tt
  recorded-used repo (r ∷ rows) all =
      elim (is_of repo r)
      as (λ b. RowsUsed kept (map (λ (x : RecordedRow). with_bytes tells x.row) (cond b (r ∷ filter (is_of repo) rows) (filter (is_of repo) rows)))) [
        | true ↦ (all.0, recorded-used repo rows all.1)
        | false ↦ recorded-used repo rows all.1
      ]

  made-used : (rows : List RecordedRow) (rules : List Rule) → AllByRecursion (λ (r : RecordedRow). IsTrue (is_among r.row.blob.number kept)) rows → AreInUse kept (map (hosted_from tells rows) rules)
  made-used rows [] all = tt
  made-used rows (rule ∷ rules) all = (recorded-used rule.id rows all, made-used rows rules all)

  cached-used : (t : Tables) (rules : List ProxyRule) → AllByRecursion (λ (r : RecordedRow). IsTrue (is_among r.row.blob.number kept)) t.cached → AreCachedInUse kept (map (proxy_from tells t) rules)
  cached-used t [] all = tt
  cached-used t (rule ∷ rules) all = (recorded-used rule.id t.cached all, cached-used t rules all)

module _ (t : Tables) (kept named : List ℕ) (same : named ≡ blobs_named t) (kept_so : (n : ℕ) → is_among n kept ≡ is_among n named) where
  both-among : AllByRecursion (λ (r : RecordedRow). IsTrue (is_among r.row.blob.number (blobs_named t))) t.hosted × AllByRecursion (λ (r : RecordedRow). IsTrue (is_among r.row.blob.number (blobs_named t))) t.cached
  both-among = all-split (λ (r : RecordedRow). IsTrue (is_among r.row.blob.number (blobs_named t))) t.hosted t.cached (among-itself (t.hosted ++ t.cached))

  so-kept : (rows : List RecordedRow) → AllByRecursion (λ (r : RecordedRow). IsTrue (is_among r.row.blob.number (blobs_named t))) rows → AllByRecursion (λ (r : RecordedRow). IsTrue (is_among r.row.blob.number kept)) rows
  so-kept rows among =
      all-then (λ (r : RecordedRow). IsTrue (is_among r.row.blob.number (blobs_named t))) (λ (r : RecordedRow). IsTrue (is_among r.row.blob.number kept))
      (λ r so. subst IsTrue (ap (is_among r.row.blob.number) (sym same) ∙ sym (kept_so r.row.blob.number)) so) rows among

  module _ (shelf : Shelf) (rules : List Rule) (proxy_rules : List ProxyRule) (repos : List Hosted) (proxies : List Proxy) (restored : AreRestored shelf t rules proxy_rules repos proxies) where
    pub restored-used : AreInUse kept repos
    restored-used = subst (AreInUse kept) (sym restored.made) (made-used kept restored.tells t.hosted rules (so-kept t.hosted both-among.0))

    pub files-in-use : AreCachedInUse kept proxies
    files-in-use = subst (AreCachedInUse kept) (sym restored.kept) (cached-used kept restored.tells t proxy_rules (so-kept t.cached both-among.1))

-- ---- what is left where the call ends early
pub all-cleared : (named : List ℕ) (old new : Shelf) (next : ℕ) → Clears named old new next → ClearsFront named old new
all-cleared named old new next clears =
    record { stored = clears.stored; gone = left_over named clears.stored; rest = []; told = clears.told; parts = sym (append-nil (left_over named clears.stored)); removed = clears.removed }

pub none-cleared : (named : List ℕ) (shelf : Shelf) → ClearsFront named shelf shelf
none-cleared named shelf =
    let stored = unwrap_or (numbers_of shelf) [] in
    record { stored = stored; gone = []; rest = left_over named stored; told = as-told (numbers_of shelf); parts = refl; removed = refl } where
      as-told : (numbers : Option (List ℕ)) → IsWhereTold numbers (unwrap_or numbers [])
      as-told None = tt
      as-told (Some ns) = refl

-- ---- the state
module _ (settings : Settings) (t : Tables) (old new : Shelf) (clock : Option Moments) (s : State) (built : IsBuiltUp t) (form : IsSettings settings) (starts : Starts settings t old new clock 0 s) where
  counted_is : (faults : ℕ) → started settings starts.tells starts.stored clock faults t ≡ counting faults s
  counted_is faults = ap (counting faults) (sym starts.state)

  pub starts-counted : (faults : ℕ) → Starts settings t old new clock faults (counting faults s)
  starts-counted faults = record {
    tells = starts.tells;
    stored = starts.stored;
    standing = starts.standing;
    listed = starts.listed;
    state = sym (counted_is faults);
    whole = starts.whole;
    removed = starts.removed;
  }

  starts-sound : (faults : ℕ) → IsSound settings (counting faults s)
  starts-sound faults =
      subst (IsSound settings) (counted_is faults)
      (started-sound settings starts.tells starts.stored clock faults t (named-apart settings form) (proxies-apart settings form) (built-order t built) (built-range t built))

  starts-stand : (faults : ℕ) → StandsFor t (counting faults s)
  starts-stand faults =
      subst (StandsFor t) (counted_is faults) (started-stands settings starts.tells starts.stored clock faults t (built-order t built) (built-range t built))

  pub starts-last : s.last ≤ latest_moment
  starts-last = (starts-sound 0).last

  pub starts-rules : rules_of s.hosted ≡ settings.hosted
  starts-rules = (starts-sound 0).order.rules

  pub starts-proxy-rules : proxy_rules_of s.proxies ≡ settings.proxies
  starts-proxy-rules = (starts-sound 0).order.proxies

  -- sessions that have ended have no files
  pub starts-staged : (kept : List ℕ) → AreStagedInUse kept s.sessions
  starts-staged kept =
      subst (AreStagedInUse kept) (ap (λ (u : State). u.sessions) (sym starts.state)) (each-from (SessionUsed kept) (λ n result. tt) t.sessions)

  pub starts-told : (faults : ℕ) (tables : Option Tables) → IfSome tables (λ them. t ≡ them) → ForSome tables (λ u. StandsFor u (counting faults s))
  starts-told faults None same u told = absurd (none-some u told)
  starts-told faults (Some them) same u told =
      let is : t ≡ u = same ∙ (let e : them ≡ u = cc in e) in
      subst (λ (v : Tables). StandsFor v (counting faults s)) is (starts-stand faults)

  pub starts-kept : (p : Parts) (now : Shown) → p.settings ≡ settings → p.state ≡ s → IfSome now.tables (λ them. t ≡ them) → IsKept (whole_of p now)
  starts-kept p now same state told = record {
    sound = subst (λ st. IsSound st (counting now.faults p.state)) (sym same) (subst (λ u. IsSound settings (counting now.faults u)) (sym state) (starts-sound now.faults));
    form = subst IsSettings (sym same) form;
    told = subst (λ u. ForSome now.tables (Tell (counting now.faults u))) (sym state) (tell now.tables told);
  } where
    tell : (tables : Option Tables) → IfSome tables (λ them. t ≡ them) → ForSome tables (Tell (counting now.faults s))
    tell None none u is = absurd (none-some u is)
    tell (Some them) same_as u is =
        let eq : t ≡ u = same_as ∙ (let e : them ≡ u = cc in e) in
        subst (Tell (counting now.faults s)) eq (record { order = built-order t built; holds = (starts-stand now.faults).holds })

-- where nothing was recorded or stored, it is the state before the first turn
module _ (settings : Settings) (t : Tables) (old new : Shelf) (clock : Option Moments) (faults : ℕ) (s : State) (starts : Starts settings t old new clock faults s) where
  opens : t ≡ no_tables → starts.stored ≡ [] → s ≡ counting faults (opening settings clock)
  opens none empty =
      starts.state ∙ ap (λ u. started settings starts.tells starts.stored clock faults u) none ∙ ap (λ ns. started settings starts.tells ns clock faults no_tables) empty

  over-empty : t ≡ no_tables → (blobs : Option Numbered) → IsWhereTold (option_map keys_of blobs) starts.stored → IfSome blobs (λ them. them ≡ [] → s ≡ counting faults (opening settings clock))
  over-empty none None told_so = tt
  over-empty none (Some them) told_so = λ empty. opens none (sym told_so ∙ ap keys_of empty)

  pub starts-opening : (told : Option Tables) → IfSome told (λ u. u ≡ no_tables → t ≡ no_tables)
      → IfSome told (λ u. u ≡ no_tables → IfSome old.blobs (λ them. them ≡ [] → s ≡ counting faults (opening settings clock)))
  starts-opening None same = tt
  starts-opening (Some u) same = λ none. over-empty (same none) old.blobs starts.listed

-- what follows of each damage follows where one is told
pub damage-then : (fault : StartFault) {P Q : Damaged → Type 0} → ((d : Damaged) → P d → Q d) → OnDamage fault P → OnDamage fault Q
damage-then start.NoMemory so told = tt
damage-then start.Store so told = tt
damage-then start.NotOurs so told = tt
damage-then (start.Row frame at) so told = tt
damage-then (start.Damaged d) so told = so d told

-- ---- tables that were loaded, with all digests
module _ (told : Option Tables) (loading : Option Expected) (shelf : Shelf) (t : Tables) (completed : AreCompleted told loading shelf t) where
  -- tables without rows are as they were
  pub empty-stays : IfSome told (λ u. u ≡ no_tables → t ≡ no_tables)
  empty-stays = by told completed.1.told
    where
      by : (o : Option Tables) → IfSome o (λ them. completed.0 ≡ them) → IfSome o (λ u. u ≡ no_tables → t ≡ no_tables)
      by None same = tt
      by (Some u) same = λ none.
          let empty : completed.0 ≡ no_tables = same ∙ none in
          tables-stay shelf completed.0 t (subst IsComplete (sym empty) (record { hosted = tt; cached = tt })) completed.2 ∙ empty

  pub digested-so : (now : Option Tables) → now ≡ option_map (λ u. t) told → IsDigestedWhereTold shelf told now
  digested-so now is = subst (IsDigestedWhereTold shelf told) (sym is) (where-told shelf told completed.0 t completed.1.told completed.2)

-- what is told is the same, where it is told
pub told-then : (told now : Option Tables) (t : Tables) → now ≡ option_map (λ u. t) told → IfSome now (λ them. t ≡ them)
told-then None now t is = subst (λ o. IfSome o (λ them. t ≡ them)) (sym is) tt
told-then (Some u) now t is = subst (λ o. IfSome o (λ them. t ≡ them)) (sym is) refl

pub complete-then : (told now : Option Tables) (t : Tables) → now ≡ option_map (λ u. t) told → IsComplete t → ForSome now IsComplete
complete-then told now t is complete x some = by (told-then told now t is)
  where
    by : IfSome now (λ them. t ≡ them) → IsComplete x
    by same = subst IsComplete (subst (λ o. IfSome o (λ them. t ≡ them)) some same) complete
