-- What is left once a journal's file is synced, and once its end is mended.
use Rattle.std.proofs.Common.{◌≡◌, ◌≤◌, inl, inr, ℕ, List, Result, Ok, Err, refl, sym, ◌∙◌, ap, subst}
use Rattle.std.specs.Prelude.{Option, Some, None, IsSome, IfSome, false, true, is_some}
use Rattle.std.specs.Option.{option_map}
use Rattle.std.specs.Result.{result_ok}
use Rattle.record_disk.specs.Disk.{Trace, After, Sync, content, AllImages, Throughout, Here, Then, Told, Keeps, IsDurable}
use Rattle.record_disk.proofs.Moments.{joined, weaker, at_last, told_map, told_then}
use Rattle.record_log.specs.Frames.{HoldsFrames, frames, gate_of, end_of, EndsAt}
use Rattle.record_log.specs.Log.{StandsFor, LogState, HasAcknowledged, MaySync}
use Rattle.record_log.proofs.Calls.{told_same}
use Rattle.repo_model.specs.Tables.{Tables}
use Rattle.row_tables.specs.declared.faults.LoadFault.{LoadFault}
use Rattle.row_tables.specs.declared.faults.LoadFault.TheVariants.{Failed, NoMemory, NotOurs, Row}
use Rattle.row_tables.specs.Records.{Expected, IsRefusal, LoadsUnlessFailed}
use Rattle.record_journal.specs.Given.{Loads}
use Rattle.row_tables.specs.Loading.{loading}
use Rattle.record_journal.specs.Journal.{acknowledged, tables_by, tables_of, LoadsTo, MayLoad, Fits, IsStanding, IsReady, IsSteady, KeepsTables, Recovers, IsStill}
use Rattle.record_journal.proofs.Loads.{HeldBy, loads_held, held_by}
use Rattle.record_journal.proofs.Standing.{may_load, standing_loads}

abbrev loaded : Tables → Result Tables LoadFault
loaded t = Ok t

ok_of : (r : Result Tables LoadFault) (t : Tables) → result_ok r ≡ Some t → r ≡ Ok t
ok_of (Ok u) t is = let same : u ≡ t = cc in ap Ok same
ok_of (Err e) t is = absurd cc

-- a sync keeps what loads
sync_moments : (t : Tables) (s : Trace) → LoadsTo t (content s) → AllImages (LoadsTo t) s → Throughout (LoadsTo t) s (After Sync (content s) s)
sync_moments t s loads all = Then Sync (content s) s (Here all) (λ image is. subst (LoadsTo t) (sym is) loads)

sync_kept : (g : ℕ) (s u : Trace) → MaySync s u → KeepsTables (tables_by (Some s) g None) None None s u
sync_kept g s u (inl same) = subst (KeepsTables (tables_by (Some s) g None) None None s) (sym same) (record { moments = λ t is all. Here all; images = λ t is all. all })
sync_kept g s u (inr synced) = subst (KeepsTables (tables_by (Some s) g None) None None s) (sym synced) (record {
  moments = λ t is all. sync_moments t s (ok_of (loading (content s)) t is) all;
  images = λ t is all. λ image from. subst (LoadsTo t) (sym from) (ok_of (loading (content s)) t is);
})

-- two runs, one after the other, of which the first leaves nothing pending
pub kept_then : (a b c : Option Trace) (told mid : Option Tables) (before : Option (List ℕ)) → mid ≡ told → Told a b (KeepsTables told before None) → Told b c (KeepsTables mid None None) → Told a c (KeepsTables told before None)
kept_then a b c told mid before same first second = told_then a b c (KeepsTables told before None) (KeepsTables mid None None) (KeepsTables told before None) go first second
  where
    go : (s t u : Trace) → KeepsTables told before None s t → KeepsTables mid None None t u → KeepsTables told before None s u
    go s t u one two = record {
      moments = λ v is all. joined (MayLoad v before) s t u (one.moments v is all) (weaker (LoadsTo v) (MayLoad v before) t u (may_load v before) (two.moments v (same ∙ is) (one.images v is all)));
      images = λ v is all. two.images v (same ∙ is) (one.images v is all);
    }

-- the same where what is pending at the end is said otherwise
pub with_pending : (a b : Option Trace) (told : Option Tables) (before x y : Option (List ℕ)) → x ≡ y → Told a b (KeepsTables told before x) → Told a b (KeepsTables told before y)
with_pending a b told before x y same kept = subst (λ o. Told a b (KeepsTables told before o)) same kept

may_sync : (a b : Option Trace) (g : ℕ) → Told a b MaySync → Told a b (KeepsTables (tables_by a g None) None None)
may_sync None None g told = tt
may_sync None (Some t) g told = told
may_sync (Some s) None g told = told
may_sync (Some s) (Some t) g told = sync_kept g s t told

pub synced_kept : (a b : Option Trace) (g : ℕ) (pending : Option (List ℕ)) → pending ≡ None → Told a b MaySync → Told a b (KeepsTables (tables_by a g pending) None None)
synced_kept a b g pending none told = subst (λ o. Told a b (KeepsTables (tables_by a g o) None None)) (sym none) (may_sync a b g told)

pub synced_tables : (a b : Option Trace) (g h : ℕ) (before after : Option (List ℕ)) → before ≡ None → after ≡ None → Told a b MaySync → tables_by b h after ≡ tables_by a g before
synced_tables a b g h before after none gone told = (λ i. tables_by b h (gone i)) ∙ by a b told ∙ (λ i. tables_by a g (sym none i))
  where
    same : (s t : Trace) → MaySync s t → content t ≡ content s
    same s t (inl is) = ap content is
    same s t (inr is) = ap content is

    by : (a b : Option Trace) → Told a b MaySync → tables_by b h None ≡ tables_by a g None
    by None None told = refl
    by None (Some t) told = absurd told
    by (Some s) None told = absurd told
    by (Some s) (Some t) told = ap (λ file. result_ok (loading file)) (same s t told)

pub recovers_sync : (a b : Option Trace) → Told a b MaySync → Told a b Recovers
recovers_sync a b told = told_map a b MaySync Recovers go told
  where
    go : (s t : Trace) → MaySync s t → Recovers s t
    go s t (inl same) = inl same
    go s t (inr synced) = inr (λ u loads. subst (Throughout (LoadsTo u) (After Sync (content s) s)) (sym synced) (Here (λ image is. subst (LoadsTo u) (sym is) loads)))

-- where nothing was done
pub recovers_none : (old mid : LogState) → mid ≡ old → Told old.trace mid.trace Recovers
recovers_none old mid same = subst (λ (v : LogState). Told old.trace v.trace Recovers) (sym same) (told_same old.trace Recovers (λ s. inl refl))

pub steady_none : (log : LogState) → log.pending ≡ None → IsSteady log
steady_none log none some = let no : false ≡ true = sym (ap is_some none) ∙ some in absurd cc

-- facts that a told trace hands on, and answers that do
pub told_if : (a b : Option Trace) (R : Trace → Trace → Type 0) (P Q : Trace → Type 0) → ((s t : Trace) → R s t → P t → Q s) → Told a b R → IfSome b P → IfSome a Q
told_if None b R P Q f told is = tt
told_if (Some s) None R P Q f told is = absurd told
told_if (Some s) (Some t) R P Q f told is = f s t told is

-- what mending the end of a file with these bytes says
abbrev pub Mending : List ℕ → Trace → Trace → Type 0
Mending bytes s t = IsDurable bytes s → (ps : List (List ℕ)) → HoldsFrames ps bytes → Keeps (HoldsFrames ps) s t

module _ (bytes : List ℕ) (t : Tables) (loads : loading bytes ≡ Ok t) where
  abbrev held : HeldBy bytes t
  held = held_by bytes t loads

  mend_moments : (s u : Trace) → IsDurable bytes s → Mending bytes s u → Throughout (LoadsTo t) s u
  mend_moments s u durable mending = weaker (HoldsFrames held.payloads) (LoadsTo t) s u (λ image holds. loads_held image held.payloads holds ∙ held.builds) (mending durable held.payloads held.holds).moments

  durable_tables : (g : ℕ) (s : Trace) → IsDurable bytes s → tables_by (Some s) g None ≡ Some t
  durable_tables g s durable = ap result_ok (ap loading durable.reads ∙ loads)

  some_is : (x y : Tables) → Some x ≡ Some y → x ≡ y
  some_is x y is = cc

  pub mended_kept : (a b : Option Trace) (g : ℕ) → IfSome a (IsDurable bytes) → Told a b (Mending bytes) → Told a b (KeepsTables (tables_by a g None) None None)
  mended_kept None None g durable told = tt
  mended_kept None (Some u) g durable told = told
  mended_kept (Some s) None g durable told = told
  mended_kept (Some s) (Some u) g durable told =
      let run : Throughout (LoadsTo t) s u = mend_moments s u durable told in
      record {
        moments = λ v is all. subst (λ w. Throughout (LoadsTo w) s u) (some_is t v (sym (durable_tables g s durable) ∙ is)) run;
        images = λ v is all. subst (λ w. AllImages (LoadsTo w) u) (some_is t v (sym (durable_tables g s durable) ∙ is)) (at_last (LoadsTo t) s u run);
      }

  pub mended_tables : (a b : Option Trace) (g h : ℕ) → IfSome a (IsDurable bytes) → Told a b (Mending bytes) → tables_by b h None ≡ tables_by a g None
  mended_tables None None g h durable told = refl
  mended_tables None (Some u) g h durable told = absurd told
  mended_tables (Some s) None g h durable told = absurd told
  mended_tables (Some s) (Some u) g h durable told =
      let kept = told durable held.payloads held.holds in
      ap result_ok (loads_held (content u) held.payloads (at_last (HoldsFrames held.payloads) s u kept.moments (content u) kept.image) ∙ held.builds) ∙ sym (durable_tables g s durable)

  pub mended_ready : (a b : Option Trace) (h : ℕ) (after : Option (List ℕ)) → after ≡ None → IfSome a (IsDurable bytes) → Told a b (Mending bytes)
      → IfSome a (λ s. IsDurable bytes s → (ps : List (List ℕ)) → HoldsFrames ps bytes → IfSome b (λ u. StandsFor h after ps u)) → IfSome b (IsStanding h after)
  mended_ready None None h after none durable told done = tt
  mended_ready None (Some u) h after none durable told done = absurd told
  mended_ready (Some s) None h after none durable told done = tt
  mended_ready (Some s) (Some u) h after none durable told done = record {
    payloads = held.payloads;
    stands = done durable held.payloads held.holds;
    tables = t;
    builds = held.builds;
    fits = subst (Fits t) (sym none) tt;
  }

  -- a sync, and then the end mended
  recovered : (s m u : Trace) → m ≡ After Sync (content s) s → IsDurable bytes m → Mending bytes m u → Recovers s u
  recovered s m u synced durable mending = inr (λ v loads_v.
      let now : content s ≡ bytes = ap content (sym synced) ∙ durable.reads in
      let same : t ≡ v = ok_is t v (sym loads ∙ ap loading (sym now) ∙ loads_v) in
      subst (λ w. Throughout (LoadsTo w) (After Sync (content s) s) u) same (subst (λ n. Throughout (LoadsTo t) n u) synced (mend_moments m u durable mending)))
    where
      ok_is : (x y : Tables) → loaded x ≡ loaded y → x ≡ y
      ok_is x y is = cc

  pub mended_recovers : (a b c : Option Trace) → Told a b (λ s m. m ≡ After Sync (content s) s) → IfSome b (IsDurable bytes) → Told b c (Mending bytes) → Told a c Recovers
  mended_recovers None None None synced durable mending = tt
  mended_recovers None None (Some u) synced durable mending = mending
  mended_recovers None (Some m) c synced durable mending = absurd synced
  mended_recovers (Some s) None c synced durable mending = absurd synced
  mended_recovers (Some s) (Some m) None synced durable mending = mending
  mended_recovers (Some s) (Some m) (Some u) synced durable mending = recovered s m u synced durable mending

-- what a load answers for the frames of a file, where that file loads to what is expected
pub loads_too : (a : Option Trace) (expected : Trace → Expected) (found r : Expected) → IfSome a (λ s. expected s ≡ found) → Loads found r → IfSome (option_map expected a) (λ e. LoadsUnlessFailed e r)
loads_too None expected found r same loads = tt
loads_too (Some s) expected found r same loads = by r loads
  where
    by : (r : Expected) → Loads found r → LoadsUnlessFailed (expected s) r
    by (Ok t) is = same ∙ is
    by (Err Failed) is = tt
    by (Err NoMemory) is = tt
    by (Err NotOurs) is = same ∙ is
    by (Err (Row frame at)) is = same ∙ is

-- a file that loads to tables is not refused
not_refused : (expected r : Expected) (t : Tables) → expected ≡ Ok t → Loads expected r → IsRefusal r → ⊥
not_refused expected (Ok u) t is loads refused = refused
not_refused expected (Err Failed) t is loads refused = refused
not_refused expected (Err NoMemory) t is loads refused = refused
not_refused expected (Err NotOurs) t is loads refused = let no : loaded t ≡ Err NotOurs = sym is ∙ loads in absurd cc
not_refused expected (Err (Row frame at)) t is loads refused = let no : loaded t ≡ Err (Row frame at) = sym is ∙ loads in absurd cc

-- where the bytes that were read are refused, nothing was pending, and the file was synced alone
pub refused_left : (old mid : LogState) (bytes : List ℕ) (r : Expected) → IsSteady old → Told old.trace mid.trace (KeepsTables (tables_of old) old.pending mid.pending)
    → (old.pending ≡ None → Told old.trace mid.trace (λ s t. t ≡ After Sync (content s) s)) → IfSome old.trace (λ s. loading (acknowledged old.gate old.pending (content s)) ≡ loading bytes)
    → Loads (loading bytes) r → IsRefusal r → Told old.trace mid.trace (λ s t. t ≡ After Sync (content s) s)
refused_left old mid bytes r steady told synced reads loads refused = by old.trace mid.trace old.pending (λ some. (steady some).standing) told synced reads
  where
    by : (a b : Option Trace) (pending : Option (List ℕ)) → (IsSome pending → IfSome a (IsStanding old.gate pending)) → Told a b (KeepsTables (tables_of old) old.pending mid.pending)
        → (pending ≡ None → Told a b (λ s t. t ≡ After Sync (content s) s)) → IfSome a (λ s. loading (acknowledged old.gate pending (content s)) ≡ loading bytes) → Told a b (λ s t. t ≡ After Sync (content s) s)
    by None None pending stands told synced reads = tt
    by None (Some t) pending stands told synced reads = told
    by (Some s) None pending stands told synced reads = told
    by (Some s) (Some t) None stands told synced reads = synced refl
    by (Some s) (Some t) (Some p) stands told synced reads =
        let known = stands refl in
        absurd (not_refused (loading bytes) r known.tables (sym reads ∙ standing_loads old.gate (Some p) known.payloads s known.stands ∙ known.builds) loads refused)

-- a load of a file whose frames build up tables, once its bytes are read: its end is mended, or that fails
module _ (old mid new : LogState) (bytes : List ℕ) (t : Tables) (loads : loading bytes ≡ Ok t) (mid_none : mid.pending ≡ None) (new_none : new.pending ≡ None)
    (durable : IfSome mid.trace (IsDurable bytes)) (mending : Told mid.trace new.trace (Mending bytes)) where
  pub reload_crash : tables_of mid ≡ tables_of old → Told old.trace mid.trace (KeepsTables (tables_of old) old.pending mid.pending) → Told old.trace new.trace (KeepsTables (tables_of old) old.pending new.pending)
  reload_crash same crash =
      with_pending old.trace new.trace (tables_of old) old.pending None new.pending (sym new_none)
      (kept_then old.trace mid.trace new.trace (tables_of old) (tables_by mid.trace mid.gate None) old.pending (ap (tables_by mid.trace mid.gate) (sym mid_none) ∙ same)
      (with_pending old.trace mid.trace (tables_of old) old.pending mid.pending None mid_none crash) (mended_kept bytes t loads mid.trace new.trace mid.gate durable mending))

  pub reload_tables : tables_of mid ≡ tables_of old → tables_of new ≡ tables_of old
  reload_tables same =
      ap (tables_by new.trace new.gate) new_none ∙ mended_tables bytes t loads mid.trace new.trace mid.gate new.gate durable mending ∙ ap (tables_by mid.trace mid.gate) (sym mid_none) ∙ same

  pub reload_ready : 8 ≤ new.gate → IfSome mid.trace (λ s. IsDurable bytes s → (ps : List (List ℕ)) → HoldsFrames ps bytes → HasAcknowledged ps new) → IsReady new
  reload_ready behind done = record { behind = behind; standing = mended_ready bytes t loads mid.trace new.trace new.gate new.pending new_none durable mending done }

  pub reload_recovers : Told old.trace mid.trace (λ s m. m ≡ After Sync (content s) s) → Told old.trace new.trace Recovers
  reload_recovers synced = mended_recovers bytes t loads old.trace mid.trace new.trace synced durable mending

-- Where only a sync was made, and where what followed it left a file that ends as it should.
pub still_sync : (a b : Option Trace) → Told a b MaySync → Told a b IsStill
still_sync a b told = told_map a b MaySync IsStill (λ s t may gate is ends. may) told

pub still_none : (old mid : LogState) → mid ≡ old → Told old.trace mid.trace MaySync
still_none old mid same = subst (λ (v : LogState). Told old.trace v.trace MaySync) (sym same) (told_same old.trace MaySync (λ s. inl refl))

-- the bytes of a file that is synced are those that it had
pub had_bytes : (a b : Option Trace) (bytes : List ℕ) → Told a b (λ s t. t ≡ After Sync (content s) s) → IfSome b (IsDurable bytes) → IfSome a (λ s. content s ≡ bytes)
had_bytes a b bytes synced durable = told_if a b (λ s t. t ≡ After Sync (content s) s) (IsDurable bytes) (λ s. content s ≡ bytes) (λ s t is at. sym (ap content is) ∙ at.reads) synced durable

pub gate_had : (a : Option Trace) (bytes : List ℕ) (gate : ℕ) → gate ≡ end_of (frames bytes) → IfSome a (λ s. content s ≡ bytes) → IfSome a (λ s. gate ≡ end_of (frames (content s)))
gate_had None bytes gate is had = tt
gate_had (Some s) bytes gate is had = is ∙ ap (λ file. end_of (frames file)) (sym had)

pub still_mended : (a b c : Option Trace) (bytes : List ℕ) (R : Trace → Trace → Type 0) → Told a b (λ s t. t ≡ After Sync (content s) s) → IfSome b (IsDurable bytes) → Told b c R
    → ((gate : ℕ) → gate_of (frames bytes) ≡ Some gate → EndsAt gate bytes → c ≡ b) → Told a c IsStill
still_mended None None None bytes R one durable two still = tt
still_mended None None (Some u) bytes R one durable two still = two
still_mended None (Some t) c bytes R one durable two still = absurd one
still_mended (Some s) None c bytes R one durable two still = absurd one
still_mended (Some s) (Some t) None bytes R one durable two still = two
still_mended (Some s) (Some t) (Some u) bytes R one durable two still = λ gate is ends.
    let had : content s ≡ bytes = sym (ap content one) ∙ durable.reads in
    let same : Some u ≡ Some t = still gate (subst (λ file. gate_of (frames file) ≡ Some gate) had is) (subst (EndsAt gate) had ends) in
    inr (trace_of u t same ∙ one)
  where
    trace_of : (x y : Trace) → Some x ≡ Some y → x ≡ y
    trace_of x y is = cc
