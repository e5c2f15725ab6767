-- A commit leaves what a crash before it or after it leaves; between calls that is the tables, or these with what is pending.
use Rattle.std.proofs.Common.{◌≡◌, ◌⊎◌, ◌+◌, ℕ, List, [], ◌++◌, length, Option, Some, None, Result, Ok, Err, inl, inr, refl, sym, subst, ap, ◌∙◌}
use Rattle.std.specs.Prelude.{IfSome, IsErrOf, IsOk, OnErr, OnOk}
use Rattle.std.proofs.lemmas.Bool.{false≢true}
use Rattle.std.specs.Result.{result_ok}
use Rattle.record_disk.specs.Disk.{AllImages, Here, Throughout, Told, Trace}
use Rattle.record_disk.proofs.Moments.{joined, weaker}
use Rattle.record_log.specs.Log.{LogState}
use Rattle.repo_model.specs.declared.item.Item.{Item}
use Rattle.repo_model.specs.Tables.{Tables}
use Rattle.row_tables.specs.Applying.{with_items}
use Rattle.row_tables.specs.Commits.{tables_with}
use Rattle.row_tables.specs.Items.{change_bytes}
use Rattle.row_tables.specs.Crashes.{IsOneOf, CrashesLeave, ReadsAmong, Rests, left_by}
use Rattle.row_tables.proofs.OneOf.{back, front, left-first}
use Rattle.row_tables.specs.declared.faults.CommitFault.{CommitFault}
use Rattle.row_tables.specs.declared.faults.CommitFault.TheVariants.{Failed, NoMemory}
use Rattle.row_tables.specs.Loading.{change_in}
use Rattle.row_tables.specs.Leaving.{HasCause, HasCrash, Leaves, end_of}
use Rattle.record_journal.specs.Journal.{Frames, shown_of, AddsNothing, Commits, CommitsTo, IsReady, LoadsTo, MayCommit, MayLoad, items_of, tables_of, unsettled_of}
use Rattle.record_journal.proofs.Loads.{IsWritable, change_again}
use Rattle.record_journal.proofs.Standing.{images_of}

left-second : (t : Tables) (payload : List ℕ) (items : List Item) → change_in payload ≡ Ok items → IsOneOf (with_items t items) (left_by t (items_of (Some payload)))
left-second t payload items is = subst (λ r. IsOneOf (with_items t items) (left_by t (result_ok r))) (sym is) (inr (inl refl))

reads-so : (ts : List Tables) (t : Tables) (file : List ℕ) → LoadsTo t file → IsOneOf t ts → ReadsAmong ts file
reads-so ts t file loads among = (t, ap result_ok loads, among)

may-read : (t : Tables) (pending : Option (List ℕ)) (file : List ℕ) → MayLoad t pending file → ReadsAmong (left_by t (items_of pending)) file
may-read t None file loads = reads-so (left_by t None) t file loads (inl refl)
may-read t (Some payload) file (inl loads) = reads-so (left_by t (items_of (Some payload))) t file loads (left-first t (items_of (Some payload)))
may-read t (Some payload) file (inr (items, is, loads)) = reads-so (left_by t (items_of (Some payload))) (with_items t items) file loads (left-second t payload items is)

some-same : (t u : Tables) → Some t ≡ Some u → t ≡ u
some-same t u same = cc

-- between calls
rests-by : (a : Option Trace) (ts : List Tables) → IfSome a (AllImages (ReadsAmong ts)) → CrashesLeave ts a a
rests-by None ts all = tt
rests-by (Some s) ts all = Here all

images-read : (a : Option Trace) (t : Tables) (pending : Option (List ℕ)) → IfSome a (AllImages (MayLoad t pending)) → IfSome a (AllImages (ReadsAmong (left_by t (items_of pending))))
images-read None t pending all = tt
images-read (Some s) t pending all = λ image from. may-read t pending image (all image from)

rests_so : (log : LogState) → IsReady log → Rests (tables_of log) (unsettled_of log)
rests_so log ready t told = rests-by log.trace (left_by t (items_of log.pending)) (images-read log.trace t log.pending (images_of log t ready told))

pub may_commit : (log : LogState) → IsReady log → MayCommit log
may_commit log ready = record { ready = ready; rests = rests_so log ready }

pub may_commit_if : {T E : Type 0} (r : Result T E) (log : LogState) → OnOk r (IsReady log) → OnOk r (MayCommit log)
may_commit_if (Ok value) log ready = may_commit log ready
may_commit_if (Err fault) log ready = tt

-- over a commit
passed : (a b : Option Trace) (ts : List Tables) (R : Trace → Trace → Type 0) → ((s v : Trace) → R s v → Throughout (ReadsAmong ts) s v) → Told a b R
    → CrashesLeave ts a b
passed None None ts R go told = tt
passed None (Some v) ts R go told = told
passed (Some s) None ts R go told = told
passed (Some s) (Some v) ts R go told = go s v told

module _ (old new : LogState) (items : List Item) (t u : Tables) (told : tables_of old ≡ Some t) where
  abbrev left : List Tables
  left = left_by t (items_of old.pending) ++ left_by u (items_of new.pending)

  reads-before : (file : List ℕ) → MayLoad t old.pending file → ReadsAmong left file
  reads-before file may = let a = may-read t old.pending file may in (a.0, a.1, front a.0 (left_by t (items_of old.pending)) (left_by u (items_of new.pending)) a.2)

  by-crash : IsOneOf (with_items t items) left → Told old.trace new.trace (Commits (tables_of old) old.pending items) → CrashesLeave left (unsettled_of old).trace (unsettled_of new).trace
  by-crash added crash = passed old.trace new.trace left (Commits (tables_of old) old.pending items) (λ s v so. go s v (so t told)) crash
    where
      second : (file : List ℕ) → LoadsTo t file ⊎ LoadsTo (with_items t items) file → ReadsAmong left file
      second file (inl loads) = reads-so left t file loads (front t (left_by t (items_of old.pending)) (left_by u (items_of new.pending)) (left-first t (items_of old.pending)))
      second file (inr loads) = reads-so left (with_items t items) file loads added

      go : (s v : Trace) → CommitsTo t old.pending items s v → Throughout (ReadsAmong left) s v
      go s v so =
          let first = weaker (MayLoad t old.pending) (ReadsAmong left) s so.undone reads-before so.first in
          elim so.later [
            | inl same ↦ subst (Throughout (ReadsAmong left) s) (sym same) first
            | inr both ↦ joined (ReadsAmong left) s so.undone v first (weaker (λ file. LoadsTo t file ⊎ LoadsTo (with_items t items) file) (ReadsAmong left) so.undone v second both.1)
          ]

  by-nothing : Told old.trace new.trace (AddsNothing (tables_of old) old.pending) → CrashesLeave left (unsettled_of old).trace (unsettled_of new).trace
  by-nothing nothing = passed old.trace new.trace left (AddsNothing (tables_of old) old.pending) (λ s v so. weaker (MayLoad t old.pending) (ReadsAmong left) s v reads-before (so t told)) nothing

  committed : tables_with items (tables_of old) ≡ Some u → Told old.trace new.trace (Commits (tables_of old) old.pending items) → CrashesLeave left (unsettled_of old).trace (unsettled_of new).trace
  committed is crash =
      let same : with_items t items ≡ u = some-same (with_items t items) u (ap (tables_with items) (sym told) ∙ is) in
      by-crash (back (with_items t items) (left_by t (items_of old.pending)) (left_by u (items_of new.pending)) (subst (λ y. IsOneOf y (left_by u (items_of new.pending))) (sym same) (left-first u (items_of new.pending)))) crash

  failed : IsWritable items → t ≡ u → (new.pending ≡ Some (change_bytes items)) ⊎ Told old.trace new.trace (AddsNothing (tables_of old) old.pending)
      → Told old.trace new.trace (Commits (tables_of old) old.pending items) → CrashesLeave left (unsettled_of old).trace (unsettled_of new).trace
  failed is same (inr none) crash = by-nothing none
  failed is same (inl pends) crash =
      by-crash (back (with_items t items) (left_by t (items_of old.pending)) (left_by u (items_of new.pending))
      (subst (λ y. IsOneOf (with_items t items) (left_by y (items_of new.pending))) same
      (subst (λ p. IsOneOf (with_items t items) (left_by t (items_of p))) (sym pends) (left-second t (change_bytes items) items (change_again items is))))) crash

pending-as : (old new : LogState) (items : List Item) → IsWritable items → (new.pending ≡ None) ⊎ (new.pending ≡ old.pending) ⊎ (new.pending ≡ Some (change_bytes items))
    → (items_of new.pending ≡ None) ⊎ (items_of new.pending ≡ items_of old.pending) ⊎ (items_of new.pending ≡ Some items)
pending-as old new items is (inl none) = inl (ap items_of none)
pending-as old new items is (inr (inl same)) = inr (inl (ap items_of same))
pending-as old new items is (inr (inr new_is)) = inr (inr (ap items_of new_is ∙ ap result_ok (change_again items is)))

pub crashes-so : (result : Result (Unit {0}) CommitFault) (old new : LogState) (items : List Item) → IsWritable items
    → OnOk result (new.pending ≡ None)
    → OnErr result ((new.pending ≡ None) ⊎ (new.pending ≡ old.pending) ⊎ (new.pending ≡ Some (change_bytes items)))
    → (IsErrOf result NoMemory → new.pending ≡ None)
    → OnErr result ((new.pending ≡ Some (change_bytes items)) ⊎ Told old.trace new.trace (AddsNothing (tables_of old) old.pending))
    → Told old.trace new.trace (Commits (tables_of old) old.pending items)
    → HasCrash (end_of result) items (tables_of old) (unsettled_of old) (unsettled_of new)
crashes-so (Ok done) old new items is undone pending wanting nothing crash = inr (ap items_of undone, λ t u told told'. committed old new items t u told told' crash)
crashes-so (Err Failed) old new items is undone pending wanting nothing crash =
    (pending-as old new items is pending, λ t u told told'. failed old new items t u told is (some-same t u (sym told ∙ told')) nothing crash)
crashes-so (Err NoMemory) old new items is undone pending wanting nothing crash =
    inr (inl (ap items_of (wanting refl)), λ t u told told'. failed old new items t u told is (some-same t u (sym told ∙ told')) nothing crash)

pub leaves-so : (r : Result (Unit {0}) CommitFault) (old new : LogState) (items : List Item) → OnOk r (tables_of new ≡ tables_with items (tables_of old)) → OnErr r (tables_of new ≡ tables_of old)
    → HasCause (end_of r) old.faults new.faults → HasCrash (end_of r) items (tables_of old) (unsettled_of old) (unsettled_of new) → MayCommit new → Leaves items (end_of r) (shown_of old) (shown_of new)
leaves-so (Ok done) old new items ok err cause crashes ready = record { tables = ok; cause = cause; crashes = crashes; ready = ready }
leaves-so (Err Failed) old new items ok err cause crashes ready = record { tables = err; cause = cause; crashes = crashes; ready = ready }
leaves-so (Err NoMemory) old new items ok err cause crashes ready = record { tables = err; cause = cause; crashes = crashes; ready = ready }

apart : (r : Result (Unit {0}) CommitFault) → r ≡ Err NoMemory → r ≡ Err Failed → ⊥
apart r wanted failed = cc

pub frames-so : (r : Result (Unit {0}) CommitFault) (old new : LogState) (items : List Item) → OnOk r (new.pending ≡ None)
    → OnErr r ((new.pending ≡ None) ⊎ (new.pending ≡ old.pending) ⊎ (new.pending ≡ Some (change_bytes items)))
    → OnErr r ((new.pending ≡ Some (change_bytes items)) ⊎ Told old.trace new.trace (AddsNothing (tables_of old) old.pending))
    → (items ≡ [] → old.pending ≡ None → IsOk r × (new ≡ old)) → (items ≡ [] → (new.gate ≡ old.gate) × OnErr r (IsErrOf r Failed × (new.pending ≡ old.pending)))
    → OnOk r ((items ≡ []) ⊎ (new.gate ≡ old.gate + 5 + length (change_bytes items))) → OnErr r (new.gate ≡ old.gate) → Frames items (end_of r) old new
frames-so (Ok done) old new items undone pending nothing empty unframed framed stays = (undone, (λ none. ((unframed none).0, λ p. (empty none p).1)), framed)
frames-so (Err Failed) old new items undone pending nothing empty unframed framed stays =
    (record { gate = stays; pending = pending; nothing = nothing }, λ none. ((λ p. absurd (false≢true (empty none p).0)), (unframed none).1.1))
frames-so (Err NoMemory) old new items undone pending nothing empty unframed framed stays =
    (record { gate = stays; pending = pending; nothing = nothing }, λ none. absurd (apart (Err NoMemory) refl (unframed none).1.0))
