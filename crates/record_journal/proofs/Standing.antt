-- What the frames that stand in a journal's file say of its tables and of its images.
use Rattle.std.proofs.Common.{◌≡◌, inl, inr, ℕ, List, [], ◌∷◌, ◌++◌, take, Ok, sym, ◌∙◌, ap, subst, arith}
use Rattle.std.specs.Prelude.{Option, Some, None, IfSome}
use Rattle.std.specs.Result.{result_ok}
use Rattle.std.proofs.lemmas.List.{append-nil}
use Rattle.record_disk.specs.Disk.{Trace, content, AllImages}
use Rattle.record_log.specs.Frames.{HoldsFrames, head_of, AreShort}
use Rattle.record_log.specs.Log.{StandsFor, MayHold, LogState}
use Rattle.record_log.proofs.Calls.{stands_hold}
use Rattle.record_log.proofs.Reading.{holds_closed}
use Rattle.repo_model.specs.Tables.{Tables}
use Rattle.row_tables.specs.Loading.{loading, built_up}
use Rattle.record_journal.specs.Journal.{acknowledged, tables_by, tables_of, LoadsTo, MayLoad, Fits, IsStanding, IsReady}
use Rattle.record_journal.proofs.Loads.{loads_held, pushed, after_change}

head_holds : (payloads : List (List ℕ)) → AreShort payloads → HoldsFrames payloads (head_of payloads)
head_holds payloads short = subst (HoldsFrames payloads) (append-nil (head_of payloads)) (holds_closed payloads [] short tt)

-- the acknowledged part of the file loads to what its frames build up
pub standing_loads : (gate : ℕ) (pending : Option (List ℕ)) (payloads : List (List ℕ)) (s : Trace) → StandsFor gate pending payloads s → loading (acknowledged gate pending (content s)) ≡ built_up payloads
standing_loads gate None payloads s rests = loads_held (content s) payloads (subst (HoldsFrames payloads) (sym rests.durable.reads) (holds_closed payloads (0 ∷ []) rests.short (inl (omega arith))))
standing_loads gate (Some p) payloads s tail =
    let front : take gate (content s) ≡ head_of payloads = ap (λ k. take k (content s)) tail.place ∙ (tail.all (content s) tail.image).front in
    loads_held (take gate (content s)) payloads (subst (HoldsFrames payloads) (sym front) (head_holds payloads tail.short))

pub standing_tables : (gate : ℕ) (pending : Option (List ℕ)) (s : Trace) (known : IsStanding gate pending s) → tables_by (Some s) gate pending ≡ Some known.tables
standing_tables gate pending s known = ap result_ok (standing_loads gate pending known.payloads s known.stands ∙ known.builds)

some_is : {A : Type 0} (x y : A) → Some x ≡ Some y → x ≡ y
some_is x y is = cc

pub same_tables : (gate : ℕ) (pending : Option (List ℕ)) (s : Trace) (known : IsStanding gate pending s) (t : Tables) → tables_by (Some s) gate pending ≡ Some t → known.tables ≡ t
same_tables gate pending s known t is = some_is known.tables t (sym (standing_tables gate pending s known) ∙ is)

-- an image that holds the frames loads to what they build up
pub lifted : (pending : Option (List ℕ)) (payloads : List (List ℕ)) (t : Tables) → built_up payloads ≡ Ok t → Fits t pending → (image : List ℕ) → MayHold payloads pending image → MayLoad t pending image
lifted None payloads t builds fits image holds = loads_held image payloads holds ∙ builds
lifted (Some p) payloads t builds fits image (inl holds) = inl (loads_held image payloads holds ∙ builds)
lifted (Some p) payloads t builds fits image (inr holds) = inr (fits.0, fits.1, loads_held image (payloads ++ p ∷ []) holds ∙ pushed 0 _ t _ payloads p builds (after_change t p fits.0 fits.1 fits.2))

pub standing_images : (gate : ℕ) (pending : Option (List ℕ)) (s : Trace) (known : IsStanding gate pending s) → AllImages (MayLoad known.tables pending) s
standing_images gate pending s known image is = lifted pending known.payloads known.tables known.builds known.fits image (stands_hold gate pending known.payloads s known.stands image is)

-- what loads to the tables may do so with any pending change
pub may_load : (t : Tables) (pending : Option (List ℕ)) (image : List ℕ) → LoadsTo t image → MayLoad t pending image
may_load t None image loads = loads
may_load t (Some p) image loads = inl loads

pub images_by : (a : Option Trace) (gate : ℕ) (pending : Option (List ℕ)) (t : Tables) → IfSome a (IsStanding gate pending) → tables_by a gate pending ≡ Some t → IfSome a (AllImages (MayLoad t pending))
images_by None gate pending t known is = tt
images_by (Some s) gate pending t known is = subst (λ u. AllImages (MayLoad u pending) s) (same_tables gate pending s known t is) (standing_images gate pending s known)

pub images_of : (journal : LogState) (t : Tables) → IsReady journal → tables_of journal ≡ Some t → IfSome journal.trace (AllImages (MayLoad t journal.pending))
images_of journal t ready is = images_by journal.trace journal.gate journal.pending t ready.standing is
