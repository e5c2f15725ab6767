-- The bytes that stores acknowledged outlast crashes: what was handed over was stored, each blob under a number of its own.
use native.Mathlib.Omega.{arith}
use Rattle.std.proofs.Common.{◌≡◌, ◌≤◌, inl, inr, ℕ, List, [], ◌∷◌, ◌++◌, map, Some, Option, refl, sym, subst, ap, ◌∙◌, append_assoc, option_map}
use Rattle.std.specs.Prelude.{IsTrue, length, take}
use Rattle.std.specs.List.{AllByRecursion}
use Rattle.outside.specs.Blobs.{Numbered, Shelf, standing_at}
use Rattle.outside.specs.Told.{IsWhereTold}
use Rattle.repo_model.specs.Command.{Command, put}
use Rattle.repo_model.specs.Data.{Blob}
use Rattle.repo_model.specs.Effect.{new_row}
use Rattle.repo_model.specs.History.{Entry}
use Rattle.repo_model.specs.Reply.{created}
use Rattle.repo_model.specs.Settings.{Settings}
use Rattle.repo_model.specs.State.{State}
use Rattle.repo_model.specs.Tables.{Tables, names_blob}
use Rattle.repo_laws.specs.Closed.{all_given_out}
use Rattle.repo_laws.specs.Described.{IsAmong}
use Rattle.repo_laws.proofs.HoldingLists.{all-split}
use Rattle.row_tables.specs.Crashes.{Unsettled}
use Rattle.blob_audit.specs.Damages.{print_of}
use Rattle.crash_laws.specs.Found.{HasStored, IsWholeWithout}
use Rattle.crash_laws.specs.Handed.{AllHandTold, AnyHands, HandOnce, HandsTold, IsTold, acknowledged_by, handed, left_without}
use Rattle.crash_laws.specs.Runs.{IsAnsweredBy}
use Rattle.crash_laws.specs.Crashes.{MayNotGo}
use Rattle.crash_laws.proofs.Handed.{acknowledged-at, all-acknowledged, others-kept, recorded-stored}
use Rattle.crash_laws.proofs.RunLaws.{finds-more}
use Rattle.repo_core.specs.Whole.{Whole}
use Rattle.repo_course.specs.Cleaning.{Store}
use Rattle.answer_laws.specs.Marked.{IsAt, Mark, entries_of, own_entry}
use Rattle.course_laws.specs.PutBodies.{AllPutBody, HasBody, PutsBody}
use Rattle.outside.specs.Moments.{Moments}
use Rattle.store_check.specs.Checking.{Recorded}
use Rattle.repo_run.specs.Begun.{Begins}
use Rattle.repo_run.specs.FirstConnection.{Makes}
use Rattle.turn_lock.specs.declared.view.Entry.{Entry as Call}
use Rattle.turn_seats.specs.Seated.{Sight, entry_of}
use Rattle.served_laws.specs.Kept.{BytesOutlast, BytesStand, KeepsBytes}
use Rattle.served_laws.specs.Crashed.{FindsSince, IsAnsweredStill, Made, OutlastsCrashes, RecordsOutlastCrashes, calls_made, entries_made, turns_made}
use Rattle.served_laws.proofs.Runs.{begun-stands}
use Rattle.served_laws.proofs.Crashed.{made-on}
use Rattle.served_laws.proofs.Swept.{swept-stored}

any-left : (n : ℕ) (xs ys : List Entry) → AnyHands n xs → AnyHands n (xs ++ ys)
any-left n [] ys any = absurd any
any-left n (x ∷ xs) ys (inl here) = inl here
any-left n (x ∷ xs) ys (inr any) = inr (any-left n xs ys any)

-- the first of some entries hand over each number once too
once-front : (xs ys : List Entry) → HandOnce (xs ++ ys) → HandOnce xs
once-front [] ys once = tt
once-front (x ∷ xs) ys once = (λ n here any. once.0 n here (any-left n xs ys any), once-front xs ys once.1)

-- what is found since some entries is of more
pub since-more : (settings : Settings) (start : State) (t : Tables) (old : Unsettled) (front later : List Made) (P Q : Tables → Type 0) → ((u : Tables) → P u → Q u)
    → FindsSince settings start t old P front later → FindsSince settings start t old Q front later
since-more settings start t old front later P Q more (between, inside) = (λ u found. more u (between u found), finds-more P Q _ _ more inside)

module _ (settings : Settings) (start : State) (t : Tables) (old : Unsettled) (shelf : Shelf) (those : Numbered) (told_so : shelf.blobs ≡ Some those) (made : List Made)
    (outlasts : OutlastsCrashes settings start t old made) (told : AllHandTold (entries_made made)) (once : HandOnce (entries_made made))
    (drawn : (n : ℕ) → IsTrue (names_blob n t) → AnyHands n (entries_made made) → ⊥) (stored : HasStored shelf t) where
  -- what is known of all holds of the first ones
  firsts : (some rest : List Made) → made ≡ some ++ rest → AllHandTold (entries_made some) × HandOnce (entries_made some) × ((n : ℕ) → IsTrue (names_blob n t) → AnyHands n (entries_made some) → ⊥)
  firsts some rest parts =
      let all : entries_made made ≡ entries_made some ++ entries_made rest = ap entries_made parts ∙ made-on settings some rest in (
        (all-split (λ (e : Entry). HandsTold e.command) (entries_made some) (entries_made rest) (subst AllHandTold all told)).0,
        once-front (entries_made some) (entries_made rest) (subst HandOnce all once),
        λ n named any. drawn n named (subst (AnyHands n) (sym all) (any-left n (entries_made some) (entries_made rest) any)),
      )

  never-damaged : (front later rest : List Made) → made ≡ front ++ (later ++ rest)
      → FindsSince settings start t old (IsWholeWithout (all_given_out (entries_made front)) (acknowledged_by shelf (entries_made (front ++ later)))) front later
  never-damaged front later rest parts =
      let es : List Entry = entries_made (front ++ later) in
      let (told_first, once_first, drawn_first) = firsts (front ++ later) rest (parts ∙ sym (append_assoc front later rest)) in
      outlasts.undamaged front later rest (acknowledged_by shelf es) parts (recorded-stored shelf t es drawn_first stored) (all-acknowledged shelf those es told_so told_first once_first)

  answered : (first later rest : List Made) (m : Made) (repo path : List ℕ) (n : ℕ) (blob : Blob) → made ≡ first ++ m ∷ (later ++ rest)
      → m.entry.command ≡ put repo path n blob → m.entry.reply ≡ created → MayNotGo (entries_made later) path
      → let so_far = entries_made (first ++ m ∷ later) in
      (bytes : List ℕ) × (blob.bytes ≡ Some bytes) × (blob.print ≡ print_of bytes)
      × FindsSince settings start t old (IsAnsweredBy settings (all_given_out so_far) (acknowledged_by shelf so_far) repo (new_row path blob m.entry.moment) bytes) (first ++ m ∷ []) later
  answered first later rest m repo path n blob parts is done stay =
      let so_far : List Made = first ++ m ∷ later in
      let (told_first, once_first, drawn_first) = firsts so_far rest (parts ∙ sym (append_assoc first (m ∷ later) rest)) in
      let each : entries_made so_far ≡ entries_made first ++ m.entry ∷ entries_made later = made-on settings first (m ∷ later) in
      let tells : HandsTold m.entry.command =
      (all-split (λ (e : Entry). HandsTold e.command) (entries_made first) (m.entry ∷ entries_made later) (subst AllHandTold each told_first)).1.0 in
      let is_told : IsTold blob = subst HandsTold is tells in
      let (bytes, bytes_are, print_is) = is_told in
      let at : standing_at blob.number (acknowledged_by shelf (entries_made so_far)) ≡ Some bytes =
      subst (λ (es : List Entry). standing_at blob.number (acknowledged_by shelf es) ≡ Some bytes) (sym each)
      (acknowledged-at shelf those (entries_made first) (entries_made later) m.entry blob bytes told_so (subst HandOnce each once_first) (ap handed is) bytes_are) in
      let row = new_row path blob m.entry.moment in
      let by : (u : Tables) → IsAnsweredStill settings so_far repo row u → IsAnsweredBy settings (all_given_out (entries_made so_far)) (acknowledged_by shelf (entries_made so_far)) repo row bytes u =
      λ u still. still.1 (acknowledged_by shelf (entries_made so_far)) bytes at in
      (bytes, bytes_are, print_is, since-more settings start t old (first ++ m ∷ []) later _ _ by (outlasts.created_files first later rest m repo path n blob parts is done stay))

  bytes-outlast : BytesOutlast settings start t old shelf made
  bytes-outlast = record { undamaged = never-damaged; created_files = answered }

-- a store that did as it was asked keeps enough
pub bytes-stand : (settings : Settings) (start : State) (t : Tables) (old : Unsettled) (shelf : Shelf) (made : List Made) → BytesOutlast settings start t old shelf made → BytesStand settings start t old shelf made
bytes-stand settings start t old shelf made outlast = record {
  undamaged = λ front later rest parts.
      let gone = all_given_out (entries_made front) in
      let es = entries_made (front ++ later) in
      since-more settings start t old front later _ _ (λ u whole. whole (left_without gone shelf es) (others-kept gone (acknowledged_by shelf es)))
      (outlast.undamaged front later rest parts);
  created_files = λ first later rest m repo path n blob parts is done stay.
      let so_far = entries_made (first ++ m ∷ later) in
      let gone = all_given_out so_far in
      let (bytes, bytes_are, print_is, answered_by) = outlast.created_files first later rest m repo path n blob parts is done stay in (
        bytes,
        bytes_are,
        print_is,
        since-more settings start t old (first ++ m ∷ []) later _ _ (λ u answered. answered (left_without gone shelf so_far) (others-kept gone (acknowledged_by shelf so_far))) answered_by,
      );
}

-- what is true of all entries is of each
pub all-among : (P : Entry → Type 0) (e : Entry) (entries : List Entry) → AllByRecursion P entries → IsAmong e entries → P e
all-among P e [] all among = absurd among
all-among P e (x ∷ xs) all (inl same) = subst P same all.0
all-among P e (x ∷ xs) all (inr more) = all-among P e xs all.1 more

-- the bytes of the blob of a `Put` are the body of the request in whose turn it is, all of which came
pub body-came : (count : ℕ) (came : List ℕ) (entries : List Entry) (e : Entry) (repo path : List ℕ) (n : ℕ) (blob : Blob) (bytes : List ℕ) → AllPutBody count came entries → IsAmong e entries
    → e.command ≡ put repo path n blob → blob.bytes ≡ Some bytes → (count ≤ length came) × (bytes ≡ take count came)
body-came count came entries e repo path n blob bytes all among is bytes_are =
    let has : HasBody count came blob = subst (PutsBody count came) is (all-among (λ (x : Entry). PutsBody count came x.command) e entries all among) in
    (has.whole, subst (λ (told : Option (List ℕ)). IsWhereTold told (take count came)) bytes_are has.bytes)

-- of a repository that was opened over records which told what they had, and a store which told what the start left of it
module _ (settings : Settings) (records : Recorded) (old cleared : Store) (clock : Option Moments) (core : Whole) (begins : Begins settings records old cleared clock core) where
  pub keeps-bytes : (records' : Recorded) (made : List Made) → RecordsOutlastCrashes settings records core records' made → AllHandTold (entries_made made) → HandOnce (entries_made made)
      → ((n : ℕ) → AnyHands n (entries_made made) → core.state.yard.next_draft ≤ n) → KeepsBytes settings records cleared.shelf core made
  keeps-bytes records' made outlasts told once drawn those before told_shelf told_before =
      let run = outlasts before told_before in
      let told_core : core.tables ≡ Some begins.tables = begins.tables_are ∙ ap (option_map (λ (t : Tables). begins.tables)) told_before in
      let same : begins.tables ≡ run.whole = let both : Some begins.tables ≡ Some run.whole = sym told_core ∙ run.told_core in cc in
      let stored : HasStored cleared.shelf run.whole =
      subst (HasStored cleared.shelf) same (swept-stored begins.tables begins.starts.stored old.shelf cleared.shelf those begins.starts.removed told_shelf begins.starts.whole) in
      let below : (n : ℕ) → IsTrue (names_blob n run.whole) → AnyHands n (entries_made made) → ⊥ =
      λ n named any.
      let under = (begun-stands settings records old cleared clock core begins).holds.drawn n (subst (λ (t : Tables). IsTrue (names_blob n t)) (sym same) named) in
      omega (arith, under, drawn n any) in
      (run.whole, run.told_core, bytes-outlast settings core.state run.whole core.unsettled cleared.shelf those told_shelf made run.outlasts told once below stored)

-- the calls of a history as its entries
pub entries-called : {C R : Type 0} (sight : Sight Whole C R) (log : List (Call C R Whole)) → entries_made (calls_made sight log) ≡ map (entry_of sight) log
entries-called sight [] = refl
entries-called sight (call ∷ log) = ap (λ (es : List Entry). entry_of sight call ∷ es) (entries-called sight log)

-- and turns of a core as theirs
pub entries-turned : (entries : List Entry) (old new : Whole) (makes : Makes old entries new) → entries_made (turns_made entries old new makes) ≡ entries
entries-turned [] old new makes = refl
entries-turned (e ∷ entries) old new (mid, turn, makes) = ap (λ (es : List Entry). e ∷ es) (entries-turned entries mid new makes)

-- an entry that stands among those that were made is one of them
split-at : (made : List Made) (xs ys : List Entry) (e : Entry) → entries_made made ≡ xs ++ e ∷ ys → (first later : List Made) × (m : Made) × (made ≡ first ++ m ∷ later) × (m.entry ≡ e)
split-at [] [] ys e is = absurd (cc)
split-at [] (x ∷ xs) ys e is = absurd (cc)
split-at (m ∷ made) [] ys e is = let same : m.entry ≡ e = cc in ([], made, m, refl, same)
split-at (x ∷ made) (y ∷ xs) ys e is =
    let more : entries_made made ≡ xs ++ e ∷ ys = cc in
    let (first, later, m, parts, same) = split-at made xs ys e more in
    (x ∷ first, later, m, ap (λ (ms : List Made). x ∷ ms) parts, same)

marks-on : (xs ys : List Mark) → entries_of (xs ++ ys) ≡ entries_of xs ++ entries_of ys
marks-on [] ys = refl
marks-on (x ∷ xs) ys = ap (λ (es : List Entry). x.entry ∷ es) (marks-on xs ys)

pub entries-at : (made : List Made) (history : List Mark) (front rest : List Entry) (e : Entry) → entries_of history ≡ entries_made made → IsAt history front e rest
    → (first later : List Made) × (m : Made) × (made ≡ first ++ m ∷ later) × (m.entry ≡ e)
entries-at made history front rest e same at =
    split-at made (entries_of at.before) (entries_of at.behind) e (sym same ∙ ap entries_of at.place ∙ marks-on at.before (own_entry e ∷ at.behind))
