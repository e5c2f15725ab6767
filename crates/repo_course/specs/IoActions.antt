-- The I/O actions of a course, what is done outside the machine between two commands: what each may come to, what is due then, what it needs
-- and gives, and what it does outside.
use Rattle.std.specs.Prelude.{◌≡◌, ◌≢◌, ℕ, ◌<◌, ◌≤◌, ◌*◌, min, ◌⊎◌, Bool, true, false, if◌then◌else◌, List, [], ◌++◌, length, Option, Some, None, IfSome, IsSome, IsTrue, Result, Ok, Err}
use Rattle.fetch_plan.specs.declared.Outcome.{Outcome as Came}
use Rattle.fetch_plan.specs.declared.Outcome.TheVariants as came
use Rattle.fetch_plan.specs.declared.Plan.{Plan}
use Rattle.outside.specs.declared.faults.BlobFault.{BlobFault}
use Rattle.outside.specs.declared.faults.BlobFault.TheVariants as unstored
use Rattle.repo_model.specs.Data.{Blob}
use Rattle.remote_fetch.specs.declared.contents.Content.{Content}
use Rattle.remote_fetch.specs.declared.contents.Content.TheVariants as content
use Rattle.remote_fetch.specs.declared.fetching.Checked.{Checked}
use Rattle.repo_model.specs.Command.{longest_landed, meets, unlist}
use Rattle.repo_course.specs.Answers.{file_answer}
use Rattle.repo_course.specs.declared.mode.ResponseMode.{ResponseMode}
use Rattle.repo_course.specs.declared.outcomes.CleanFault.{CleanFault}
use Rattle.repo_course.specs.declared.outcomes.CleanFault.TheVariants as clean
use Rattle.repo_course.specs.declared.outcomes.Cleaned.{Cleaned}
use Rattle.repo_course.specs.declared.outcomes.Continued.{Continued}
use Rattle.repo_course.specs.declared.outcomes.Continued.TheVariants as continued
use Rattle.repo_course.specs.declared.outcomes.End.{End}
use Rattle.repo_course.specs.declared.outcomes.End.TheVariants as stream
use Rattle.repo_course.specs.declared.outcomes.Sent.{Sent}
use Rattle.repo_course.specs.declared.outcomes.Sent.TheVariants as sent
use Rattle.repo_course.specs.declared.outcomes.Took.{Took}
use Rattle.repo_course.specs.declared.outcomes.Took.TheVariants as took
use Rattle.repo_course.specs.declared.response.Response.{Response}
use Rattle.repo_course.specs.declared.response.Response.TheVariants as response
use Rattle.std.specs.List.{AllByRecursion}
use Rattle.fetch_plan.specs.declared.Outcome.TheVariants.{Got}
use Rattle.mvn_digest.specs.Digests.{digests_of}
use Rattle.mvn_metadata.specs.Written.{text}
use Rattle.remote_fetch.specs.declared.contents.Content.TheVariants.{File, Doc}
use Rattle.repo_model.specs.Settings.{Settings}
use Rattle.repo_model.specs.Turn.{longest_fetched}
use Rattle.outside.specs.Blobs.{Shelf, with_blob, without_bytes}
use Rattle.outside.specs.Faults.{Rose}
use Rattle.outside.specs.Told.{in_front, IsAtEnd, IsWhereTold}
use Rattle.outside_remote.specs.Exchanges.{Sees}
use Rattle.remote_fetch.specs.Exchanged.{Reaches}
use Rattle.remote_fetch.specs.Fetching.{IsFetched}
use Rattle.http_wire.specs.Answer.{continue_bytes, shown}
use Rattle.repo_model.specs.declared.print.Print.{Print}
use Rattle.repo_model.specs.History.{Entry}
use Rattle.repo_course.specs.Cleaning.{Passes, Store}
use Rattle.repo_course.specs.Outside.{Outside, store_of, with_store, writes, IsFrontOf, ReadsOn, print_of}

-- what comes of taking a file's body: a stored blob, or none
abbrev pub Stored : Type 0
Stored = Result Blob Took

-- what comes of reading a small body: its bytes, or none
abbrev pub Body : Type 0
Body = Result (List ℕ) Took

-- what comes of a pass over the repositories
abbrev pub Pass : Type 0
Pass = Result Cleaned CleanFault

-- what comes of a fetch; nothing where memory ran out
abbrev pub Fetch : Type 0
Fetch = Option (Came Content)

-- what comes of storing a file that was fetched: a stored blob, or none
abbrev pub Kept : Type 0
Kept = Result Blob BlobFault

-- what is done outside the machine between two commands
pub data IoAction : Type 0 where
  -- `100 Continue` is written
  invite : IoAction
  -- the body of a length is taken and stored under a draft
  take_body : (draft length : ℕ) → IoAction
  -- the body of a length is read
  read_body : (length : ℕ) → IoAction
  -- the head of the answer with a file is written, and the bytes of its blob where it is not the head alone
  send_file : Blob → ResponseMode → IoAction
  -- a pass over these repositories
  clean_all : (repos : List (List ℕ)) → IoAction
  -- a file or a document is fetched of a remote
  fetch : Plan → IoAction
  -- a file that was fetched is stored under a draft
  store_fetched : (draft : ℕ) → Checked → IoAction

-- what it may come to
abbrev pub Outcome : IoAction → Type 0
Outcome invite = Continued
Outcome (take_body number count) = Stored
Outcome (read_body count) = Body
Outcome (send_file blob mode) = Sent
Outcome (clean_all repos) = Pass
Outcome (fetch plan) = Fetch
Outcome (store_fetched number checked) = Kept

-- ---- what is due after an outcome

-- what ends a course: an answer, or none, and then the stream ends so or goes on
pub data Close : Type 0 where
  speaks : Response → Close
  rests : Option End → Close

-- how the stream ends after an answer of this mode, if it does
abbrev pub end_of : ResponseMode → Option End
end_of mode = if mode.close then Some stream.Closed else None

-- what is due for a body that was not taken, a file that was sent or not, and a pass
abbrev pub of_fault : Took → Close
of_fault took.Torn = rests (Some stream.TornRequest)
of_fault took.SourceFault = rests (Some stream.SourceFault)
of_fault (took.BlobFault unread) = speaks response.BlobFault
of_fault took.NoMemory = speaks response.NoMemory

abbrev pub of_sent : ResponseMode → Sent → Close
of_sent mode sent.Whole = rests (end_of mode)
of_sent mode sent.BlobFault = speaks response.BlobFault
of_sent mode (sent.BlobDiffers recorded found) = speaks (response.BlobDiffers recorded found)
of_sent mode sent.CutFault = rests (Some stream.Closed)
of_sent mode (sent.CutDiffers recorded found) = rests (Some stream.Closed)
of_sent mode sent.SinkFault = rests (Some stream.SinkFault)
of_sent mode sent.NoMemory = speaks response.NoMemory

abbrev pub of_pass : Pass → Close
of_pass (Ok pass) = speaks (response.Cleaned pass.unlisted pass.removed)
of_pass (Err clean.StoreFault) = speaks response.StoreFault
of_pass (Err clean.BlobFault) = speaks response.BlobFault
of_pass (Err clean.NoMemory) = speaks response.NoMemory

-- what is due for a fetched file that was not stored
abbrev pub of_store : BlobFault → Close
of_store unstored.Failed = speaks response.BlobFault
of_store unstored.NoMemory = speaks response.NoMemory

-- what follows an outcome: the course goes on, or by what the bytes of a small body say, or it ends by this
pub data Sequel : Type 0 where
  goes_on : Sequel
  by_its_text : List ℕ → Sequel
  ends_by : Close → Sequel

-- a file that was fetched under no draft counts as out of memory
abbrev pub drawn_for : Option ℕ → Sequel
drawn_for None = ends_by (speaks response.NoMemory)
drawn_for (Some n) = goes_on

abbrev pub draft_after_fetch : Fetch → Option ℕ → Sequel
draft_after_fetch None under = ends_by (speaks response.NoMemory)
draft_after_fetch (Some (came.Got (content.File checked))) under = drawn_for under
draft_after_fetch (Some outcome) under = goes_on

-- An I/O action that fails is answered, or ends the stream, and so does what comes last. The arms are written out: what the laws say of an
-- outcome follows from this table.
abbrev pub sequel : (io_action : IoAction) → Outcome io_action → Sequel
sequel invite continued.Written = goes_on
sequel invite continued.SinkFault = ends_by (rests (Some stream.SinkFault))
sequel (take_body draft count) (Ok blob) = goes_on
sequel (take_body draft count) (Err fault) = ends_by (of_fault fault)
sequel (read_body count) (Ok bytes) = by_its_text bytes
sequel (read_body count) (Err fault) = ends_by (of_fault fault)
sequel (send_file blob mode) result = ends_by (of_sent mode result)
sequel (clean_all repos) pass = ends_by (of_pass pass)
sequel (fetch plan) outcome = draft_after_fetch outcome plan.draft
sequel (store_fetched draft checked) (Ok blob) = goes_on
sequel (store_fetched draft checked) (Err why) = ends_by (of_store why)

-- ---- what is needed, and what is given

-- a body of this length, stored under this draft
abbrev pub IsStored : ℕ → ℕ → Stored → Type 0
IsStored draft count (Ok blob) = (blob.number ≡ draft) × (blob.print.length ≡ count)
IsStored draft count (Err fault) = Unit {0}

-- the digests are those of the bytes
abbrev pub IsDigested : Checked → Type 0
IsDigested checked = checked.digests ≡ digests_of checked.bytes

-- what a plan's fetch gives: a file within the limit where the plan has a draft, else a document that may land
abbrev pub IsOfPlan : Plan → Fetch → Type 0
IsOfPlan plan (Some (Got (File checked))) = IsSome plan.draft × IsDigested checked × (length checked.bytes ≤ plan.limit)
IsOfPlan plan (Some (Got (Doc document))) = (plan.draft ≡ None) × (length (text document) ≤ longest_landed)
IsOfPlan plan came = Unit {0}

-- these bytes, stored under this draft
abbrev pub IsKept : ℕ → Checked → Kept → Type 0
IsKept draft checked (Ok blob) = (blob.number ≡ draft) × (blob.print.length ≡ length checked.bytes)
IsKept draft checked (Err fault) = Unit {0}

-- each of these repositories can be asked to unlist
abbrev pub MeetAll : Settings → List (List ℕ) → Type 0
MeetAll settings repos = AllByRecursion (λ repo. IsTrue (meets settings (unlist repo))) repos

-- what an I/O action needs, so that it can be done and the commands that it asks can be asked
abbrev pub Needs : Settings → IoAction → Type 0
Needs settings invite = Unit {0}
Needs settings (take_body draft count) = Unit {0}
Needs settings (read_body count) = Unit {0}
Needs settings (send_file blob mode) = Unit {0}
Needs settings (clean_all repos) = MeetAll settings repos
Needs settings (fetch plan) = plan.limit ≤ longest_fetched
Needs settings (store_fetched draft checked) = IsDigested checked

-- what holds of all that it comes to
abbrev pub Gives : (io_action : IoAction) → Outcome io_action → Type 0
Gives invite result = Unit {0}
Gives (take_body draft count) stored = IsStored draft count stored
Gives (read_body count) body = Unit {0}
Gives (send_file blob mode) result = Unit {0}
Gives (clean_all repos) pass = Unit {0}
Gives (fetch plan) came = IsOfPlan plan came
Gives (store_fetched draft checked) kept = IsKept draft checked kept

-- ---- what is done outside

-- The next `count` bytes were used as a body.
abbrev pub ReadsBody : ℕ → List ℕ → Outside → Outside → Type 0
ReadsBody count body old new =
    (rest : Option (List ℕ)) × (length body ≡ count) × (old.input ≡ in_front body rest) × (new ≡ record old { input = rest })

-- What comes of reading a body. A torn body is read to the end of the stream; of one that the source failed to give, less than
-- the whole is gone.
abbrev pub Reads : ℕ → Body → Outside → Outside → Type 0
Reads count (Ok body) old new = ReadsBody count body old new
Reads count (Err took.Torn) old new = IfSome old.input (λ bytes. length bytes < count) × ReadsOn old new × IsAtEnd new.input
Reads count (Err took.SourceFault) old new =
    (faults : ℕ) × Rose old.read_faults faults × ReadsOn (record old { read_faults = faults }) new
    × ((gone : List ℕ) × (length gone < count) × (old.input ≡ in_front gone new.input))
Reads count (Err (took.BlobFault unread)) old new = ⊥
Reads count (Err took.NoMemory) old new = (new ≡ old) ⊎ ((body : List ℕ) × ReadsBody count body old new)

-- This front of what is still to be read was used, and nothing else.
abbrev pub UsesFront : List ℕ → Outside → Outside → Type 0
UsesFront gone old new = (rest : Option (List ℕ)) × (old.input ≡ in_front gone rest) × (new ≡ record old { input = rest })

-- the first piece of a body of this length was used, a whole one or all of it
abbrev pub HasFirst : ℕ → List ℕ → Type 0
HasFirst count gone = min 65536 count ≤ length gone

-- of a body of this length, less than all was used, or all
abbrev pub IsUsed : (unread : Bool) → ℕ → List ℕ → Type 0
IsUsed true count gone = length gone < count
IsUsed false count gone = length gone ≡ count

-- A body does not come whole, of which this front was used: it is torn, or the source fails.
abbrev pub Breaks : ℕ → List ℕ → Took → Outside → Outside → Type 0
Breaks count gone took.Torn old new = (length gone < count) × UsesFront gone old new × IsAtEnd new.input
Breaks count gone took.SourceFault old new =
    (faults : ℕ) × Rose old.read_faults faults × (length gone < count) × UsesFront gone (record old { read_faults = faults }) new
Breaks count gone fault old new = ⊥

-- What comes of a file's body that is not taken, of which this front was used. The blobs fail only after its first piece, and it
-- is told whether some of it is unread then.
abbrev pub Fails : ℕ → List ℕ → Took → Outside → Outside → Type 0
Fails count gone (took.BlobFault unread) old new =
    (faults : ℕ) × Rose old.blob_faults faults × HasFirst count gone × IsUsed unread count gone
    × UsesFront gone (record old { blob_faults = faults }) new
Fails count gone took.NoMemory old new = (length gone ≤ count) × UsesFront gone old new
Fails count gone fault old new = Breaks count gone fault old new

-- the blobs as they were, or, where the body's first piece was used, without the bytes of its draft
abbrev pub IsCleared : ℕ → ℕ → List ℕ → Shelf → Shelf → Type 0
IsCleared draft count gone old new = (new ≡ old) ⊎ (HasFirst count gone × (new ≡ without_bytes draft old))

-- the body stands under its draft, in place of what stood there
abbrev pub with_body : ℕ → List ℕ → Shelf → Shelf
with_body draft body shelf = with_blob draft body (without_bytes draft shelf)

-- What comes of taking a body: it stands under its draft. Where the blobs tell their bytes, the stored one tells the body's. Of one
-- that is not taken no blob stands.
abbrev pub Takes : Type 0 → ℕ → ℕ → Stored → Outside → Outside → Type 0
Takes tells draft count (Ok blob) old new =
    (body : List ℕ) × ReadsBody count body (record old { shelf = with_body draft body old.shelf }) new
    × (blob.number ≡ draft) × (blob.print ≡ print_of body) × IsWhereTold blob.bytes body × (tells → IsSome blob.bytes)
Takes tells draft count (Err fault) old new =
    (gone : List ℕ) × (shelf : Shelf) × IsCleared draft count gone old.shelf shelf × Fails count gone fault (record old { shelf = shelf }) new

-- What comes of a fetch: what the answers of the remote come to. Where memory ran out for it at most three exchanges were made, and
-- where it was wanted for what follows, the fetch was made.
abbrev pub Fetches : Plan → Fetch → Outside → Outside → Type 0
Fetches plan (Some outcome) old new = (remote : Sees) × IsFetched plan outcome old.remote remote × (new ≡ record old { remote = remote })
Fetches plan None old new =
    (remote : Sees) × (Reaches 3 old.remote remote ⊎ ((outcome : Came Content) × IsFetched plan outcome old.remote remote))
    × (new ≡ record old { remote = remote })

-- the blobs as they were, or without the bytes of a draft under which a blob was begun
abbrev pub IsBegun : ℕ → Shelf → Shelf → Type 0
IsBegun draft old new = (new ≡ old) ⊎ (new ≡ without_bytes draft old)

-- What comes of storing bytes that were fetched: they stand under the draft, and where the blobs tell their bytes, the stored one tells
-- them. Of bytes that are not stored no blob stands.
abbrev pub Stores : Type 0 → ℕ → Checked → Kept → Outside → Outside → Type 0
Stores tells draft checked (Ok blob) old new =
    (new ≡ record old { shelf = with_body draft checked.bytes old.shelf })
    × (blob.number ≡ draft) × (blob.print ≡ print_of checked.bytes) × IsWhereTold blob.bytes checked.bytes × (tells → IsSome blob.bytes)
Stores tells draft checked (Err unstored.Failed) old new =
    (faults : ℕ) × (shelf : Shelf) × Rose old.blob_faults faults × IsBegun draft old.shelf shelf
    × (new ≡ record old { shelf = shelf; blob_faults = faults })
Stores tells draft checked (Err unstored.NoMemory) old new =
    (shelf : Shelf) × IsBegun draft old.shelf shelf × (new ≡ record old { shelf = shelf })

-- the bytes have the fingerprint that was recorded of the blob, and are its own where these are told
abbrev pub IsContentOf : Blob → List ℕ → Type 0
IsContentOf blob bytes = IsWhereTold blob.bytes bytes × (blob.print ≡ print_of bytes)

-- Bytes of another fingerprint than the recorded one were found, which is only where the blob doesn't tell its own.
abbrev pub IsOtherContent : Blob → Print → Print → Type 0
IsOtherContent blob recorded found =
    (blob.bytes ≡ None) × (recorded ≡ blob.print) × ((bytes : List ℕ) × (found ≡ print_of bytes)) × (found ≢ recorded)

-- the blob's bytes; or, where it does not tell them, some that were found, fewer than were recorded
abbrev pub IsContentSoFar : Blob → List ℕ → Type 0
IsContentSoFar blob bytes = IsContentOf blob bytes ⊎ ((blob.bytes ≡ None) × (length bytes < blob.print.length))

-- so many bytes are whole pieces
abbrev pub ArePieces : ℕ → Type 0
ArePieces count = (pieces : ℕ) × (count ≡ 65536 * pieces)

-- A part was written of bytes that were found: whole pieces, at least one, and fewer bytes than were recorded of the blob.
abbrev pub IsCut : Blob → (bytes part : List ℕ) → Type 0
IsCut blob bytes part = IsFrontOf part bytes × (0 < length part) × (length part < blob.print.length) × ArePieces (length part)

-- What comes of sending a file after a head. After the head it is written piece by piece: a fault of the blobs then, or another
-- content, leaves it cut.
abbrev pub Sends : Blob → List ℕ → Sent → Outside → Outside → Type 0
Sends blob head sent.Whole old new =
    (bytes : List ℕ) × IsContentOf blob bytes × (new ≡ writes (head ++ bytes) old)
Sends blob head sent.BlobFault old new =
    (faults : ℕ) × Rose old.blob_faults faults × (new ≡ record old { blob_faults = faults })
Sends blob head (sent.BlobDiffers recorded found) old new = IsOtherContent blob recorded found × (new ≡ old)
Sends blob head sent.CutFault old new =
    (faults : ℕ) × (bytes part : List ℕ) × Rose old.blob_faults faults × IsWhereTold blob.bytes bytes × IsCut blob bytes part
    × (new ≡ writes (head ++ part) (record old { blob_faults = faults }))
Sends blob head (sent.CutDiffers recorded found) old new =
    (bytes part : List ℕ) × IsOtherContent blob recorded found × (found ≡ print_of bytes) × IsCut blob bytes part
    × (new ≡ writes (head ++ part) old)
Sends blob head sent.SinkFault old new =
    (faults : ℕ) × (bytes part : List ℕ) × Rose old.write_faults faults × IsContentSoFar blob bytes
    × IsFrontOf part (head ++ bytes) × (new ≡ writes part (record old { write_faults = faults }))
Sends blob head sent.NoMemory old new = new ≡ old

-- What comes of writing the head of a file's answer alone.
abbrev pub SendsHead : List ℕ → Sent → Outside → Outside → Type 0
SendsHead head sent.Whole old new = new ≡ writes head old
SendsHead head sent.BlobFault old new = ⊥
SendsHead head (sent.BlobDiffers recorded found) old new = ⊥
SendsHead head sent.CutFault old new = ⊥
SendsHead head (sent.CutDiffers recorded found) old new = ⊥
SendsHead head sent.SinkFault old new =
    (faults : ℕ) × (part : List ℕ) × Rose old.write_faults faults × IsFrontOf part head
    × (new ≡ writes part (record old { write_faults = faults }))
SendsHead head sent.NoMemory old new = new ≡ old

abbrev pub SendsAnswer : Bool → Blob → List ℕ → Sent → Outside → Outside → Type 0
SendsAnswer true blob head result old new = SendsHead head result old new
SendsAnswer false blob head result old new = Sends blob head result old new

-- What comes of writing `100 Continue`.
abbrev pub Continues : Continued → Outside → Outside → Type 0
Continues continued.Written old new = new ≡ writes continue_bytes old
Continues continued.SinkFault old new =
    (faults : ℕ) × (part : List ℕ) × Rose old.write_faults faults × IsFrontOf part continue_bytes
    × (new ≡ writes part (record old { write_faults = faults }))

-- What an I/O action does outside, and the entries of the commands that it asks, of which only a pass has some.
abbrev pub Does : Type 0 → (io_action : IoAction) → Outcome io_action → List Entry → Outside → Outside → Type 0
Does tells invite result entries old new = (entries ≡ []) × Continues result old new
Does tells (take_body draft count) stored entries old new = (entries ≡ []) × Takes tells draft count stored old new
Does tells (read_body count) body entries old new = (entries ≡ []) × Reads count body old new
Does tells (send_file blob mode) result entries old new =
    (entries ≡ []) × SendsAnswer mode.head_only blob (shown (file_answer blob mode)) result old new
Does tells (clean_all repos) pass entries old new = (kept : Store) × Passes repos entries (store_of old) kept pass × (new ≡ with_store kept old)
Does tells (fetch plan) came entries old new = (entries ≡ []) × Fetches plan came old new
Does tells (store_fetched draft checked) kept entries old new = (entries ≡ []) × Stores tells draft checked kept old new
