-- How a GET or HEAD of a path is answered on the wire, by the reply to its look.
use Rattle.std.specs.Prelude.{◌≡◌, ℕ, Bool, true, false, List, [], ◌∷◌, ◌++◌, Option, Some, Ok}
use Rattle.outside.specs.Faults.{Rose}
use Rattle.outside.specs.Told.{IsWhereTold}
use Rattle.http_wire.specs.Answer.{shown}
use Rattle.http_wire.specs.Head.{Head}
use Rattle.repo_model.specs.Command.{look}
use Rattle.repo_model.specs.declared.print.Print.{Print}
use Rattle.repo_model.specs.Data.{Blob}
use Rattle.repo_model.specs.History.{Entry}
use Rattle.repo_model.specs.Reply.{Reply, file, fetches}
use Rattle.repo_model.specs.Settings.{Settings}
use Rattle.repo_routes.specs.Intent.{Judged, reads}
use Rattle.repo_routes.specs.Judge.{judge}
use Rattle.repo_routes.specs.declared.intent.Sort.{Sort}
use Rattle.repo_course.specs.Answers.{answer_of, file_answer, memory_answer}
use Rattle.repo_course.specs.Course.{end_of, mode_for, response_of}
use Rattle.repo_course.specs.Serving.{Begins, IsContentSoFar, IsCut, IsFrontOf, IsOtherContent, IsWhole, Outside, ReadsOn, Says, print_of, writes}
use Rattle.repo_course.specs.declared.mode.ResponseMode.{ResponseMode}
use Rattle.repo_course.specs.declared.outcomes.End.{End}
use Rattle.repo_course.specs.declared.outcomes.End.TheVariants as stream
use Rattle.repo_course.specs.declared.response.Response.{Response}
use Rattle.repo_course.specs.declared.response.Response.TheVariants as response
use Rattle.course_laws.specs.Granted.{AreBytesOf, file_shown}

-- this is answered; or out of memory is, or a front of the one or the other is written where the count of the sink rose
abbrev pub ShowsResponse : ResponseMode → Response → Outside → Outside → Option End → Type 0
ShowsResponse mode answer old new end = Says (answer_of answer mode) (memory_answer mode.head_only) (end_of mode) old new end

-- running out of memory is answered, and the stream ends; or a front of that is written where the count of the sink rose
abbrev pub ShowsMemory : Bool → Outside → Outside → Option End → Type 0
ShowsMemory head_only old new end = Says (memory_answer head_only) (memory_answer head_only) (Some stream.Closed) old new end

-- these are bytes of the blob: those that it tells, and, unless the head alone is sent, of its recorded length and digests, or, of a
-- blob that does not tell its bytes, fewer than were recorded
abbrev pub AreSomeBytesOf : ResponseMode → Blob → List ℕ → Type 0
AreSomeBytesOf mode blob bytes = IsWhereTold blob.bytes bytes × (mode.head_only ≡ false → IsContentSoFar blob bytes)

-- What is seen of the answer with a file: 200 with its length and both checksums and its bytes, whole, which have these. Or the
-- blobs did not give them, whose count rose then, and 503 `blob-fault` is answered, never to a HEAD; or the blob, which does not
-- tell its bytes, has others than were recorded, and 503 `blob-differs` is answered, never to a HEAD; or the one or the other came
-- after the head and a front of the file's bytes, or of those that were found, and the stream ends; or memory ran out; or the
-- sink took a front.
pub data ShowsFile (mode : ResponseMode) (blob : Blob) (old new : Outside) (end : Option End) : Type 0 where
  whole : (bytes : List ℕ) → AreBytesOf mode blob bytes → new ≡ writes (file_shown mode blob bytes) old → end ≡ end_of mode
      → ShowsFile mode blob old new end
  blob_fault : (faults : ℕ) → mode.head_only ≡ false → Rose old.blob_faults faults
      → ShowsResponse mode response.BlobFault (record old { blob_faults = faults }) new end → ShowsFile mode blob old new end
  blob_differs : (recorded found : Print) → mode.head_only ≡ false → IsOtherContent blob recorded found
      → ShowsResponse mode (response.BlobDiffers recorded found) old new end → ShowsFile mode blob old new end
  cut_by_fault : (faults : ℕ) (bytes part : List ℕ) → mode.head_only ≡ false → Rose old.blob_faults faults → IsWhereTold blob.bytes bytes
      → IsCut blob bytes part → new ≡ writes (shown (file_answer blob mode) ++ part) (record old { blob_faults = faults })
      → end ≡ Some stream.Closed → ShowsFile mode blob old new end
  cut_by_other : (recorded found : Print) (bytes part : List ℕ) → mode.head_only ≡ false → IsOtherContent blob recorded found
      → found ≡ print_of bytes → IsCut blob bytes part → new ≡ writes (shown (file_answer blob mode) ++ part) old
      → end ≡ Some stream.Closed → ShowsFile mode blob old new end
  starved : ShowsMemory mode.head_only old new end → ShowsFile mode blob old new end
  cut : (faults : ℕ) (bytes part : List ℕ) → Rose old.write_faults faults → AreSomeBytesOf mode blob bytes
      → IsFrontOf part (file_shown mode blob bytes) → new ≡ writes part (record old { write_faults = faults })
      → end ≡ Some stream.SinkFault → ShowsFile mode blob old new end

-- what is told by a reply, in its words
abbrev pub ShowsTold : ResponseMode → Response → Outside → Outside → Option End → Type 0
ShowsTold mode response.NoMemory old new end = ShowsMemory mode.head_only old new end
ShowsTold mode answer old new end = ShowsResponse mode answer old new end

-- What is seen of the answer by the reply to the look: the file that it lends, or what it is answered by. After a plan something is
-- fetched, and the answer is by what comes of that.
abbrev pub ShowsReply : Reply → ResponseMode → Outside → Outside → Option End → Type 0
ShowsReply (file lease blob) mode old new end = ShowsFile mode blob old new end
ShowsReply (fetches plan) mode old new end = Unit {0}
ShowsReply reply mode old new end = ShowsTold mode (response_of reply) old new end

-- A GET or HEAD of the path is read, all that is seen after its head is this, and of the input no more is used.
pub record ReadShows (settings : Settings) (last : Bool) (repo path : List ℕ) (Shows : ResponseMode → Outside → Outside → Option End → Type 0)
    (old new : Outside) (end : Option End) : Type 0 where
  pub head : Head
  pub left : Option (List ℕ)
  pub request : Judged
  pub comes : Begins old.input (IsWhole head left)
  pub judged : judge settings head ≡ Ok request
  pub sort : Sort
  pub asks : request.intent ≡ reads repo path sort
  pub shows : Shows (mode_for request last) (record old { input = left }) new end

-- What comes of such a request, after whose head this is left of the input: it looks first at the path, and all that is seen is
-- this for that entry. Or it asks nothing: memory ran out for its head, which is answered by a head alone to HEAD only, or
-- the source failed before it was read.
pub data IsLookedUp (repo path : List ℕ) (Shows : Entry → ResponseMode → Outside → Outside → Option End → Type 0) (mode : ResponseMode) (left : List ℕ)
    (entries : List Entry) (old new : Outside) (end : Option End) : Type 0 where
  looked : (e : Entry) (more : List Entry) → entries ≡ e ∷ more → e.command ≡ look repo path []
      → Shows e mode (record old { input = Some left }) new end → IsLookedUp repo path Shows mode left entries old new end
  unread : (mid : Outside) (head_only : Bool) → (head_only ≡ true → mode.head_only ≡ true) → entries ≡ [] → ReadsOn old mid → ShowsMemory head_only mid new end
      → IsLookedUp repo path Shows mode left entries old new end
  failed : entries ≡ [] → Rose old.read_faults new.read_faults → new.output ≡ old.output → end ≡ Some stream.SourceFault
      → IsLookedUp repo path Shows mode left entries old new end
