-- How a request is answered that nothing refuses, neither its head, nor a reply to its commands, nor what its body says.
use Rattle.std.specs.Prelude.{◌≡◌, ◌⊎◌, ℕ, zero, suc, ◌≤◌, Bool, true, false, ◌&&◌, IsTrue, if◌then◌else◌, List, [], ◌∷◌, ◌++◌, length, take, drop, Option, Some, None, Ok}
use Rattle.std.specs.List.{AllByRecursion}
use Rattle.outside.specs.Blobs.{Shelf}
use Rattle.outside.specs.Told.{IsWhereTold, behind}
use Rattle.outside_remote.specs.Exchanges.{Sees}
use Rattle.http_wire.specs.Answer.{continue_bytes, shown}
use Rattle.http_wire.specs.declared.answers.Status.{Status}
use Rattle.http_wire.specs.declared.answers.Status.TheVariants as status_code
use Rattle.repo_model.specs.Command.{Command, look, done, drop_draft}
use Rattle.repo_model.specs.declared.print.Print.{Print}
use Rattle.repo_model.specs.Data.{Blob}
use Rattle.repo_model.specs.History.{Entry}
use Rattle.repo_model.specs.Reply.{Reply, can_get, fetches, blocked, negative, never_asked, landed, file, text, doc, missed, given_back, kind_refused, draft, no_draft, taken, same, relisted, created, not_there, differs as digest_differs, agreed, noted, dropped, no_session, sessions_full, opened, session_full, staged, offends, missing_pom, ended, unlisted, collected, finds, spent, no_memory, store_fault}
use Rattle.repo_routes.specs.Intent.{Intent, Judged, cleans as cleans_all}
use Rattle.repo_course.specs.Answers.{answer_of, file_answer, full_answer, memory_answer}
use Rattle.repo_course.specs.Course.{Close, Course, IoAction, Outcome, asks, does, says, stops, speaks, rests, send_file, end_of, mode_for, of_pass}
use Rattle.repo_course.specs.Serving.{IsCut, IsOtherContent, Outside, print_of, writes}
use Rattle.repo_course.specs.declared.mode.ResponseMode.{ResponseMode}
use Rattle.repo_course.specs.declared.outcomes.End.{End}
use Rattle.repo_course.specs.declared.outcomes.End.TheVariants as stream
use Rattle.repo_course.specs.declared.outcomes.Sent.TheVariants as sending
use Rattle.repo_course.specs.declared.response.Response.{Response}
use Rattle.repo_course.specs.declared.response.Response.TheVariants.{BlobDiffers}
use Rattle.course_laws.specs.Duties.{IsReady, MayAsk, MayDo, Rounds, Stand, at_first, body_length, due_after, for_text, lent_after, rounds_after, rounds_for, stand_after, stand_done}
use Rattle.course_laws.specs.Faultless.{done_by}
use Rattle.repo_course.specs.IoActions.{Sequel, goes_on, by_its_text, ends_by, sequel}
use Rattle.repo_course.specs.declared.outcomes.Sent.{Sent}

-- 200 or 201
abbrev pub IsSuccess : Status → Type 0
IsSuccess status_code.Ok = Unit {0}
IsSuccess status_code.Created = Unit {0}
IsSuccess _ = ⊥

-- the reply refuses nothing, no fault came, and no memory ran out; a session that has ended says how
abbrev pub is_granted : Reply → Bool
is_granted (file lease blob) = true
is_granted (text bytes) = true
is_granted (doc bytes digests) = true
is_granted missed = false
is_granted given_back = true
is_granted kind_refused = false
is_granted (draft n) = true
is_granted no_draft = false
is_granted (taken kept given) = false
is_granted same = true
is_granted relisted = true
is_granted created = true
is_granted not_there = false
is_granted (digest_differs said kept) = false
is_granted agreed = true
is_granted noted = true
is_granted dropped = true
is_granted no_session = false
is_granted sessions_full = false
is_granted (opened n) = true
is_granted session_full = false
is_granted staged = true
is_granted (offends path kept given) = false
is_granted (missing_pom directory) = false
is_granted (ended result) = true
is_granted (unlisted count) = true
is_granted (collected expired blobs) = true
is_granted (finds finding) = true
is_granted spent = false
is_granted no_memory = false
is_granted store_fault = false
is_granted (fetches plan) = true
is_granted blocked = false
is_granted negative = false
is_granted never_asked = false
is_granted landed = true

-- The command gets what it asks for. To give back is never refused.
abbrev pub Grants : Command → Reply → Type 0
Grants (done lease) reply = Unit {0}
Grants (drop_draft n) reply = Unit {0}
Grants command reply = IsTrue (can_get command reply && is_granted reply)

-- each command gets that, or memory ran out for it
abbrev pub AllGranted : List Entry → Type 0
AllGranted entries = AllByRecursion (λ (e : Entry). Grants e.command e.reply ⊎ (e.reply ≡ no_memory)) entries

-- a plan comes only where a fetch may still come
abbrev pub IsMore : ℕ → Type 0
IsMore zero = ⊥
IsMore (suc n) = Unit {0}

abbrev pub HasRound : Rounds → Command → Reply → Type 0
HasRound r (look repo path tried) (fetches plan) = IsMore r.left
HasRound r command reply = Unit {0}

-- nothing ends by it, and a body is refused by nothing that it says; or it is answered by 200 or 201
abbrev pub GoesBy : (List ℕ → Option Close) → Sequel → Type 0
GoesBy by_text goes_on = Unit {0}
GoesBy by_text (by_its_text bytes) = by_text bytes ≡ None
GoesBy by_text (ends_by (speaks said)) = IsSuccess (full_answer said).status
GoesBy by_text (ends_by (rests end)) = ⊥

-- it is sent whole, or its blob has another content than was recorded
abbrev pub IsWellSent : Sent → Type 0
IsWellSent sending.Whole = Unit {0}
IsWellSent sending.BlobFault = ⊥
IsWellSent (sending.BlobDiffers recorded found) = Unit {0}
IsWellSent sending.CutFault = ⊥
IsWellSent (sending.CutDiffers recorded found) = Unit {0}
IsWellSent sending.SinkFault = ⊥
IsWellSent sending.NoMemory = ⊥

-- the I/O action does not fail, by what follows its outcome; after a file that is sent the course ends, so that is told by its outcome
abbrev pub Goes : (List ℕ → Option Close) → (io_action : IoAction) → Outcome io_action → Type 0
Goes by_text (send_file blob own) result = IsWellSent result
Goes by_text io_action outcome = GoesBy by_text (sequel io_action outcome)

-- whether the last file that was sent is cut
abbrev pub cut_by : (io_action : IoAction) → Outcome io_action → Bool → Bool
cut_by (send_file blob own) (sending.CutDiffers recorded found) is_cut = true
cut_by (send_file blob own) outcome is_cut = false
cut_by io_action outcome is_cut = is_cut

-- an answer of 200 or 201, that the blob differs, or nothing after a file, where the stream ends if it is cut
abbrev pub IsGood : ResponseMode → Bool → Close → Type 0
IsGood mode is_cut (speaks (BlobDiffers recorded found)) = Unit {0}
IsGood mode is_cut (speaks said) = IsSuccess (full_answer said).status
IsGood mode is_cut (rests end) = end ≡ (if is_cut then Some stream.Closed else end_of mode)

-- Where each command gets what it asks for, no I/O action fails and the body is refused by nothing that it says, the course does what it
-- may, and all that is asked for: the body is invited where the client waits for that, and read; the file that is sent is the one
-- that was lent; a pass goes over the repositories that are asked for. And it ends well: as is due for that, and in this mode.
abbrev pub Succeeds : (List ℕ → Option Close) → ResponseMode → Bool → Course → Stand → Type 0
Succeeds by_text mode is_cut (asks command next) s =
    MayAsk command s
    × ((reply : Reply) → Grants command reply → HasRound s.rounds command reply → Succeeds by_text mode is_cut (next reply) (stand_after command reply s))
Succeeds by_text mode is_cut (does io_action next) s =
    MayDo mode io_action s
    × ((outcome : Outcome io_action) → Goes by_text io_action outcome
    → Succeeds by_text mode (cut_by io_action outcome is_cut) (next outcome) (stand_done by_text io_action outcome s))
Succeeds by_text mode is_cut (says said own) s = IsReady s × (s.due ≡ Some (speaks said)) × IsGood mode is_cut (speaks said) × (own ≡ mode)
Succeeds by_text mode is_cut (stops end) s = IsReady s × (s.due ≡ Some (rests end)) × IsGood mode is_cut (rests end)

-- what the replies of these entries came to
abbrev pub answer_by : Rounds → List Entry → Option Close → Option Close
answer_by r [] due = due
answer_by r (e ∷ entries) due = answer_by (rounds_after e.command r) entries (due_after r e.command e.reply due)

abbrev pub file_by : List Entry → Option Blob → Option Blob
file_by [] lent = lent
file_by (e ∷ entries) lent = file_by entries (lent_after e.command e.reply lent)

-- what is due for what is asked for: what the replies came to, or what the pass of these entries did
abbrev pub due_by : Intent → List Entry → Option Close
due_by (cleans_all repos) entries = Some (of_pass (Ok (done_by entries)))
due_by intent entries = answer_by (rounds_for intent) entries None

-- a body of this length came whole, and nothing that it says is refused
abbrev pub BodyIsTaken : (List ℕ → Option Close) → Option ℕ → List ℕ → Type 0
BodyIsTaken by_text None input = Unit {0}
BodyIsTaken by_text (Some count) input = (count ≤ length input) × (by_text (take count input) ≡ None)

abbrev pub behind_body : Option ℕ → List ℕ → List ℕ
behind_body None input = input
behind_body (Some count) input = drop count input

abbrev pub invitation : Bool → List ℕ
invitation true = continue_bytes
invitation false = []

-- what the answer with a file writes: its head with the length and both checksums, and these bytes where it is not the head alone
abbrev pub file_shown : ResponseMode → Blob → List ℕ → List ℕ
file_shown mode blob bytes = shown (file_answer blob mode) ++ (if mode.head_only then [] else bytes)

-- these are bytes of the blob: those that it tells, and, unless the head alone is sent, of its recorded length and digests
abbrev pub AreBytesOf : ResponseMode → Blob → List ℕ → Type 0
AreBytesOf mode blob bytes = IsWhereTold blob.bytes bytes × (mode.head_only ≡ false → blob.print ≡ print_of bytes)

-- What came to the sink and was used of the input, which is told: the invitation and the answer, whole; or the invitation and the
-- file, whole, or the head of its answer alone; or, where its blob has another content than was recorded, the answer that says
-- so, or the head and a front of what was found, after which the stream ends; or, where memory ran out, the answer that says so,
-- its head alone to HEAD only, in front of which the invitation stands or nothing. Of the blobs that are told, and of the remotes, this
-- says nothing.
pub data IsServed (mode : ResponseMode) (invited : List ℕ) (left : List ℕ) (answer : Option Close) (lent : Option Blob) (old new : Outside)
    (end : Option End) : Type 0 where
  answered : (said : Response) (kept : Shelf) (asked : Sees) → answer ≡ Some (speaks said) → IsSuccess (full_answer said).status
      → new ≡ writes (invited ++ shown (answer_of said mode)) (record old { input = Some left; shelf = kept; remote = asked })
      → end ≡ end_of mode → IsServed mode invited left answer lent old new end
  sent : (blob : Blob) (bytes : List ℕ) (kept : Shelf) (asked : Sees) → lent ≡ Some blob → AreBytesOf mode blob bytes
      → new ≡ writes (invited ++ file_shown mode blob bytes) (record old { input = Some left; shelf = kept; remote = asked })
      → end ≡ end_of mode → IsServed mode invited left answer lent old new end
  differs : (blob : Blob) (recorded found : Print) (kept : Shelf) (asked : Sees) → lent ≡ Some blob → mode.head_only ≡ false → IsOtherContent blob recorded found
      → new ≡ writes (invited ++ shown (answer_of (BlobDiffers recorded found) mode)) (record old { input = Some left; shelf = kept; remote = asked })
      → end ≡ end_of mode → IsServed mode invited left answer lent old new end
  file_cut : (blob : Blob) (recorded found : Print) (bytes part : List ℕ) (kept : Shelf) (asked : Sees) → lent ≡ Some blob → mode.head_only ≡ false
      → IsOtherContent blob recorded found → found ≡ print_of bytes → IsCut blob bytes part
      → new ≡ writes (invited ++ (shown (file_answer blob mode) ++ part)) (record old { input = Some left; shelf = kept; remote = asked })
      → end ≡ Some stream.Closed → IsServed mode invited left answer lent old new end
  starved : (part : List ℕ) (head_only : Bool) → (head_only ≡ true → mode.head_only ≡ true) → (part ≡ []) ⊎ (part ≡ invited)
      → new.output ≡ behind old.output (part ++ shown (memory_answer head_only))
      → end ≡ Some stream.Closed → IsServed mode invited left answer lent old new end

-- so for a request, after whose head this came
abbrev pub IsAnsweredFor : Judged → Bool → List ℕ → List Entry → Outside → Outside → Option End → Type 0
IsAnsweredFor request last input entries old new end =
    let s = at_first request.expects request.intent in
    IsServed (mode_for request last) (invitation s.waits) (behind_body s.unread input) (due_by request.intent entries) (file_by entries None) old new end

abbrev pub ComesWhole : Judged → List ℕ → Type 0
ComesWhole request input = BodyIsTaken (for_text request.intent) (body_length request.intent) input
