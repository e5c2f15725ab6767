-- The course of a request: the commands and the acts that it makes, one after another as their results come, and its answer.
use Rattle.std.specs.Prelude.{ℕ, zero, suc, Bool, true, false, ◌||◌, nat_lt, if◌then◌else◌, List, [], ◌∷◌, ◌++◌, Option, Some, None, Result, Ok, Err}
use Rattle.fetch_plan.specs.declared.Outcome.{Outcome as Came}
use Rattle.fetch_plan.specs.declared.Outcome.TheVariants as came
use Rattle.fetch_plan.specs.declared.Plan.{Plan}
use Rattle.http_wire.specs.declared.faults.HeadFault.{HeadFault}
use Rattle.http_wire.specs.declared.faults.HeadFault.TheVariants.{Broken, TooLong}
use Rattle.http_wire.specs.Head.{Head}
use Rattle.mvn_coords.specs.declared.fault.Side.{Side}
use Rattle.mvn_digest.specs.Hex.{hex_text}
use Rattle.mvn_digest.specs.Sides.{read_side}
use Rattle.mvn_doc.specs.Reading.{reading}
use Rattle.mvn_metadata.specs.Document.{Document}
use Rattle.repo_model.specs.Data.{Blob, Place, repository, session}
use Rattle.remote_fetch.specs.declared.contents.Content.{Content}
use Rattle.remote_fetch.specs.declared.contents.Content.TheVariants as content
use Rattle.remote_fetch.specs.declared.fetching.Checked.{Checked}
use Rattle.repo_model.specs.Command.{Command, look, done, may_put, put, put_side, put_doc, drop_draft, open_session, stage, commit, abort, ask, land}
use Rattle.repo_model.specs.Fetched.{Landing, got_file, got_doc}
use Rattle.repo_model.specs.Reply.{Reply, file, text, doc, missed, given_back, kind_refused, draft, no_draft, taken, same, relisted, created, not_there, differs, agreed, noted, dropped, finds, no_session, sessions_full, opened, session_full, staged, offends, missing_pom, ended, unlisted, collected, spent, no_memory, store_fault, fetches, blocked, negative, never_asked, landed}
use Rattle.repo_routes.specs.Framing.{is_head}
use Rattle.repo_routes.specs.Intent as judged
use Rattle.repo_routes.specs.Intent.{Intent, Judged}
use Rattle.repo_routes.specs.declared.intent.Sort.{Sort}
use Rattle.repo_routes.specs.declared.intent.Sort.TheVariants as sorts
use Rattle.repo_routes.specs.declared.judging.Refused.{Refused}
use Rattle.repo_course.specs.Answers.{at_end}
use Rattle.repo_course.specs.declared.fetched.FetchFault.{FetchFault}
use Rattle.repo_course.specs.declared.fetched.FetchFault.TheVariants as unfetched
use Rattle.repo_course.specs.declared.fetched.Verdict.{Verdict}
use Rattle.repo_course.specs.declared.fetched.Verdict.TheVariants as verdict
use Rattle.repo_course.specs.declared.mode.ResponseMode.{ResponseMode}
use Rattle.repo_course.specs.declared.outcomes.Continued.{Continued}
use Rattle.repo_course.specs.declared.outcomes.Continued.TheVariants as continued
use Rattle.repo_course.specs.declared.outcomes.End.{End}
use Rattle.repo_course.specs.declared.outcomes.End.TheVariants as stream
use Rattle.repo_course.specs.declared.outcomes.Took.{Took}
use Rattle.repo_course.specs.declared.outcomes.Took.TheVariants as took
use Rattle.repo_course.specs.declared.response.Response.{Response}
use Rattle.repo_course.specs.declared.response.Response.TheVariants as response
pub use Rattle.repo_course.specs.IoActions.{Stored, Body, Pass, Fetch, Kept, IoAction, invite, take_body, read_body, send_file, clean_all, fetch, store_fetched, Outcome, Close, speaks, rests, end_of, of_fault, of_sent, of_pass, of_store}

-- what comes next, and then what follows each result
pub data Course : Type 0 where
  -- a command of the machine
  asks : Command → (Reply → Course) → Course
  -- an I/O action outside it
  does : (io_action : IoAction) → (Outcome io_action → Course) → Course
  -- an answer that says so; then the stream ends where the request or a body that was not read asks for it, or goes on
  says : Response → ResponseMode → Course
  -- nothing more is written; then the stream ends so, or goes on
  stops : Option End → Course

abbrev pub without_memory : ResponseMode → Course
without_memory mode = says response.NoMemory (at_end mode.head_only)

-- an answer; where memory ran out it ends the connection
abbrev pub answers : ResponseMode → Response → Course
answers mode response.NoMemory = without_memory mode
answers mode said = says said mode

abbrev pub closes : ResponseMode → Close → Course
closes mode (speaks said) = answers mode said
closes mode (rests end) = stops end

abbrev pub gives_up : ℕ → Course → Course
gives_up n course = asks (drop_draft n) (λ reply. course)

-- a draft is given up, where there is one
abbrev pub gives_any_up : Option ℕ → Course → Course
gives_any_up None course = course
gives_any_up (Some n) course = gives_up n course

-- what was to be written first was not, and nothing follows
abbrev pub cut_off : Course
cut_off = stops (Some stream.SinkFault)

-- `100 Continue` was written, or was not and this follows in place of the body
abbrev pub after_continue : (cut body : Course) → Continued → Course
after_continue cut body continued.Written = body
after_continue cut body continued.SinkFault = cut

-- `100 Continue` before a body, where the client waits for it
abbrev pub invites : Bool → (cut body : Course) → Course
invites expects cut body = if expects then does invite (after_continue cut body) else body

-- the file is sent, and its lease given back whatever came of it
abbrev pub sends_file : ResponseMode → ℕ → Blob → Course
sends_file mode lease blob = does (send_file blob mode) (λ result. asks (done lease) (λ reply. closes mode (of_sent mode result)))

-- what is answered to a reply; one that is answered by no words of its own, since an I/O action or a command follows it, counts as
-- out of memory
abbrev pub response_of : Reply → Response
response_of (file lease blob) = response.NoMemory
response_of (text bytes) = response.Text bytes
response_of (doc bytes digests) = response.Doc bytes digests
response_of missed = response.NotThere
response_of given_back = response.NoMemory
response_of kind_refused = response.KindRefused
response_of (draft n) = response.NoMemory
response_of no_draft = response.NoDraft
response_of (taken kept given) = response.Taken kept given
response_of same = response.Same
response_of relisted = response.Relisted
response_of created = response.Created
response_of not_there = response.NotThere
response_of (differs sent kept) = response.Differs (hex_text sent) (hex_text kept)
response_of agreed = response.Agreed
response_of noted = response.Noted
response_of dropped = response.NoMemory
response_of no_session = response.NoSession
response_of sessions_full = response.TooMany
response_of (opened n) = response.Opened n
response_of session_full = response.SessionFull
response_of staged = response.Staged
response_of (offends path kept given) = response.Offends path kept given
response_of (missing_pom directory) = response.MissingPom directory
response_of (ended result) = response.Ended result
response_of (unlisted count) = response.NoMemory
response_of (collected expired blobs) = response.NoMemory
response_of (finds finding) = response.Found finding
response_of spent = response.Spent
response_of no_memory = response.NoMemory
response_of store_fault = response.StoreFault
response_of (fetches plan) = response.NoMemory
response_of blocked = response.Blocked
response_of negative = response.Negative
response_of never_asked = response.NeverAsked
response_of landed = response.NoMemory

-- the draft of a stored blob is used up, or was given up in that turn; after any other reply it is to be given up
abbrev pub leaves_draft : Reply → Bool
leaves_draft (file lease blob) = true
leaves_draft (text bytes) = true
leaves_draft (doc bytes digests) = true
leaves_draft missed = true
leaves_draft given_back = true
leaves_draft kind_refused = true
leaves_draft (draft n) = true
leaves_draft no_draft = true
leaves_draft (taken kept given) = false
leaves_draft same = false
leaves_draft relisted = false
leaves_draft created = false
leaves_draft not_there = true
leaves_draft (differs sent kept) = true
leaves_draft agreed = true
leaves_draft noted = true
leaves_draft dropped = true
leaves_draft no_session = false
leaves_draft sessions_full = true
leaves_draft (opened n) = true
leaves_draft session_full = false
leaves_draft staged = false
leaves_draft (offends path kept given) = true
leaves_draft (missing_pom directory) = true
leaves_draft (ended result) = true
leaves_draft (unlisted count) = true
leaves_draft (collected expired blobs) = true
leaves_draft (finds finding) = true
leaves_draft spent = true
leaves_draft no_memory = true
leaves_draft store_fault = true
leaves_draft (fetches plan) = true
leaves_draft blocked = true
leaves_draft negative = true
leaves_draft never_asked = true
leaves_draft landed = true

-- a reply is told
abbrev pub tells : ResponseMode → Reply → Course
tells mode reply = answers mode (response_of reply)

-- ---- a look, after which something may be fetched and looked for again

-- how many fetches may come at a repository of a sort
abbrev pub rounds_of : Sort → ℕ
rounds_of sorts.Hosted = 0
rounds_of sorts.Proxy = 1
rounds_of (sorts.Group members) = members

abbrev pub is_group : Sort → Bool
is_group sorts.Hosted = false
is_group sorts.Proxy = false
is_group (sorts.Group members) = true

-- why nothing came of a fetch; none where the remote has nothing there, or gave it
abbrev pub fetch_fault : {A : Type 0} → Came A → Option FetchFault
fetch_fault (came.Got what) = None
fetch_fault came.Gone = None
fetch_fault (came.Refused code) = Some (unfetched.Refused code)
fetch_fault came.NoChecksum = Some unfetched.NoChecksum
fetch_fault (came.Differs said found) = Some (unfetched.Differs said found)
fetch_fault came.TooLarge = Some unfetched.TooLarge
fetch_fault (came.BadAnswer at) = Some (unfetched.BadAnswer at)
fetch_fault (came.BadDocument at) = Some (unfetched.BadDocument at)
fetch_fault came.Fault = Some unfetched.Fault

-- what the fetches come to with one more: the first fault stays
abbrev pub with_fault : Verdict → Option FetchFault → Verdict
with_fault (verdict.First why) next = verdict.First why
with_fault (verdict.Unasked of_group) (Some why) = verdict.First why
with_fault (verdict.Gone of_group) (Some why) = verdict.First why
with_fault (verdict.Unasked of_group) None = verdict.Gone of_group
with_fault (verdict.Gone of_group) None = verdict.Gone of_group

-- what is answered where nothing is there, by what the fetches came to
abbrev pub response_missed : Verdict → Response
response_missed (verdict.Unasked of_group) = response.NotThere
response_missed (verdict.Gone of_group) = if of_group then response.NotThere else response.RemoteGone
response_missed (verdict.First why) = response.NotFetched why

-- what follows a look, by what the fetches before it came to, and what follows a plan
abbrev pub after_look : ResponseMode → Verdict → (Plan → Course) → Reply → Course
after_look mode so_far behind (file lease blob) = sends_file mode lease blob
after_look mode so_far behind missed = answers mode (response_missed so_far)
after_look mode so_far behind (fetches plan) = behind plan
after_look mode so_far behind reply = tells mode reply

-- once a fetch has landed its path is looked at again; where it has not, its draft is given up
abbrev pub after_land : ResponseMode → Option ℕ → Course → Reply → Course
after_land mode held again landed = again
after_land mode held again reply = gives_any_up held (tells mode reply)

abbrev pub lands : ResponseMode → Plan → Course → Landing → Course
lands mode plan again outcome = asks (land plan outcome) (after_land mode plan.draft again)

-- a fetched file that is stored lands, and the draft of another is given up
abbrev pub after_store : ResponseMode → Plan → Course → Kept → Course
after_store mode plan again (Ok blob) = lands mode plan again (came.Got (got_file blob))
after_store mode plan again (Err why) = gives_any_up plan.draft (closes mode (of_store why))

-- a file is fetched under a draft alone
abbrev pub stores : ResponseMode → Plan → Course → Checked → Option ℕ → Course
stores mode plan again checked (Some n) = does (store_fetched n checked) (after_store mode plan again)
stores mode plan again checked None = without_memory mode

-- a file is stored before it lands, and all else lands as it is
abbrev pub fetched : ResponseMode → Plan → Course → Came Content → Course
fetched mode plan again (came.Got (content.File checked)) = stores mode plan again checked plan.draft
fetched mode plan again (came.Got (content.Doc document)) = lands mode plan again (came.Got (got_doc document))
fetched mode plan again came.Gone = lands mode plan again came.Gone
fetched mode plan again (came.Refused code) = lands mode plan again (came.Refused code)
fetched mode plan again came.NoChecksum = lands mode plan again came.NoChecksum
fetched mode plan again (came.Differs said found) = lands mode plan again (came.Differs said found)
fetched mode plan again came.TooLarge = lands mode plan again came.TooLarge
fetched mode plan again (came.BadAnswer at) = lands mode plan again (came.BadAnswer at)
fetched mode plan again (came.BadDocument at) = lands mode plan again (came.BadDocument at)
fetched mode plan again came.Fault = lands mode plan again came.Fault

-- what follows a fetch: it lands, and then comes what follows the fault that it adds, if any
abbrev pub after_fetch : ResponseMode → Plan → (Option FetchFault → Course) → Fetch → Course
after_fetch mode plan again None = gives_any_up plan.draft (without_memory mode)
after_fetch mode plan again (Some outcome) = fetched mode plan (again (fetch_fault outcome)) outcome

-- A look, after which so many fetches may come, each of a member that is not among those tried. No plan comes where none may.
abbrev pub looks : ResponseMode → ℕ → (repo path tried : List ℕ) → Verdict → Course
looks mode zero repo path tried so_far =
    asks (look repo path tried) (after_look mode so_far (λ plan. gives_any_up plan.draft (without_memory mode)))
looks mode (suc n) repo path tried so_far =
    asks (look repo path tried)
    (after_look mode so_far (λ plan. does (fetch plan) (after_fetch mode plan (λ why. looks mode n repo path (tried ++ plan.member ∷ []) (with_fault so_far why)))))

-- what follows a file's body that was put or staged
abbrev pub after_put : ℕ → ResponseMode → Reply → Course
after_put n mode reply = if leaves_draft reply then gives_up n (tells mode reply) else tells mode reply

-- the command by which a stored blob becomes the file at a path of a place, and what follows it
abbrev pub puts_at : Place → (path : List ℕ) → ℕ → Blob → Command
puts_at (repository repo) path n blob = put repo path n blob
puts_at (session number) path n blob = stage number path n blob

-- a body that is not read ends the connection
abbrev pub with_unread : ℕ → ResponseMode → ResponseMode
with_unread length mode = record mode { close = nat_lt 0 length || mode.close }

-- so does one of which some is unread after a fault
abbrev pub behind_fault : (length : ℕ) → Took → ResponseMode → ResponseMode
behind_fault length (took.BlobFault true) mode = with_unread length mode
behind_fault length fault mode = mode

-- a file's body that is stored is put, and the draft of another is given up
abbrev pub after_take : Place → (path : List ℕ) → (n length : ℕ) → ResponseMode → Stored → Course
after_take place path n length mode (Ok blob) = asks (puts_at place path n blob) (after_put n mode)
after_take place path n length mode (Err fault) = gives_up n (closes (behind_fault length fault mode) (of_fault fault))

abbrev pub after_may_put : Place → (path : List ℕ) → ℕ → Bool → ResponseMode → Reply → Course
after_may_put place path length expects mode (draft n) =
    invites expects (gives_up n cut_off) (does (take_body n length) (after_take place path n length mode))
after_may_put place path length expects mode reply = tells (with_unread length mode) reply

-- the digest that a side file says is compared; a text that says none is refused
abbrev pub compares : Place → (path : List ℕ) → ResponseMode → Option (List ℕ) → Course
compares place path mode (Some digest) = asks (put_side place path digest) (tells mode)
compares place path mode None = says response.NoDigest mode

abbrev pub after_side : Place → (path : List ℕ) → Side → ResponseMode → Body → Course
after_side place path side mode (Ok bytes) = compares place path mode (read_side side bytes)
after_side place path side mode (Err fault) = closes mode (of_fault fault)

-- a document is told to the machine; a text that is none is refused by the place of its first fault
abbrev pub notes : Place → (path : List ℕ) → ResponseMode → Result Document ℕ → Course
notes place path mode (Ok document) = asks (put_doc place path) (tells mode)
notes place path mode (Err at) = says (response.NoDocument at) mode

abbrev pub after_document : Place → (path : List ℕ) → ResponseMode → Body → Course
after_document place path mode (Ok bytes) = notes place path mode (reading bytes)
after_document place path mode (Err fault) = closes mode (of_fault fault)

-- the course by what a request asks for, which expects `100 Continue` before its body or not
abbrev pub course_for : ResponseMode → Bool → Intent → Course
course_for mode expects (judged.reads repo path sort) = looks mode (rounds_of sort) repo path [] (verdict.Unasked (is_group sort))
course_for mode expects (judged.puts_file place path length) =
    asks (may_put place path) (after_may_put place path length expects mode)
course_for mode expects (judged.puts_side place path side length) =
    invites expects cut_off (does (read_body length) (after_side place path side mode))
course_for mode expects (judged.puts_document place path length) =
    invites expects cut_off (does (read_body length) (after_document place path mode))
course_for mode expects (judged.asks question) = asks (ask question) (tells mode)
course_for mode expects (judged.cleans repos) = does (clean_all repos) (λ pass. closes mode (of_pass pass))
course_for mode expects (judged.opens repo) = asks (open_session repo) (tells mode)
course_for mode expects (judged.commits n) = asks (commit n) (tells mode)
course_for mode expects (judged.aborts n) = asks (abort n) (tells mode)

-- the mode of the answer to a request, which may be the last of its connection, and to one that is refused by its head
abbrev pub mode_for : Judged → Bool → ResponseMode
mode_for request last = record { close = request.close; last = last; head_only = request.head_only }

abbrev pub mode_refused : Refused → Bool → ResponseMode
mode_refused refused last = record { close = refused.close; last = last; head_only = refused.head_only }

-- their courses
abbrev pub course : Judged → Bool → Course
course request last = course_for (mode_for request last) request.expects request.intent

abbrev pub refuses : Refused → Bool → Course
refuses refused last = says (response.Refused refused.refusal) (mode_refused refused last)

abbrev pub course_of : Result Judged Refused → Bool → Course
course_of (Ok request) last = course request last
course_of (Err refused) last = refuses refused last

-- what is no request head, or too long a one
abbrev pub head_said : HeadFault → Response
head_said Broken = response.BadHead
head_said TooLong = response.HeadTooLong

abbrev pub refuses_head : HeadFault → Course
refuses_head fault = says (head_said fault) (at_end false)

-- memory ran out for what a head says
abbrev pub starves : Head → Course
starves head = without_memory (at_end (is_head head))
