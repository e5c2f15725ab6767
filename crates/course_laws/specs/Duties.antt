-- What a course owes, step by step: the draft and the lease that it holds, the body and the pass that it has not done, the one
-- answer that it gives and how the stream ends after it, and the commands that it may still ask.
use Rattle.std.specs.Prelude.{◌≡◌, ℕ, zero, suc, ◌+◌, ◌≤◌, max, min, length, Bool, true, false, if◌then◌else◌, List, [], ◌∷◌, ◌++◌, Option, Some, None, Result, Ok, Err, unwrap_or}
use Rattle.std.specs.Option.{option_map}
use Rattle.fetch_plan.specs.declared.Outcome.{Outcome as Came}
use Rattle.fetch_plan.specs.declared.Outcome.TheVariants as came
use Rattle.fetch_plan.specs.declared.Plan.{Plan}
use Rattle.http_wire.specs.declared.faults.HeadFault.{HeadFault}
use Rattle.mvn_digest.specs.Sides.{read_side}
use Rattle.mvn_doc.specs.Reading.{reading}
use Rattle.mvn_metadata.specs.Document.{Document}
use Rattle.remote_fetch.specs.declared.contents.Content.{Content}
use Rattle.remote_fetch.specs.declared.contents.Content.TheVariants as content
use Rattle.repo_model.specs.Command.{Command, look, done, may_put, put, put_side, put_doc, drop_draft, open_session, stage, commit, abort, unlist, collect, ask, land}
use Rattle.repo_model.specs.Data.{Blob}
use Rattle.repo_model.specs.Fetched.{Landing, got_file, got_doc}
use Rattle.repo_model.specs.Reply.{Reply, file, missed, draft, taken, same, relisted, created, no_session, session_full, staged, fetches, landed}
use Rattle.repo_model.specs.Settings.{GroupRule, Settings}
use Rattle.repo_routes.specs.Intent.{Intent, Judged, reads as reads_path, puts_file, puts_side, puts_document, asks as asks_one, cleans as cleans_all, opens, commits, aborts}
use Rattle.repo_routes.specs.declared.judging.Refused.{Refused}
use Rattle.repo_course.specs.declared.fetched.Verdict.TheVariants as verdict
use Rattle.repo_course.specs.Answers.{at_end}
use Rattle.repo_course.specs.Course.{Close, Course, Fetch, Outcome, asks, does, says, stops, speaks, rests, fetch_fault, head_said, is_group, mode_for, mode_refused, rounds_of, response_missed, response_of, with_fault, with_unread}
use Rattle.repo_course.specs.declared.mode.ResponseMode.{ResponseMode}
use Rattle.repo_course.specs.declared.response.Response.{Response}
use Rattle.repo_course.specs.declared.response.Response.TheVariants as response
pub use Rattle.course_laws.specs.Stands.{Rounds, no_rounds, Stand, idle, IsReady, IsFree, HoldsNothing}
pub use Rattle.course_laws.specs.IoActions.{IsInPlace, MayDo, asked_by, left_by, stored_done, unread_done, waits_done, to_clean_done, came_done, kept_done, due_behind, due_done, stand_done}

-- the length of the body that comes with what is asked for
abbrev pub body_length : Intent → Option ℕ
body_length (reads_path repo path of_sort) = None
body_length (puts_file place path count) = Some count
body_length (puts_side place path side count) = Some count
body_length (puts_document place path count) = Some count
body_length (asks_one question) = None
body_length (cleans_all repos) = None
body_length (opens repo) = None
body_length (commits n) = None
body_length (aborts n) = None

abbrev pub length_of : Intent → ℕ
length_of intent = unwrap_or (body_length intent) 0

-- only before a body does the client wait
abbrev pub is_awaited : Option ℕ → Bool → Bool
is_awaited None expects = false
is_awaited (Some count) expects = expects

-- the repositories that are to be passed over for what is asked for
abbrev pub repos_of : Intent → Option (List (List ℕ))
repos_of (cleans_all repos) = Some repos
repos_of intent = None

-- what is looked at for what is asked for
abbrev pub target_of : Intent → Option (List ℕ × List ℕ)
target_of (reads_path repo path of_sort) = Some (repo, path)
target_of intent = None

-- what is looked at may be fetched as often as its repository has members to be asked
abbrev pub rounds_for : Intent → Rounds
rounds_for (reads_path repo path of_sort) = record { left = rounds_of of_sort; tried = []; so_far = verdict.Unasked (is_group of_sort) }
rounds_for intent = no_rounds

-- before the first step of what is asked for, where the client waits before its body or not
abbrev pub at_first : Bool → Intent → Stand
at_first expects intent = record idle {
  unread = body_length intent;
  waits = is_awaited (body_length intent) expects;
  to_clean = repos_of intent;
  target = target_of intent;
  rounds = rounds_for intent;
}

-- the replies after which the draft of a blob that is put or staged is used up, or was given up in that turn
abbrev pub spends_draft : Reply → Bool
spends_draft (taken kept given) = true
spends_draft same = true
spends_draft relisted = true
spends_draft created = true
spends_draft no_session = true
spends_draft session_full = true
spends_draft staged = true
spends_draft reply = false

-- What a reply makes of where it stands. What is not named stays.
abbrev pub draft_after : Command → Reply → Option ℕ → Option ℕ
draft_after (may_put place path) (draft n) held = Some n
draft_after (put repo path n blob) reply held = if spends_draft reply then None else held
draft_after (stage at path n blob) reply held = if spends_draft reply then None else held
draft_after (drop_draft n) reply held = None
draft_after (look repo path tried) (fetches plan) held = plan.draft
draft_after (land plan outcome) landed held = None
draft_after command reply held = held

abbrev pub lease_after : Command → Reply → Option ℕ → Option ℕ
lease_after (look repo path tried) (file lease blob) held = Some lease
lease_after (done lease) reply held = None
lease_after command reply held = held

abbrev pub lent_after : Command → Reply → Option Blob → Option Blob
lent_after (look repo path tried) (file lease blob) lent = Some blob
lent_after command reply lent = lent

-- what is planned is landed once
abbrev pub plan_after : Command → Reply → Option Plan → Option Plan
plan_after (look repo path tried) (fetches plan) planned = Some plan
plan_after (land plan outcome) reply planned = None
plan_after command reply planned = planned

abbrev pub came_after : Command → Fetch → Fetch
came_after (look repo path tried) came = None
came_after (land plan outcome) came = None
came_after command came = came

-- after a landing one fetch less may come, its member was tried, and what came of it counts
abbrev pub one_less : ℕ → ℕ
one_less zero = zero
one_less (suc n) = n

abbrev pub rounds_after : Command → Rounds → Rounds
rounds_after (land plan outcome) r = record {
  left = one_less r.left;
  tried = r.tried ++ plan.member ∷ [];
  so_far = with_fault r.so_far (fetch_fault outcome);
}
rounds_after command r = r

-- where no fetch may come any more a plan counts as out of memory
abbrev pub due_planned : ℕ → Option Close → Option Close
due_planned zero due = Some (speaks response.NoMemory)
due_planned (suc n) due = due

-- A reply is answered, but for a file, a draft, a plan, what has landed, what only gives back, and the commands of a pass. That nothing
-- is there is answered by what was fetched.
abbrev pub due_after : Rounds → Command → Reply → Option Close → Option Close
due_after r (look repo path tried) (file lease blob) due = due
due_after r (look repo path tried) missed due = Some (speaks (response_missed r.so_far))
due_after r (look repo path tried) (fetches plan) due = due_planned r.left due
due_after r (may_put place path) (draft n) due = due
due_after r (done lease) reply due = due
due_after r (drop_draft n) reply due = due
due_after r (unlist repo) reply due = due
due_after r collect reply due = due
due_after r (land plan outcome) landed due = due
due_after r command reply due = Some (speaks (response_of reply))

abbrev pub stand_after : Command → Reply → Stand → Stand
stand_after command reply s = record s {
  draft = draft_after command reply s.draft;
  lease = lease_after command reply s.lease;
  lent = lent_after command reply s.lent;
  plan = plan_after command reply s.plan;
  came = came_after command s.came;
  rounds = rounds_after command s.rounds;
  due = due_after s.rounds command reply s.due;
}

-- what lands of a fetch, with the file that was stored, if it was: a file as that, and all else as it came
abbrev pub landing_of : Came Content → Option Blob → Option Landing
landing_of (came.Got (content.File checked)) kept = option_map (λ (blob : Blob). came.Got (got_file blob)) kept
landing_of (came.Got (content.Doc document)) stored = Some (came.Got (got_doc document))
landing_of came.Gone stored = Some came.Gone
landing_of (came.Refused code) stored = Some (came.Refused code)
landing_of came.NoChecksum stored = Some came.NoChecksum
landing_of (came.Differs said found) stored = Some (came.Differs said found)
landing_of came.TooLarge stored = Some came.TooLarge
landing_of (came.BadAnswer at) stored = Some (came.BadAnswer at)
landing_of (came.BadDocument at) stored = Some (came.BadDocument at)
landing_of came.Fault stored = Some came.Fault

abbrev pub landing_by : Fetch → Option Blob → Option Landing
landing_by None stored = None
landing_by (Some outcome) stored = landing_of outcome stored

-- What it must hold to ask a command: once an end is due it only gives back, and but for a draft it asks after its body. The
-- commands of a pass are asked by the pass. What lands is what came of the plan's own fetch; and a look is at
-- the path that is asked for, names the members that were tried, and comes once what was planned has landed.
abbrev pub MayAsk : Command → Stand → Type 0
MayAsk (look repo path tried) s =
    IsFree s × (s.lease ≡ None) × (s.draft ≡ None) × (tried ≡ s.rounds.tried) × (s.target ≡ Some (repo, path)) × (s.plan ≡ None)
MayAsk (done lease) s = s.lease ≡ Some lease
MayAsk (may_put place path) s = (s.due ≡ None) × (s.draft ≡ None) × (s.to_clean ≡ None)
MayAsk (put repo path n blob) s = IsFree s × (s.draft ≡ Some n) × (s.stored ≡ Some blob)
MayAsk (put_side place path digest) s = IsFree s
MayAsk (put_doc place path) s = IsFree s
MayAsk (drop_draft n) s = s.draft ≡ Some n
MayAsk (open_session repo) s = IsFree s
MayAsk (stage at path n blob) s = IsFree s × (s.draft ≡ Some n) × (s.stored ≡ Some blob)
MayAsk (commit n) s = IsFree s
MayAsk (abort n) s = IsFree s
MayAsk (unlist repo) s = ⊥
MayAsk collect s = ⊥
MayAsk (ask question) s = IsFree s
MayAsk (land plan outcome) s =
    IsFree s × (s.plan ≡ Some plan) × (s.draft ≡ plan.draft) × (landing_by s.came s.kept ≡ Some outcome)

-- the mode of an answer, where this body is not read
abbrev pub mode_of : Response → Option ℕ → ResponseMode → ResponseMode
mode_of response.NoMemory unread mode = at_end mode.head_only
mode_of said unread mode = with_unread (unwrap_or unread 0) mode

-- The course does what it owes, with at most so many commands, whatever is replied and however its I/O actions end: it ends as is due for
-- what they came to, holding nothing, with an answer in the mode of the request, or without one, and then the connection goes
-- on only where the body was read.
abbrev pub Keeps : (List ℕ → Option Close) → ResponseMode → Course → ℕ → Stand → Type 0
Keeps by_text mode (asks command next) zero s = ⊥
Keeps by_text mode (asks command next) (suc n) s =
    MayAsk command s × ((reply : Reply) → Keeps by_text mode (next reply) n (stand_after command reply s))
Keeps by_text mode (does io_action next) n s =
    MayDo mode io_action s × (asked_by io_action ≤ n)
    × ((outcome : Outcome io_action) → Keeps by_text mode (next outcome) (left_by io_action n) (stand_done by_text io_action outcome s))
Keeps by_text mode (says said own) n s = HoldsNothing s × (s.due ≡ Some (speaks said)) × (own ≡ mode_of said s.unread mode)
Keeps by_text mode (stops end) n s = HoldsNothing s × (s.due ≡ Some (rests end)) × (end ≡ None → s.unread ≡ None)

-- The course answers what is due, and only that, whatever is replied and however its I/O actions end; and where nothing is due to be said it
-- says nothing.
abbrev pub AnswersDue : (List ℕ → Option Close) → Course → Rounds → Option Close → Type 0
AnswersDue by_text (asks command next) r due =
    (reply : Reply) → AnswersDue by_text (next reply) (rounds_after command r) (due_after r command reply due)
AnswersDue by_text (does io_action next) r due = (outcome : Outcome io_action) → AnswersDue by_text (next outcome) r (due_done by_text io_action outcome due)
AnswersDue by_text (says said own) r due = due ≡ Some (speaks said)
AnswersDue by_text (stops end) r due = due ≡ Some (rests end)

-- a side file that says no digest is refused, and a text that is no document, by its first fault
abbrev pub by_digest : Option (List ℕ) → Option Close
by_digest (Some digest) = None
by_digest None = Some (speaks response.NoDigest)

abbrev pub by_document : Result Document ℕ → Option Close
by_document (Ok document) = None
by_document (Err at) = Some (speaks (response.NoDocument at))

abbrev pub for_text : Intent → List ℕ → Option Close
for_text (puts_side place path side count) bytes = by_digest (read_side side bytes)
for_text (puts_document place path count) bytes = by_document (reading bytes)
for_text intent bytes = None

-- how many commands come with a look after which so many fetches may come, at most: itself, two for each fetch, and one that gives back
abbrev pub twice : ℕ → ℕ
twice zero = zero
twice (suc n) = suc (suc (twice n))

abbrev pub looks_most : ℕ → ℕ
looks_most rounds = suc (suc (twice rounds))

-- how many commands come with what is asked for at most, and with any request under these settings
abbrev pub most_for : Intent → ℕ
most_for (reads_path repo path of_sort) = looks_most (rounds_of of_sort)
most_for (cleans_all repos) = length repos + 1
most_for intent = 3

-- the most members of a group
abbrev pub most_members : List GroupRule → ℕ
most_members [] = 0
most_members (g ∷ groups) = max (length g.members) (most_members groups)

-- how many fetches may come with a look, at most
abbrev pub most_rounds : Settings → ℕ
most_rounds settings = max (min 1 (length settings.proxies)) (most_members settings.groups)

unfoldable pub most_asked : Settings → ℕ
most_asked settings = max (max 3 (length settings.hosted + 1)) (looks_most (most_rounds settings))

-- what a course owes from its beginning
pub record Duty : Type 0 where
  -- what is due for the bytes of a small body
  pub by_text : List ℕ → Option Close
  pub mode : ResponseMode
  pub most : ℕ
  pub stand : Stand

abbrev pub Fulfils : Duty → Course → Type 0
Fulfils duty course = Keeps duty.by_text duty.mode course duty.most duty.stand

-- to end so, and no more
abbrev pub to_end : Close → ResponseMode → Duty
to_end due mode = record { by_text = λ bytes. None; mode = mode; most = 0; stand = record idle { due = Some due } }

-- so for a request, for one that is refused by its head, and for what is no head
abbrev pub duty_of : Result Judged Refused → Bool → Duty
duty_of (Ok request) last = record {
  by_text = for_text request.intent;
  mode = mode_for request last;
  most = most_for request.intent;
  stand = at_first request.expects request.intent;
}
duty_of (Err refused) last = to_end (speaks (response.Refused refused.refusal)) (mode_refused refused last)

abbrev pub duty_without_head : HeadFault → Duty
duty_without_head fault = to_end (speaks (head_said fault)) (at_end false)
