-- The courses of a stream do what they owe.
use Rattle.std.proofs.Common.{◌≡◌, ℕ, zero, suc, Bool, true, false, List, [], ◌∷◌, ◌++◌, Option, Some, None, Result, Ok, Err, arith, refl, sym, subst, ap}
use Rattle.fetch_plan.specs.declared.Outcome.{Outcome as Came}
use Rattle.fetch_plan.specs.declared.Outcome.TheVariants as came
use Rattle.fetch_plan.specs.declared.Plan.{Plan}
use Rattle.outside.specs.declared.faults.BlobFault.TheVariants as unstored
use Rattle.remote_fetch.specs.declared.contents.Content.{Content}
use Rattle.remote_fetch.specs.declared.contents.Content.TheVariants as content
use Rattle.remote_fetch.specs.declared.fetching.Checked.{Checked}
use Rattle.std.specs.Prelude.{if◌then◌else◌, unwrap_or}
use Rattle.http_wire.specs.declared.faults.HeadFault.{HeadFault}
use Rattle.http_wire.specs.declared.faults.HeadFault.TheVariants.{Broken, TooLong}
use Rattle.mvn_digest.specs.Sides.{read_side}
use Rattle.mvn_doc.specs.Reading.{reading}
use Rattle.mvn_metadata.specs.Document.{Document}
use Rattle.repo_model.specs.Command.{look, may_put, land}
use Rattle.repo_model.specs.Data.{Blob, Place, repository, session}
use Rattle.repo_model.specs.Fetched.{Landing, got_file, got_doc}
use Rattle.repo_model.specs.Reply.{Reply, file, missed, draft, taken, same, relisted, created, no_session, session_full, staged, fetches, landed}
use Rattle.repo_model.specs.Settings.{Settings}
use Rattle.repo_routes.specs.Framing.{is_head}
use Rattle.repo_routes.specs.Intent.{Intent, Judged, reads as reads_path, puts_file, puts_side, puts_document, asks as asks_one, cleans as cleans_all, opens, commits, aborts}
use Rattle.repo_routes.specs.Judge.{judge}
use Rattle.repo_routes.specs.declared.judging.Refused.{Refused}
use Rattle.repo_course.specs.Answers.{at_end}
use Rattle.repo_course.specs.Course.{Body, Close, Course, Fetch, Kept, Stored, speaks, rests, answers, asks, says, stops, closes, does, invite, take_body, read_body, fetch, store_fetched, after_continue, after_fetch, after_land, after_store, fetch_fault, fetched, gives_any_up, is_group, lands, looks, rounds_of, response_missed, stores, with_fault, without_memory, after_document, after_look, after_may_put, after_put, after_side, after_take, compares, course_for, course_of, cut_off, gives_up, invites, mode_for, notes, of_fault, of_pass, of_sent, refuses_head, response_of, tells, with_unread}
use Rattle.repo_course.specs.declared.fetched.FetchFault.{FetchFault}
use Rattle.repo_course.specs.declared.fetched.Verdict.{Verdict}
use Rattle.repo_course.specs.declared.fetched.Verdict.TheVariants as verdict
use Rattle.repo_course.specs.declared.mode.ResponseMode.{ResponseMode}
use Rattle.repo_course.specs.declared.outcomes.Continued.{Continued}
use Rattle.repo_course.specs.declared.outcomes.Continued.TheVariants as continued
use Rattle.repo_course.specs.declared.outcomes.End.TheVariants as stream
use Rattle.repo_course.specs.declared.response.Response.{Response}
use Rattle.repo_course.specs.declared.outcomes.Took.TheVariants as took
use Rattle.repo_course.specs.declared.response.Response.TheVariants as response
use Rattle.repo_course.specs.declared.response.Response.TheVariants.{NoMemory}
use Rattle.repo_course.specs.Serving.{Opens, clean, torn, failed, refused, unread_head, starved, served, Outside}
use Rattle.course_laws.specs.Duties.{AnswersDue, Duty, Fulfils, Keeps, Stand, left_by, at_first, by_digest, by_document, duty_of, duty_without_head, for_text, idle, landing_by, looks_most, most_for, twice, spends_draft, stand_after, stand_done, to_end}
use Rattle.repo_course.specs.IoActions.{drawn_for, draft_after_fetch}
use Rattle.course_laws.specs.IoActions.{due_behind}

-- nothing is held, but for a blob
abbrev empty : Option ℕ → Bool → Option Blob → Option Blob → Option Close → Stand
empty unread waits stored lent due = record idle { unread = unread; waits = waits; stored = stored; lent = lent; due = due }

-- a draft is held
abbrev drawn : ℕ → Option ℕ → Bool → Option Blob → Option Close → Stand
drawn n unread waits stored due = record idle { draft = Some n; unread = unread; waits = waits; stored = stored; due = due }

-- a look is to come, after which so many fetches may come
abbrev looking : List ℕ → List ℕ → ℕ → List ℕ → Verdict → Option Blob → Stand
looking repo path rounds tried so_far stored =
    record idle { kept = stored; target = Some (repo, path); rounds = record { left = rounds; tried = tried; so_far = so_far } }

-- a plan is to be fetched, stored and landed
abbrev planned : List ℕ → List ℕ → ℕ → List ℕ → Verdict → Plan → Fetch → Option Blob → Stand
planned repo path rounds tried so_far plan outcome stored =
    record (looking repo path (suc rounds) tried so_far stored) { draft = plan.draft; plan = Some plan; came = outcome }

module _ (by_text : List ℕ → Option Close) (mode : ResponseMode) where
  abbrev Owes : Course → ℕ → Stand → Type 0
  Owes c n s = Keeps by_text mode c n s

  answers-keep : (said : Response) (n : ℕ) (unread : Option ℕ) (waits : Bool) (stored lent : Option Blob)
      → Owes (answers (with_unread (unwrap_or unread 0) mode) said) n (empty unread waits stored lent (Some (speaks said)))
  answers-keep NoMemory n unread waits stored lent = ((refl, refl), refl, refl)
  answers-keep _ n unread waits stored lent = ((refl, refl), refl, refl)

  closes-keep : (due : Close) (n : ℕ) (stored lent : Option Blob) → Owes (closes mode due) n (empty None false stored lent (Some due))
  closes-keep (speaks said) n stored lent = answers-keep said n None false stored lent
  closes-keep (rests end) n stored lent = ((refl, refl), refl, λ goes. refl)

  tells-keep : (reply : Reply) (n : ℕ) (stored : Option Blob) → Owes (tells mode reply) n (empty None false stored None (Some (speaks (response_of reply))))
  tells-keep reply n stored = closes-keep (speaks (response_of reply)) n stored None

  -- an answer where nothing is held, and no body is unread
  said-keeps : (said : Response) (n : ℕ) (s : Stand) → s.draft ≡ None → s.lease ≡ None → s.unread ≡ None → s.due ≡ Some (speaks said) → Owes (answers mode said) n s
  said-keeps NoMemory n s given back read due = ((given, back), due, refl)
  said-keeps said n s given back read due = ((given, back), due, sym (ap (λ (u : Option ℕ). with_unread (unwrap_or u 0) mode) read))

  ends-keep : (due : Close) (n : ℕ) (s : Stand) → s.draft ≡ None → s.lease ≡ None → s.unread ≡ None → s.due ≡ Some due → Owes (closes mode due) n s
  ends-keep (speaks said) n s given back read due = said-keeps said n s given back read due
  ends-keep (rests end) n s given back read due = ((given, back), due, λ goes. read)

  -- the same once a draft is given up, where there is one
  any-up-keeps : (under : Option ℕ) (said : Response) (n : ℕ) (s : Stand) → s.draft ≡ under → s.lease ≡ None → s.unread ≡ None → s.due ≡ Some (speaks said)
      → Owes (gives_any_up under (answers mode said)) (suc n) s
  any-up-keeps None said n s given back read due = said-keeps said (suc n) s given back read due
  any-up-keeps (Some k) said n s given back read due = (given, λ dropped. said-keeps said n (record s { draft = None }) refl back read due)

  module _ (repo path : List ℕ) (rounds : ℕ) (tried : List ℕ) (so_far : Verdict) (plan : Plan) (again : Course) where
    -- what comes of a fetch lands, and then the path is looked at again
    land-keeps : (came : Fetch) (stored : Option Blob) (outcome : Landing) → landing_by came stored ≡ Some outcome
        → Owes again (looks_most rounds) (looking repo path rounds (tried ++ plan.member ∷ []) (with_fault so_far (fetch_fault outcome)) stored)
        → Owes (lands mode plan again outcome) (suc (looks_most rounds)) (planned repo path rounds tried so_far plan came stored)
    land-keeps came stored outcome is rest = (((refl, (refl, refl, refl)), refl, refl, is), replies)
      where
        replies : (reply : Reply) → Owes (after_land mode plan.draft again reply) (looks_most rounds) (stand_after (land plan outcome) reply (planned repo path rounds tried so_far plan came stored))
        replies landed = rest
        replies reply = any-up-keeps plan.draft (response_of reply) (suc (twice rounds)) (stand_after (land plan outcome) reply (planned repo path rounds tried so_far plan came stored)) refl refl refl refl

    -- a file is stored first
    stores-keep : (checked : Checked) (under : Option ℕ) → plan.draft ≡ under
        → ((stored : Option Blob) → Owes again (looks_most rounds) (looking repo path rounds (tried ++ plan.member ∷ []) (with_fault so_far None) stored))
        → Owes (stores mode plan again checked under) (suc (looks_most rounds))
        (record (planned repo path rounds tried so_far plan (Some (came.Got (content.File checked))) None) { due = due_behind by_text (drawn_for under) None })
    stores-keep checked None is rest = ((is, refl), refl, refl)
    stores-keep checked (Some n) is rest = ((refl, ((refl, refl, refl), is, refl)), omega arith, tell)
      where
        tell : (kept : Kept) → Owes (after_store mode plan again kept) (suc (looks_most rounds))
            (stand_done by_text (store_fetched n checked) kept (planned repo path rounds tried so_far plan (Some (came.Got (content.File checked))) None))
        tell (Ok blob) = land-keeps (Some (came.Got (content.File checked))) (Some blob) (came.Got (got_file blob)) refl (rest (Some blob))
        tell (Err unstored.Failed) = any-up-keeps plan.draft response.BlobFault (looks_most rounds) _ refl refl refl refl
        tell (Err unstored.NoMemory) = any-up-keeps plan.draft NoMemory (looks_most rounds) _ refl refl refl refl

  -- one round: a plan is fetched, and what came of it lands
  module _ (repo path : List ℕ) (rounds : ℕ) (tried : List ℕ) (so_far : Verdict) (plan : Plan) (again : Option FetchFault → Course)
      (rest : (why : Option FetchFault) (stored : Option Blob) → Keeps by_text mode (again why) (looks_most rounds) (looking repo path rounds (tried ++ plan.member ∷ []) (with_fault so_far why) stored)) where
    came-keeps : (outcome : Came Content) → Owes (fetched mode plan (again (fetch_fault outcome)) outcome) (suc (looks_most rounds))
        (record (planned repo path rounds tried so_far plan (Some outcome) None) { due = due_behind by_text (draft_after_fetch (Some outcome) plan.draft) None })
    came-keeps (came.Got (content.File checked)) = stores-keep repo path rounds tried so_far plan (again None) checked plan.draft refl (rest None)
    came-keeps (came.Got (content.Doc document)) =
        land-keeps repo path rounds tried so_far plan (again None) (Some (came.Got (content.Doc document))) None (came.Got (got_doc document)) refl (rest None None)
    came-keeps came.Gone = land-keeps repo path rounds tried so_far plan (again None) (Some came.Gone) None came.Gone refl (rest None None)
    came-keeps (came.Refused code) = land-keeps repo path rounds tried so_far plan (again _) (Some (came.Refused code)) None (came.Refused code) refl (rest _ None)
    came-keeps came.NoChecksum = land-keeps repo path rounds tried so_far plan (again _) (Some came.NoChecksum) None came.NoChecksum refl (rest _ None)
    came-keeps (came.Differs said found) = land-keeps repo path rounds tried so_far plan (again _) (Some (came.Differs said found)) None (came.Differs said found) refl (rest _ None)
    came-keeps came.TooLarge = land-keeps repo path rounds tried so_far plan (again _) (Some came.TooLarge) None came.TooLarge refl (rest _ None)
    came-keeps (came.BadAnswer at) = land-keeps repo path rounds tried so_far plan (again _) (Some (came.BadAnswer at)) None (came.BadAnswer at) refl (rest _ None)
    came-keeps (came.BadDocument at) = land-keeps repo path rounds tried so_far plan (again _) (Some (came.BadDocument at)) None (came.BadDocument at) refl (rest _ None)
    came-keeps came.Fault = land-keeps repo path rounds tried so_far plan (again _) (Some came.Fault) None came.Fault refl (rest _ None)

    round-keeps : (stored : Option Blob) → Owes (does (fetch plan) (after_fetch mode plan again)) (suc (looks_most rounds)) (planned repo path rounds tried so_far plan None stored)
    round-keeps stored = ((refl, ((refl, refl, refl), refl, refl, refl)), omega arith, tell)
      where
        tell : (outcome : Fetch) → Owes (after_fetch mode plan again outcome) (suc (looks_most rounds)) (stand_done by_text (fetch plan) outcome (planned repo path rounds tried so_far plan None stored))
        tell None = any-up-keeps plan.draft NoMemory (looks_most rounds) _ refl refl refl refl
        tell (Some outcome) = came-keeps outcome

  -- what follows the reply to a look, where this follows a plan
  replies-keep : (repo path tried : List ℕ) (so_far : Verdict) (behind : Plan → Course) (rounds n : ℕ) (stored : Option Blob)
      → ((plan : Plan) → Owes (behind plan) (suc n) (stand_after (look repo path tried) (fetches plan) (looking repo path rounds tried so_far stored)))
      → (reply : Reply) → Owes (after_look mode so_far behind reply) (suc n) (stand_after (look repo path tried) reply (looking repo path rounds tried so_far stored))
  replies-keep repo path tried so_far behind rounds n stored plans (file lease blob) =
      ((refl, ((refl, refl, refl), refl, refl, refl)), omega arith, λ result. (refl, λ reply. ends-keep (of_sent mode result) n _ refl refl refl refl))
  replies-keep repo path tried so_far behind rounds n stored plans missed =
      said-keeps (response_missed so_far) (suc n) (stand_after (look repo path tried) missed (looking repo path rounds tried so_far stored)) refl refl refl refl
  replies-keep repo path tried so_far behind rounds n stored plans (fetches plan) = plans plan
  replies-keep repo path tried so_far behind rounds n stored plans reply =
      said-keeps (response_of reply) (suc n) (stand_after (look repo path tried) reply (looking repo path rounds tried so_far stored)) refl refl refl refl

  looks-keep : (rounds : ℕ) (repo path tried : List ℕ) (so_far : Verdict) (stored : Option Blob)
      → Owes (looks mode rounds repo path tried so_far) (looks_most rounds) (looking repo path rounds tried so_far stored)
  looks-keep zero repo path tried so_far stored = (
    ((refl, (refl, refl, refl)), refl, refl, refl, refl, refl),
    replies-keep repo path tried so_far (λ plan. gives_any_up plan.draft (without_memory mode)) 0 0 stored
        (λ plan. any-up-keeps plan.draft NoMemory 0 (stand_after (look repo path tried) (fetches plan) (looking repo path 0 tried so_far stored)) refl refl refl refl),
  )
  looks-keep (suc rounds) repo path tried so_far stored =
      let behind : Plan → Course = λ plan. does (fetch plan) (after_fetch mode plan (λ why. looks mode rounds repo path (tried ++ plan.member ∷ []) (with_fault so_far why))) in (
        ((refl, (refl, refl, refl)), refl, refl, refl, refl, refl),
        replies-keep repo path tried so_far behind (suc rounds) (looks_most rounds) stored
            (λ plan. round-keeps repo path rounds tried so_far plan (λ why. looks mode rounds repo path (tried ++ plan.member ∷ []) (with_fault so_far why))
            (λ why kept. looks-keep rounds repo path (tried ++ plan.member ∷ []) (with_fault so_far why) kept) stored),
      )

  put-keeps : (n : ℕ) (blob : Blob) (reply : Reply) → Owes (after_put n mode reply) 1
      (record (drawn n None false (Some blob) (Some (speaks (response_of reply)))) { draft = if spends_draft reply then None else Some n })
  put-keeps n blob (taken kept given) = tells-keep (taken kept given) 1 (Some blob)
  put-keeps n blob same = tells-keep same 1 (Some blob)
  put-keeps n blob relisted = tells-keep relisted 1 (Some blob)
  put-keeps n blob created = tells-keep created 1 (Some blob)
  put-keeps n blob no_session = tells-keep no_session 1 (Some blob)
  put-keeps n blob session_full = tells-keep session_full 1 (Some blob)
  put-keeps n blob staged = tells-keep staged 1 (Some blob)
  put-keeps n blob reply = (refl, λ dropped. tells-keep reply 0 (Some blob))

  take-keeps : (place : Place) (path : List ℕ) (n count : ℕ) (stored : Stored)
      → Owes (after_take place path n count mode stored) 2 (stand_done by_text (take_body n count) stored (drawn n (Some count) false None None))
  take-keeps (repository repo) path n count (Ok blob) = (((refl, (refl, refl, refl)), refl, refl), put-keeps n blob)
  take-keeps (session number) path n count (Ok blob) = (((refl, (refl, refl, refl)), refl, refl), put-keeps n blob)
  take-keeps place path n count (Err (took.BlobFault true)) = (refl, λ reply. answers-keep response.BlobFault 1 (Some count) false None None)
  take-keeps place path n count (Err (took.BlobFault false)) = (refl, λ reply. answers-keep response.BlobFault 1 None false None None)
  take-keeps place path n count (Err took.Torn) = (refl, λ reply. closes-keep (of_fault took.Torn) 1 None None)
  take-keeps place path n count (Err took.SourceFault) = (refl, λ reply. closes-keep (of_fault took.SourceFault) 1 None None)
  take-keeps place path n count (Err took.NoMemory) = (refl, λ reply. answers-keep NoMemory 1 None false None None)

  -- a body that is read, before which the client waits or not
  invites-keep : (waits : Bool) (cut body : Course) (n : ℕ) (s : Stand) → s.due ≡ None
      → Owes cut n (record s { waits = false; due = Some (rests (Some stream.SinkFault)) }) → Owes body n (record s { waits = false })
      → Owes (invites waits cut body) n (record s { waits = waits })
  invites-keep false cut body n s going cuts bodies = bodies
  invites-keep true cut body n s going cuts bodies = ((going, refl), omega arith, pick)
    where
      pick : (result : Continued) → Owes (after_continue cut body result) n (stand_done by_text invite result (record s { waits = true }))
      pick continued.Written = bodies
      pick continued.SinkFault = cuts

  may_put-keeps : (place : Place) (path : List ℕ) (count : ℕ) (waits : Bool) (reply : Reply)
      → Owes (after_may_put place path count waits mode reply) 2 (stand_after (may_put place path) reply (empty (Some count) waits None None None))
  may_put-keeps place path count waits (draft n) =
      invites-keep waits (gives_up n cut_off) (does (take_body n count) (after_take place path n count mode)) 2 (drawn n (Some count) false None None) refl
      (refl, λ reply. ((refl, refl), refl, λ goes. cc))
      ((refl, (refl, refl, refl)), omega arith, take-keeps place path n count)
  may_put-keeps place path count waits reply = answers-keep (response_of reply) 2 (Some count) waits None None

  small-keeps : (waits : Bool) (count : ℕ) (next : Body → Course)
      → ((body : Body) → Owes (next body) 3 (stand_done by_text (read_body count) body (empty (Some count) false None None None)))
      → Owes (invites waits cut_off (does (read_body count) next)) 3 (empty (Some count) waits None None None)
  small-keeps waits count next keeps =
      invites-keep waits cut_off (does (read_body count) next) 3 (empty (Some count) false None None None) refl ((refl, refl), refl, λ goes. cc)
      ((refl, (refl, refl)), omega arith, keeps)

  compares-keep : (place : Place) (path : List ℕ) (found : Option (List ℕ)) → Owes (compares place path mode found) 3 (empty None false None None (by_digest found))
  compares-keep place path (Some digest) = ((refl, (refl, refl, refl)), λ reply. tells-keep reply 2 None)
  compares-keep place path None = ((refl, refl), refl, refl)

  notes-keep : (place : Place) (path : List ℕ) (document : Result Document ℕ)
      → Owes (notes place path mode document) 3 (empty None false None None (by_document document))
  notes-keep place path (Ok document) = ((refl, (refl, refl, refl)), λ reply. tells-keep reply 2 None)
  notes-keep place path (Err at) = ((refl, refl), refl, refl)

module _ (mode : ResponseMode) where
  for-keeps : (expects : Bool) (intent : Intent) → Keeps (for_text intent) mode (course_for mode expects intent) (most_for intent) (at_first expects intent)
  for-keeps expects (reads_path repo path of_sort) =
      looks-keep (for_text (reads_path repo path of_sort)) mode (rounds_of of_sort) repo path [] (verdict.Unasked (is_group of_sort)) None
  for-keeps expects (puts_file place path count) = ((refl, refl, refl), may_put-keeps (for_text (puts_file place path count)) mode place path count expects)
  for-keeps expects (puts_side place path side count) = small-keeps (for_text (puts_side place path side count)) mode expects count (after_side place path side mode) tell
    where
      tell : (body : Body) → Keeps (for_text (puts_side place path side count)) mode (after_side place path side mode body) 3
          (stand_done (for_text (puts_side place path side count)) (read_body count) body (empty (Some count) false None None None))
      tell (Ok bytes) = compares-keep (for_text (puts_side place path side count)) mode place path (read_side side bytes)
      tell (Err fault) = closes-keep (for_text (puts_side place path side count)) mode (of_fault fault) 3 None None
  for-keeps expects (puts_document place path count) = small-keeps (for_text (puts_document place path count)) mode expects count (after_document place path mode) tell
    where
      tell : (body : Body) → Keeps (for_text (puts_document place path count)) mode (after_document place path mode body) 3
          (stand_done (for_text (puts_document place path count)) (read_body count) body (empty (Some count) false None None None))
      tell (Ok bytes) = notes-keep (for_text (puts_document place path count)) mode place path (reading bytes)
      tell (Err fault) = closes-keep (for_text (puts_document place path count)) mode (of_fault fault) 3 None None
  for-keeps expects (cleans_all repos) =
      ((refl, (refl, refl, refl, (refl, refl))), omega arith, λ pass. closes-keep (for_text (cleans_all repos)) mode (of_pass pass) 0 None None)
  for-keeps expects (asks_one question) = ((refl, (refl, refl, refl)), λ reply. tells-keep (for_text (asks_one question)) mode reply 2 None)
  for-keeps expects (opens repo) = ((refl, (refl, refl, refl)), λ reply. tells-keep (for_text (opens repo)) mode reply 2 None)
  for-keeps expects (commits n) = ((refl, (refl, refl, refl)), λ reply. tells-keep (for_text (commits n)) mode reply 2 None)
  for-keeps expects (aborts n) = ((refl, (refl, refl, refl)), λ reply. tells-keep (for_text (aborts n)) mode reply 2 None)

pub judged-keeps : (judged : Result Judged Refused) (last : Bool) → Fulfils (duty_of judged last) (course_of judged last)
judged-keeps (Ok request) last = for-keeps (mode_for request last) request.expects request.intent
judged-keeps (Err cause) last = ((refl, refl), refl, refl)

pub no-head-keeps : (fault : HeadFault) → Fulfils (duty_without_head fault) (refuses_head fault)
no-head-keeps Broken = ((refl, refl), refl, refl)
no-head-keeps TooLong = ((refl, refl), refl, refl)

-- what a course owes that a stream comes to
abbrev pub duty_at : {settings : Settings} {last : Bool} {old new : Outside} {c : Course} → Opens settings last old new c → Duty
duty_at (clean begins still is) = to_end (rests (Some stream.Closed)) (at_end false)
duty_at (torn begins still is) = to_end (rests (Some stream.TornRequest)) (at_end false)
duty_at (failed faults rose still is) = to_end (rests (Some stream.SourceFault)) (at_end false)
duty_at (refused fault begins still is) = duty_without_head fault
duty_at (unread_head begins still is) = to_end (speaks NoMemory) (at_end false)
duty_at (starved head rest begins uses is) = to_end (speaks NoMemory) (at_end (is_head head))
duty_at {settings} {last} (served head rest begins uses is) = duty_of (judge settings head) last

pub opens-keeps : (settings : Settings) (last : Bool) (old new : Outside) (c : Course) (o : Opens settings last old new c) → Fulfils (duty_at o) c
opens-keeps settings last old new c (clean begins still is) = subst (Fulfils (to_end (rests (Some stream.Closed)) (at_end false))) (sym is) ((refl, refl), refl, λ goes. refl)
opens-keeps settings last old new c (torn begins still is) = subst (Fulfils (to_end (rests (Some stream.TornRequest)) (at_end false))) (sym is) ((refl, refl), refl, λ goes. refl)
opens-keeps settings last old new c (failed faults rose still is) = subst (Fulfils (to_end (rests (Some stream.SourceFault)) (at_end false))) (sym is) ((refl, refl), refl, λ goes. refl)
opens-keeps settings last old new c (refused fault begins still is) = subst (Fulfils (duty_without_head fault)) (sym is) (no-head-keeps fault)
opens-keeps settings last old new c (unread_head begins still is) = subst (Fulfils (to_end (speaks NoMemory) (at_end false))) (sym is) ((refl, refl), refl, refl)
opens-keeps settings last old new c (starved head rest begins uses is) = subst (Fulfils (to_end (speaks NoMemory) (at_end (is_head head)))) (sym is) ((refl, refl), refl, refl)
opens-keeps settings last old new c (served head rest begins uses is) = subst (Fulfils (duty_of (judge settings head) last)) (sym is) (judged-keeps (judge settings head) last)

-- a course that does what it owes answers what is due
module _ (by_text : List ℕ → Option Close) (mode : ResponseMode) where
  pub keeps-answers : (c : Course) (n : ℕ) (s : Stand) → Keeps by_text mode c n s → AnswersDue by_text c s.rounds s.due
  keeps-answers (asks command next) zero s k = absurd k
  keeps-answers (asks command next) (suc n) s k = λ reply. keeps-answers (next reply) n (stand_after command reply s) (k.1 reply)
  keeps-answers (does io_action next) n s k = λ outcome. keeps-answers (next outcome) (left_by io_action n) (stand_done by_text io_action outcome s) (k.2 outcome)
  keeps-answers (says said own) n s k = k.1
  keeps-answers (stops end) n s k = k.1
