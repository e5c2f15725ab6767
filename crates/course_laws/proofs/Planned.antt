-- The courses of a stream fetch what a look was answered to fetch, at once, and nothing else; or end the stream.
use Rattle.std.proofs.Common.{◌≡◌, ℕ, zero, suc, Bool, true, false, List, [], ◌∷◌, ◌++◌, Option, Some, None, Result, Ok, Err, refl, sym, subst}
use Rattle.std.specs.Prelude.{if◌then◌else◌}
use Rattle.fetch_plan.specs.declared.Outcome.{Outcome as Came}
use Rattle.fetch_plan.specs.declared.Outcome.TheVariants as came
use Rattle.fetch_plan.specs.declared.Plan.{Plan}
use Rattle.mvn_digest.specs.Sides.{read_side}
use Rattle.mvn_doc.specs.Reading.{reading}
use Rattle.mvn_metadata.specs.Document.{Document}
use Rattle.remote_fetch.specs.declared.contents.Content.{Content}
use Rattle.remote_fetch.specs.declared.contents.Content.TheVariants as content
use Rattle.remote_fetch.specs.declared.fetching.Checked.{Checked}
use Rattle.repo_model.specs.Command.{look}
use Rattle.repo_model.specs.Data.{Place, repository, session}
use Rattle.repo_model.specs.Reply.{Reply, file, missed, draft, fetches, landed}
use Rattle.repo_model.specs.Settings.{Settings}
use Rattle.repo_routes.specs.Intent.{Intent, Judged, reads as reads_path, puts_file, puts_side, puts_document, cleans as cleans_all}
use Rattle.repo_routes.specs.Judge.{judge}
use Rattle.repo_routes.specs.declared.judging.Refused.{Refused}
use Rattle.repo_course.specs.Course.{Body, Close, Course, Fetch, Kept, Outcome, Stored, speaks, rests, answers, asks, says, stops, closes, does, take_body, read_body, fetch, after_continue, after_fetch, after_land, after_store, fetch_fault, fetched, gives_any_up, is_group, looks, rounds_of, response_missed, stores, with_fault, without_memory, after_document, after_look, after_may_put, after_put, after_side, after_take, behind_fault, compares, course_for, course_of, cut_off, gives_up, invites, leaves_draft, mode_for, notes, of_fault, of_pass, of_sent, of_store, response_of, tells, with_unread}
use Rattle.repo_course.specs.declared.fetched.FetchFault.{FetchFault}
use Rattle.repo_course.specs.declared.fetched.Verdict.{Verdict}
use Rattle.repo_course.specs.declared.fetched.Verdict.TheVariants as verdict
use Rattle.repo_course.specs.declared.mode.ResponseMode.{ResponseMode}
use Rattle.repo_course.specs.declared.outcomes.Continued.{Continued}
use Rattle.repo_course.specs.declared.outcomes.Continued.TheVariants as continued
use Rattle.repo_course.specs.declared.response.Response.{Response}
use Rattle.repo_course.specs.declared.response.Response.TheVariants.{NoMemory}
use Rattle.repo_course.specs.Serving.{Opens, clean, torn, failed, refused, unread_head, starved, served, Outside}
use Rattle.course_laws.specs.AsPlayed.{planned_by}
use Rattle.course_laws.proofs.IoActions.{FetchesNone}

-- a course that looks for nothing more, fetches nothing and ends the stream by an answer
abbrev pub Ends : Course → Type 0
Ends (asks command next) = (reply : Reply) → (planned_by command reply ≡ []) × Ends (next reply)
Ends (does io_action next) = ⊥
Ends (says said mode) = mode.close ≡ true
Ends (stops end) = ⊥

-- a course before which these plans are to be fetched
abbrev pub AsPlanned : List Plan → Course → Type 0
AsPlanned [] (asks command next) = (reply : Reply) → AsPlanned (planned_by command reply) (next reply)
AsPlanned [] (does io_action next) = FetchesNone io_action × ((outcome : Outcome io_action) → AsPlanned [] (next outcome))
AsPlanned [] (says said mode) = Unit {0}
AsPlanned [] (stops end) = Unit {0}
AsPlanned (plan ∷ more) (asks command next) = (more ≡ []) × Ends (asks command next)
AsPlanned (plan ∷ more) (does io_action next) = (io_action ≡ fetch plan) × ((outcome : Outcome io_action) → AsPlanned more (next outcome))
AsPlanned (plan ∷ more) (says said mode) = (more ≡ []) × Ends (says said mode)
AsPlanned (plan ∷ more) (stops end) = (more ≡ []) × Ends (stops end)

module _ (mode : ResponseMode) where
  said-plans : (said : Response) → AsPlanned [] (answers mode said)
  said-plans NoMemory = tt
  said-plans said = tt

  closes-plans : (due : Close) → AsPlanned [] (closes mode due)
  closes-plans (speaks said) = said-plans said
  closes-plans (rests end) = tt

  tells-plans : (reply : Reply) → AsPlanned [] (tells mode reply)
  tells-plans reply = said-plans (response_of reply)

any-up-plans : (under : Option ℕ) (c : Course) → AsPlanned [] c → AsPlanned [] (gives_any_up under c)
any-up-plans None c so = so
any-up-plans (Some n) c so = λ reply. so

module _ (mode : ResponseMode) where
  -- a plan where no fetch may come any more
  unfetched-plans : (plan : Plan) (under : Option ℕ) → AsPlanned (plan ∷ []) (gives_any_up under (without_memory mode))
  unfetched-plans plan None = (refl, refl)
  unfetched-plans plan (Some n) = (refl, λ reply. (refl, refl))

  module _ (plan : Plan) where
    land-plans : (again : Course) → AsPlanned [] again → (reply : Reply) → AsPlanned [] (after_land mode plan.draft again reply)
    land-plans again so landed = so
    land-plans again so reply = any-up-plans plan.draft (tells mode reply) (tells-plans mode reply)

    stores-plans : (again : Course) → AsPlanned [] again → (checked : Checked) (under : Option ℕ) → AsPlanned [] (stores mode plan again checked under)
    stores-plans again so checked None = tt
    stores-plans again so checked (Some n) = (tt, tell) where
      tell : (kept : Kept) → AsPlanned [] (after_store mode plan again kept)
      tell (Ok blob) = land-plans again so
      tell (Err why) = any-up-plans plan.draft (closes mode (of_store why)) (closes-plans mode (of_store why))

    module _ (again : Option FetchFault → Course) (so : (why : Option FetchFault) → AsPlanned [] (again why)) where
      came-plans : (outcome : Came Content) → AsPlanned [] (fetched mode plan (again (fetch_fault outcome)) outcome)
      came-plans (came.Got (content.File checked)) = stores-plans (again None) (so None) checked plan.draft
      came-plans _ = land-plans (again _) (so _)

      fetch-plans : (outcome : Fetch) → AsPlanned [] (after_fetch mode plan again outcome)
      fetch-plans None = any-up-plans plan.draft (without_memory mode) tt
      fetch-plans (Some outcome) = came-plans outcome

  module _ (repo path tried : List ℕ) (so_far : Verdict) (behind : Plan → Course) (so : (plan : Plan) → AsPlanned (plan ∷ []) (behind plan)) where
    replies-plan : (reply : Reply) → AsPlanned (planned_by (look repo path tried) reply) (after_look mode so_far behind reply)
    replies-plan (file lease blob) = (tt, λ result reply. closes-plans mode (of_sent mode result))
    replies-plan missed = said-plans mode (response_missed so_far)
    replies-plan (fetches plan) = so plan
    replies-plan reply = said-plans mode (response_of reply)

  looks-plan : (rounds : ℕ) (repo path tried : List ℕ) (so_far : Verdict) → AsPlanned [] (looks mode rounds repo path tried so_far)
  looks-plan zero repo path tried so_far =
      replies-plan repo path tried so_far (λ plan. gives_any_up plan.draft (without_memory mode)) (λ plan. unfetched-plans plan plan.draft)
  looks-plan (suc rounds) repo path tried so_far =
      let again : Plan → Option FetchFault → Course = λ plan why. looks mode rounds repo path (tried ++ plan.member ∷ []) (with_fault so_far why) in
      replies-plan repo path tried so_far (λ plan. does (fetch plan) (after_fetch mode plan (again plan)))
      (λ plan. (refl, fetch-plans plan (again plan) (λ why. looks-plan rounds repo path (tried ++ plan.member ∷ []) (with_fault so_far why))))

  put-plans : (n : ℕ) (reply : Reply) → AsPlanned [] (after_put n mode reply)
  put-plans n reply =
      elim (leaves_draft reply) as (λ b. AsPlanned [] (if b then gives_up n (tells mode reply) else tells mode reply)) [
        | true ↦ λ dropped. tells-plans mode reply
        | false ↦ tells-plans mode reply
      ]

  take-plans : (place : Place) (path : List ℕ) (n count : ℕ) (stored : Stored) → AsPlanned [] (after_take place path n count mode stored)
  take-plans (repository repo) path n count (Ok blob) = put-plans n
  take-plans (session number) path n count (Ok blob) = put-plans n
  take-plans place path n count (Err fault) = λ reply. closes-plans (behind_fault count fault mode) (of_fault fault)

  invites-plan : (waits : Bool) (cut body : Course) → AsPlanned [] cut → AsPlanned [] body → AsPlanned [] (invites waits cut body)
  invites-plan false cut body cuts bodies = bodies
  invites-plan true cut body cuts bodies = (tt, pick) where
    pick : (result : Continued) → AsPlanned [] (after_continue cut body result)
    pick continued.Written = bodies
    pick continued.SinkFault = cuts

  may_put-plans : (place : Place) (path : List ℕ) (count : ℕ) (waits : Bool) (reply : Reply) → AsPlanned [] (after_may_put place path count waits mode reply)
  may_put-plans place path count waits (draft n) =
      invites-plan waits (gives_up n cut_off) (does (take_body n count) (after_take place path n count mode)) (λ reply. tt) (tt, take-plans place path n count)
  may_put-plans place path count waits reply = said-plans (with_unread count mode) (response_of reply)

  compares-plan : (place : Place) (path : List ℕ) (found : Option (List ℕ)) → AsPlanned [] (compares place path mode found)
  compares-plan place path (Some digest) = tells-plans mode
  compares-plan place path None = tt

  notes-plan : (place : Place) (path : List ℕ) (document : Result Document ℕ) → AsPlanned [] (notes place path mode document)
  notes-plan place path (Ok document) = tells-plans mode
  notes-plan place path (Err at) = tt

  for-plans : (expects : Bool) (intent : Intent) → AsPlanned [] (course_for mode expects intent)
  for-plans expects (reads_path repo path sort) = looks-plan (rounds_of sort) repo path [] (verdict.Unasked (is_group sort))
  for-plans expects (puts_file place path count) = may_put-plans place path count expects
  for-plans expects (puts_side place path side count) = invites-plan expects cut_off (does (read_body count) (after_side place path side mode)) tt (tt, tell) where
    tell : (body : Body) → AsPlanned [] (after_side place path side mode body)
    tell (Ok bytes) = compares-plan place path (read_side side bytes)
    tell (Err fault) = closes-plans mode (of_fault fault)
  for-plans expects (puts_document place path count) = invites-plan expects cut_off (does (read_body count) (after_document place path mode)) tt (tt, tell) where
    tell : (body : Body) → AsPlanned [] (after_document place path mode body)
    tell (Ok bytes) = notes-plan place path (reading bytes)
    tell (Err fault) = closes-plans mode (of_fault fault)
  for-plans expects (cleans_all repos) = (tt, λ pass. closes-plans mode (of_pass pass))
  for-plans expects _ = tells-plans mode

judged-plans : (judged : Result Judged Refused) (last : Bool) → AsPlanned [] (course_of judged last)
judged-plans (Ok request) last = for-plans (mode_for request last) request.expects request.intent
judged-plans (Err cause) last = tt

pub opens-plan : (settings : Settings) (last : Bool) (old new : Outside) (c : Course) → Opens settings last old new c → AsPlanned [] c
opens-plan settings last old new c (clean begins still is) = subst (AsPlanned []) (sym is) tt
opens-plan settings last old new c (torn begins still is) = subst (AsPlanned []) (sym is) tt
opens-plan settings last old new c (failed faults rose still is) = subst (AsPlanned []) (sym is) tt
opens-plan settings last old new c (refused fault begins still is) = subst (AsPlanned []) (sym is) tt
opens-plan settings last old new c (unread_head begins still is) = subst (AsPlanned []) (sym is) tt
opens-plan settings last old new c (starved head rest begins uses is) = subst (AsPlanned []) (sym is) tt
opens-plan settings last old new c (served head rest begins uses is) = subst (AsPlanned []) (sym is) (judged-plans (judge settings head) last)
