-- A file is sent next only after a reply that gave it.
use Rattle.std.proofs.Common.{◌≡◌, ℕ, zero, suc, Bool, true, false, List, Option, Some, None, Result, Ok, Err, inl, inr, refl, sym, subst}
use Rattle.std.specs.Prelude.{if◌then◌else◌}
use Rattle.fetch_plan.specs.declared.Outcome.TheVariants as came
use Rattle.fetch_plan.specs.declared.Plan.{Plan}
use Rattle.http_wire.specs.declared.faults.WireFault.{WireFault}
use Rattle.http_wire.specs.declared.faults.WireFault.TheVariants as wire
use Rattle.http_wire.specs.Head.{Head}
use Rattle.mvn_digest.specs.Sides.{read_side}
use Rattle.remote_fetch.specs.declared.contents.Content.TheVariants as content
use Rattle.remote_fetch.specs.declared.fetching.Checked.{Checked}
use Rattle.repo_model.specs.Data.{Blob, Place}
use Rattle.repo_model.specs.Reply.{Reply, file, draft, fetches, landed, missed}
use Rattle.repo_model.specs.Settings.{Settings}
use Rattle.repo_routes.specs.Intent as judged
use Rattle.repo_routes.specs.Intent.{Intent, Judged}
use Rattle.repo_routes.specs.Judge.{judge}
use Rattle.repo_routes.specs.declared.judging.Refused.{Refused}
use Rattle.repo_course.specs.Acts as act
use Rattle.repo_course.specs.Acts.{IsAfterBody, IsAfterFetch, Starts, after_body, after_head, after_reply, left_of_plan, looks_again, looks_next}
use Rattle.repo_course.specs.Course.{Body, Close, Course, Fetch, Kept, Stored, after_document, after_fetch, after_land, after_look, after_may_put, after_put, after_side, after_store, after_take, answers, closes, compares, course_for, course_of, cut_off, does, gives_any_up, gives_up, invites, leaves_draft, looks, mode_for, notes, of_fault, of_sent, of_store, rests, rounds_of, response_missed, response_of, speaks, stores, take_body, read_body, tells, without_memory}
use Rattle.repo_course.specs.declared.act.After.{After}
use Rattle.repo_course.specs.declared.act.After.TheVariants as after
use Rattle.repo_course.specs.declared.act.Again.{Again}
use Rattle.repo_course.specs.declared.act.Form.{Form}
use Rattle.repo_course.specs.declared.act.Form.TheVariants.{Side as SideForm, Document as DocumentForm}
use Rattle.repo_course.specs.declared.act.SmallBody.{SmallBody}
use Rattle.repo_course.specs.declared.fetched.FetchFault.{FetchFault}
use Rattle.repo_course.specs.declared.fetched.Verdict.{Verdict}
use Rattle.repo_course.specs.declared.mode.ResponseMode.{ResponseMode}
use Rattle.repo_course.specs.declared.response.Response.{Response}
use Rattle.repo_course.specs.declared.response.Response.TheVariants as response
use Rattle.repo_course.specs.SendsOnly.{SendsOnly}

module _ (Holds : Blob → Type 0) where
  answers-send : (mode : ResponseMode) (what : Response) → SendsOnly Holds (answers mode what)
  answers-send mode response.NoMemory = tt
  answers-send mode _ = tt

  pub closes-send : (mode : ResponseMode) (close : Close) → SendsOnly Holds (closes mode close)
  closes-send mode (speaks what) = answers-send mode what
  closes-send mode (rests end) = tt

  any-up-sends : (held : Option ℕ) (next : Course) → SendsOnly Holds next → SendsOnly Holds (gives_any_up held next)
  any-up-sends None next sends = sends
  any-up-sends (Some n) next sends = tt

  invites-send : (expects : Bool) (cut body : Course) → SendsOnly Holds body → SendsOnly Holds (invites expects cut body)
  invites-send true cut body sends = tt
  invites-send false cut body sends = sends

  -- after a look
  plan-sends : (mode : ResponseMode) (so_far : Verdict) (again : Option Again) (plan : Plan) → SendsOnly Holds (left_of_plan mode so_far again plan)
  plan-sends mode so_far None plan = any-up-sends plan.draft (without_memory mode) tt
  plan-sends mode so_far (Some a) plan = tt

  look-sends : (mode : ResponseMode) (so_far : Verdict) (again : Option Again) (reply : Reply) → ((lease : ℕ) (blob : Blob) → reply ≡ file lease blob → Holds blob)
      → SendsOnly Holds (after_look mode so_far (left_of_plan mode so_far again) reply)
  look-sends mode so_far again (file lease blob) lent = lent lease blob refl
  look-sends mode so_far again missed lent = answers-send mode (response_missed so_far)
  look-sends mode so_far again (fetches plan) lent = plan-sends mode so_far again plan
  look-sends mode so_far again reply lent = answers-send mode (response_of reply)

  put-sends : (n : ℕ) (mode : ResponseMode) (reply : Reply) → SendsOnly Holds (after_put n mode reply)
  put-sends n mode reply =
      elim (leaves_draft reply) as (λ b. SendsOnly Holds (if b then gives_up n (tells mode reply) else tells mode reply)) [
        | true ↦ tt
        | false ↦ answers-send mode (response_of reply)
      ]

  may-put-sends : (place : Place) (path : List ℕ) (count : ℕ) (expects : Bool) (mode : ResponseMode) (reply : Reply)
      → SendsOnly Holds (after_may_put place path count expects mode reply)
  may-put-sends place path count expects mode (draft n) =
      invites-send expects (gives_up n cut_off) (does (take_body n count) (after_take place path n count mode)) tt
  may-put-sends place path count expects mode reply = tt

  land-sends : (mode : ResponseMode) (held : Option ℕ) (again : Course) → SendsOnly Holds again → (reply : Reply) → SendsOnly Holds (after_land mode held again reply)
  land-sends mode held again sends landed = sends
  land-sends mode held again sends reply = any-up-sends held (tells mode reply) (answers-send mode (response_of reply))

  -- After a reply a file is sent next only where the reply gave it.
  pub reply-sends : (mode : ResponseMode) (behind : After) (reply : Reply) → ((lease : ℕ) (blob : Blob) → reply ≡ file lease blob → Holds blob)
      → SendsOnly Holds (after_reply mode behind reply)
  reply-sends mode (after.Look so_far again) reply lent = look-sends mode so_far again reply lent
  reply-sends mode (after.Done sent) reply lent = closes-send mode (of_sent mode sent)
  reply-sends mode (after.MayPut place path count expects) reply lent = may-put-sends _ path count expects mode reply
  reply-sends mode (after.Put n) reply lent = put-sends n mode reply
  reply-sends mode after.Tell reply lent = answers-send mode (response_of reply)
  reply-sends mode (after.Say what) reply lent = answers-send mode what
  reply-sends mode (after.SayUnread what count) reply lent = answers-send _ what
  reply-sends mode (after.Stop end) reply lent = tt
  reply-sends mode (after.Land held next) reply lent = land-sends mode held (looks_next mode next) tt reply

  -- After an I/O action none is.
  pub take-sends : (place : Place) (path : List ℕ) (n count : ℕ) (mode : ResponseMode) (stored : Stored) → SendsOnly Holds (after_take place path n count mode stored)
  take-sends place path n count mode (Ok blob) = tt
  take-sends place path n count mode (Err fault) = tt

  compares-sends : (place : Place) (path : List ℕ) (mode : ResponseMode) (digest : Option (List ℕ)) → SendsOnly Holds (compares place path mode digest)
  compares-sends place path mode (Some digest) = tt
  compares-sends place path mode None = tt

  notes-sends : (place : Place) (path : List ℕ) (mode : ResponseMode) (document : _) → SendsOnly Holds (notes place path mode document)
  notes-sends place path mode (Ok document) = tt
  notes-sends place path mode (Err at) = tt

  body-sends : (place : Place) (path : List ℕ) (form : Form) (mode : ResponseMode) (body : Body) → SendsOnly Holds (after_body place path form mode body)
  body-sends place path (SideForm side) mode (Ok bytes) = compares-sends place path mode (read_side side bytes)
  body-sends place path (SideForm side) mode (Err fault) = closes-send mode (of_fault fault)
  body-sends place path DocumentForm mode (Ok bytes) = notes-sends place path mode _
  body-sends place path DocumentForm mode (Err fault) = closes-send mode (of_fault fault)

  pub read-sends : (b : SmallBody) (mode : ResponseMode) (body : Body) (left : Course) → IsAfterBody b mode body left → SendsOnly Holds left
  read-sends b mode (Ok bytes) left (inl is) = subst (SendsOnly Holds) (sym is) (body-sends _ b.path b.form mode (Ok bytes))
  read-sends b mode (Ok bytes) left (inr is) = subst (SendsOnly Holds) (sym is) (body-sends _ b.path b.form mode _)
  read-sends b mode (Err fault) left is = subst (SendsOnly Holds) (sym is) (body-sends _ b.path b.form mode (Err fault))

  pub store-sends : (mode : ResponseMode) (plan : Plan) (again : Course) (kept : Kept) → SendsOnly Holds (after_store mode plan again kept)
  store-sends mode plan again (Ok blob) = tt
  store-sends mode plan again (Err why) = any-up-sends plan.draft (closes mode (of_store why)) (closes-send mode (of_store why))

  stores-send : (mode : ResponseMode) (plan : Plan) (again : Course) (checked : Checked) (held : Option ℕ) → SendsOnly Holds (stores mode plan again checked held)
  stores-send mode plan again checked (Some n) = tt
  stores-send mode plan again checked None = tt

  fetched-sends : (mode : ResponseMode) (plan : Plan) (again : Option FetchFault → Course) (came : Fetch) → SendsOnly Holds (after_fetch mode plan again came)
  fetched-sends mode plan again None = any-up-sends plan.draft (without_memory mode) tt
  fetched-sends mode plan again (Some (came.Got (content.File checked))) = stores-send mode plan (again None) checked plan.draft
  fetched-sends mode plan again (Some outcome) = tt

  pub fetch-sends : (mode : ResponseMode) (so_far : Verdict) (a : Again) (plan : Plan) (came : Fetch) (left : Course)
      → IsAfterFetch mode so_far a plan came left → SendsOnly Holds left
  fetch-sends mode so_far a plan came left (inl is) =
      subst (SendsOnly Holds) (sym is) (fetched-sends mode plan (looks_again mode so_far a plan.member) came)
  fetch-sends mode so_far a plan came left (inr is) =
      subst (SendsOnly Holds) (sym is) (fetched-sends mode plan (looks_again mode so_far a plan.member) None)

  -- No course begins with the sending of a file.
  looks-send : (mode : ResponseMode) (rounds : ℕ) (repo path tried : List ℕ) (so_far : Verdict) → SendsOnly Holds (looks mode rounds repo path tried so_far)
  looks-send mode zero repo path tried so_far = tt
  looks-send mode (suc n) repo path tried so_far = tt

  course-sends : (mode : ResponseMode) (expects : Bool) (intent : Intent) → SendsOnly Holds (course_for mode expects intent)
  course-sends mode expects (judged.reads repo path of_sort) = looks-send mode (rounds_of of_sort) repo path _ _
  course-sends mode expects (judged.puts_side place path side count) =
      invites-send expects cut_off (does (read_body count) (after_side place path side mode)) tt
  course-sends mode expects (judged.puts_document place path count) =
      invites-send expects cut_off (does (read_body count) (after_document place path mode)) tt
  course-sends mode expects _ = tt

  judged-sends : (request : Result Judged Refused) (last : Bool) → SendsOnly Holds (course_of request last)
  judged-sends (Ok request) last = course-sends (mode_for request last) request.expects request.intent
  judged-sends (Err refused) last = tt

  head-sends : (settings : Settings) (read : Result (Option Head) WireFault) (last : Bool) → SendsOnly Holds (after_head settings read last)
  head-sends settings (Ok None) last = tt
  head-sends settings (Ok (Some head)) last = judged-sends (judge settings head) last
  head-sends settings (Err wire.Torn) last = tt
  head-sends settings (Err wire.SourceFault) last = tt
  head-sends settings (Err (wire.Refused fault)) last = tt
  head-sends settings (Err wire.NoMemory) last = tt

  pub start-sends : (settings : Settings) (read : Result (Option Head) WireFault) (last : Bool) (c : Course) → Starts settings read last c → SendsOnly Holds c
  start-sends settings read last c (act.due is) = subst (SendsOnly Holds) (sym is) (head-sends settings read last)
  start-sends settings read last c (act.starved head so is) = subst (SendsOnly Holds) (sym is) tt
