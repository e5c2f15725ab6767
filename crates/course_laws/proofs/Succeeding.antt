-- A course that does what it owes succeeds where nothing refuses it and no I/O action fails.
use Rattle.std.proofs.Common.{◌≡◌, ℕ, zero, suc, Bool, false, List, Option, Some, None, Ok, refl, sym, subst, ap, ◌∙◌, Err}
use Rattle.std.proofs.lemmas.Bool.{false≢true}
use Rattle.repo_model.specs.Command.{Command, look, done, may_put, put, put_side, put_doc, drop_draft, open_session, stage, commit, abort, unlist, collect, ask, land}
use Rattle.repo_model.specs.Reply.{Reply, file, text, doc, draft, same, relisted, created, agreed, noted, opened, staged, ended, finds, fetches, landed}
use Rattle.repo_routes.specs.Intent.{Judged}
use Rattle.repo_course.specs.Course.{Close, Course, IoAction, Outcome, asks, does, says, stops, speaks, send_file, clean_all, course_of, end_of, mode_for}
use Rattle.repo_course.specs.declared.mode.ResponseMode.{ResponseMode}
use Rattle.repo_course.specs.declared.outcomes.Sent.TheVariants as sent
use Rattle.repo_course.specs.declared.response.Response.{Response}
use Rattle.repo_course.specs.declared.response.Response.TheVariants.{NoMemory}
use Rattle.course_laws.specs.Duties.{Keeps, MayAsk, MayDo, Stand, at_first, due_after, due_done, due_planned, for_text, left_by, mode_of, stand_after, stand_done, to_clean_done, unread_done, waits_done}
use Rattle.course_laws.specs.Granted.{Goes, Grants, HasRound, IsGood, IsMore, Succeeds, cut_by}
use Rattle.course_laws.proofs.Kept.{judged-keeps}
use Rattle.course_laws.proofs.IoActions.{goes-undue, no-pass}

module _ (by_text : List ℕ → Option Close) (mode : ResponseMode) where
  -- what is due is good, and nothing else is to be done
  abbrev Fine : Bool → Option Close → Option ℕ → Option (List (List ℕ)) → Bool → Type 0
  Fine is_cut None unread to_clean waits = Unit {0}
  Fine is_cut (Some close) unread to_clean waits = IsGood mode is_cut close × ((unread ≡ None) × (to_clean ≡ None) × (waits ≡ false))

  -- a plan that may be fetched makes nothing due
  planned-fine : (is_cut : Bool) (left : ℕ) (due : Option Close) (unread : Option ℕ) (to_clean : Option (List (List ℕ))) (waits : Bool) → IsMore left
      → Fine is_cut due unread to_clean waits → Fine is_cut (due_planned left due) unread to_clean waits
  planned-fine is_cut zero due unread to_clean waits more fine = absurd more
  planned-fine is_cut (suc n) due unread to_clean waits more fine = fine

  reply-fine : (is_cut : Bool) (c : Command) (reply : Reply) (s : Stand) → MayAsk c s → Grants c reply → HasRound s.rounds c reply → Fine is_cut s.due s.unread s.to_clean s.waits
      → Fine is_cut (due_after s.rounds c reply s.due) s.unread s.to_clean s.waits
  reply-fine is_cut (look repo path tried) (file lease blob) s may granted more fine = fine
  reply-fine is_cut (look repo path tried) (text bytes) s may granted more fine = (tt, may.0.1)
  reply-fine is_cut (look repo path tried) (doc bytes digests) s may granted more fine = (tt, may.0.1)
  reply-fine is_cut (done lease) reply s may granted more fine = fine
  reply-fine is_cut (may_put place path) (draft n) s may granted more fine = fine
  reply-fine is_cut (put repo path n blob) created s may granted more fine = (tt, may.0.1)
  reply-fine is_cut (put repo path n blob) same s may granted more fine = (tt, may.0.1)
  reply-fine is_cut (put repo path n blob) relisted s may granted more fine = (tt, may.0.1)
  reply-fine is_cut (put_side place path digest) agreed s may granted more fine = (tt, may.1)
  reply-fine is_cut (put_doc place path) noted s may granted more fine = (tt, may.1)
  reply-fine is_cut (drop_draft n) reply s may granted more fine = fine
  reply-fine is_cut (open_session repo) (opened n) s may granted more fine = (tt, may.1)
  reply-fine is_cut (stage at path n blob) staged s may granted more fine = (tt, may.0.1)
  reply-fine is_cut (stage at path n blob) same s may granted more fine = (tt, may.0.1)
  reply-fine is_cut (commit n) (ended result) s may granted more fine = (tt, may.1)
  reply-fine is_cut (abort n) (ended result) s may granted more fine = (tt, may.1)
  reply-fine is_cut (ask question) (finds finding) s may granted more fine = (tt, may.1)
  reply-fine is_cut (unlist repo) reply s may granted more fine = absurd may
  reply-fine is_cut collect reply s may granted more fine = absurd may
  reply-fine is_cut (look repo path tried) (fetches plan) s may granted more fine = planned-fine is_cut s.rounds.left s.due s.unread s.to_clean s.waits more fine
  reply-fine is_cut (land plan outcome) landed s may granted more fine = fine
  reply-fine is_cut _ _ s may granted more fine = absurd (false≢true granted)

  going : (is_cut : Bool) (due : Option Close) (unread : Option ℕ) (to_clean : Option (List (List ℕ))) (waits : Bool) → due ≡ None → Fine is_cut due unread to_clean waits
  going is_cut due unread to_clean waits is = subst (λ d. Fine is_cut d unread to_clean waits) (sym is) tt

  action-fine : (is_cut : Bool) (io_action : IoAction) (outcome : Outcome io_action) (s : Stand) → MayDo mode io_action s → Goes by_text io_action outcome → Fine is_cut s.due s.unread s.to_clean s.waits
      → Fine (cut_by io_action outcome is_cut) (due_done by_text io_action outcome s.due) (unread_done io_action outcome s.unread) (to_clean_done io_action s.to_clean) (waits_done io_action s.waits)
  action-fine is_cut (send_file blob own) sent.Whole s may goes fine = (ap end_of may.1.3, may.1.0)
  action-fine is_cut (send_file blob own) (sent.BlobDiffers recorded found) s may goes fine = (tt, may.1.0)
  action-fine is_cut (send_file blob own) (sent.CutDiffers recorded found) s may goes fine = (refl, may.1.0)
  action-fine is_cut (send_file blob own) _ s may goes fine = absurd goes
  action-fine is_cut (clean_all repos) (Ok did) s may goes fine = (tt, (may.1.0, refl, may.1.2))
  action-fine is_cut (clean_all repos) (Err fault) s may goes fine = absurd (no-pass by_text fault goes)
  action-fine is_cut io_action outcome s may goes fine =
      going (cut_by io_action outcome is_cut) (due_done by_text io_action outcome s.due) (unread_done io_action outcome s.unread) (to_clean_done io_action s.to_clean) (waits_done io_action s.waits)
      (ap (due_done by_text io_action outcome) may.0 ∙ goes-undue by_text io_action outcome tt goes)

  pub own-is : (is_cut : Bool) (said : Response) → IsGood mode is_cut (speaks said) → mode_of said None mode ≡ mode
  own-is is_cut NoMemory good = absurd good
  own-is is_cut _ good = refl

  keeps-succeeds : (is_cut : Bool) (c : Course) (n : ℕ) (s : Stand) → Keeps by_text mode c n s → Fine is_cut s.due s.unread s.to_clean s.waits → Succeeds by_text mode is_cut c s
  keeps-succeeds is_cut (asks command next) zero s k fine = absurd k
  keeps-succeeds is_cut (asks command next) (suc n) s k fine = (
    k.0,
    λ reply granted more. keeps-succeeds is_cut (next reply) n (stand_after command reply s) (k.1 reply) (reply-fine is_cut command reply s k.0 granted more fine),
  )
  keeps-succeeds is_cut (does io_action next) n s k fine = (
    k.0,
    λ outcome goes. keeps-succeeds (cut_by io_action outcome is_cut) (next outcome) (left_by io_action n) (stand_done by_text io_action outcome s) (k.2 outcome) (action-fine is_cut io_action outcome s k.0 goes fine),
  )
  keeps-succeeds is_cut (says said own) n s k fine =
      let good = subst (λ d. Fine is_cut d s.unread s.to_clean s.waits) k.1 fine in
      (good.1, k.1, good.0, k.2 ∙ ap (λ u. mode_of said u mode) good.1.0 ∙ own-is is_cut said good.0)
  keeps-succeeds is_cut (stops end) n s k fine = let good = subst (λ d. Fine is_cut d s.unread s.to_clean s.waits) k.1 fine in (good.1, k.1, good.0)

pub request-succeeds : (request : Judged) (last : Bool)
    → Succeeds (for_text request.intent) (mode_for request last) false (course_of (Ok request) last) (at_first request.expects request.intent)
request-succeeds request last = keeps-succeeds (for_text request.intent) (mode_for request last) false _ _ _ (judged-keeps (Ok request) last) tt
