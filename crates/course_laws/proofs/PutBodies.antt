-- Each blob that a request puts or stages has the body that came after its head.
use native.Mathlib.Omega.{arith}
use Rattle.std.proofs.Common.{◌≡◌, ℕ, Bool, List, ◌++◌, length, take, Option, Some, None, Result, Ok, Err, refl, sym, subst, ap, ◌∙◌, length-append}
use Rattle.std.specs.Prelude.{unwrap_or}
use Rattle.std.proofs.Math.Seq.{take-append_seam}
use Rattle.std.proofs.lemmas.Option.{none-some}
use Rattle.http_wire.specs.Front.{Front, Whole, front}
use Rattle.http_wire.specs.Head.{Head}
use Rattle.outside.specs.Told.{IsWhereTold, in_front}
use Rattle.repo_model.specs.Command.{Command, put, stage, unlist, collect}
use Rattle.repo_model.specs.Data.{Blob}
use Rattle.repo_model.specs.History.{Entry}
use Rattle.repo_model.specs.Reply.{Reply}
use Rattle.repo_model.specs.Settings.{Settings}
use Rattle.repo_routes.specs.Intent.{Judged}
use Rattle.repo_routes.specs.Judge.{judge}
use Rattle.repo_routes.specs.declared.judging.Refused.{Refused}
use Rattle.repo_course.specs.Course.{Close, Course, IoAction, Outcome, invite, take_body, read_body, send_file, clean_all, fetch, store_fetched, of_fault}
use Rattle.repo_course.specs.declared.outcomes.Continued.{Continued}
use Rattle.repo_course.specs.declared.outcomes.Continued.TheVariants as continued
use Rattle.repo_course.specs.declared.outcomes.End.{End}
use Rattle.repo_course.specs.declared.mode.ResponseMode.{ResponseMode}
use Rattle.repo_course.specs.Serving.{Begins, Continues, Does, IsWhole, Opens, clean, torn, failed, refused, unread_head, starved, served, Outside, RequestTurn, print_of}
use Rattle.course_laws.specs.Duties.{MayAsk, MayDo, Stand, due_after, duty_of, idle, length_of, stand_after, stand_done}
use Rattle.course_laws.specs.PutBodies.{AllPutBody, HasBody, PutsBody}
use Rattle.course_laws.proofs.BodyBytes.{front-of}
use Rattle.course_laws.proofs.Each.{follows-each}
use Rattle.course_laws.proofs.Early.{still-due}
use Rattle.course_laws.proofs.Kept.{duty_at, opens-keeps}
use Rattle.course_laws.proofs.Passes.{IsPassCommand}

-- where no end is due after a reply, none was before
pub undue : (command : Command) (reply : Reply) (s : Stand) → MayAsk command s → due_after s.rounds command reply s.due ≡ None → s.due ≡ None
undue command reply s may none = pick s.due refl
  where
    pick : (due : Option Close) → s.due ≡ due → s.due ≡ None
    pick None is = is
    pick (Some close) is = absurd (none-some close (sym none ∙ still-due command reply s close may is))

-- an invitation reads nothing
invites-still : (result : Continued) (old new : Outside) → Continues result old new → new.input ≡ old.input
invites-still continued.Written old new is = ap (λ (o : Outside). o.input) is
invites-still continued.SinkFault old new (faults, part, rose, front_is, is) = ap (λ (o : Outside). o.input) is

module _ (count : ℕ) (came : List ℕ) where
  -- what is stored is the body, and as long as it is to be read and no end is due, it has come, and all that is to be read is it
  abbrev Inv : Stand → Outside → Type 0
  Inv s o = ((blob : Blob) → s.stored ≡ Some blob → HasBody count came blob) × (s.due ≡ None → (n : ℕ) → s.unread ≡ Some n → (n ≡ count) × (o.input ≡ Some came))

  of_pass : (command : Command) → IsPassCommand command → PutsBody count came command
  of_pass (unlist repo) is = tt
  of_pass collect is = tt
  of_pass command is = absurd is

  asked : (command : Command) (s : Stand) (o : Outside) → MayAsk command s → Inv s o → PutsBody count came command
  asked (put repo path n blob) s o may inv = inv.0 blob may.2
  asked (stage at path n blob) s o may inv = inv.0 blob may.2
  asked command s o may inv = tt

  replied : (command : Command) (reply : Reply) (s : Stand) (o : Outside) → MayAsk command s → Inv s o → Inv (stand_after command reply s) o
  replied command reply s o may inv = (inv.0, λ none n is. inv.1 (undue command reply s may none) n is)

  has-body : (body : List ℕ) (rest : Option (List ℕ)) (n : ℕ) (input : Option (List ℕ)) (blob : Blob) → (n ≡ count) × (input ≡ Some came) → length body ≡ n
      → input ≡ in_front body rest → blob.print ≡ print_of body → IsWhereTold blob.bytes body → HasBody count came blob
  has-body body rest n input blob (same, told) long front_is print told_so =
      let (more, rest_is, came_is) = front-of came body rest (sym told ∙ front_is) in
      let takes : take count came ≡ body = ap (λ (k : ℕ). take k came) (sym (long ∙ same)) ∙ ap (take (length body)) came_is ∙ take-append_seam body more in
      record {
        whole = omega (arith, length-append body more, ap length came_is, long, same);
        print = print ∙ ap print_of (sym takes);
        bytes = subst (IsWhereTold blob.bytes) (sym takes) told_so;
      }

  module _ (tells : Type 0) (by_text : List ℕ → Option Close) (mode : ResponseMode) where
    did : (io_action : IoAction) (outcome : Outcome io_action) (mine : List Entry) (s : Stand) (old new : Outside) → MayDo mode io_action s → Does tells io_action outcome mine old new → Inv s old
        → Inv (stand_done by_text io_action outcome s) new
    did invite outcome mine s old new may does inv = (
      inv.0,
      λ none n is. let (same, told) = inv.1 may.0 n is in (same, invites-still outcome old new does.1 ∙ told),
    )
    did (take_body n size) (Ok blob) mine s old new may does inv = (
      λ other is.
          let same : blob ≡ other = cc in
          subst (HasBody count came) same (has-body does.1.0 does.1.1.0 size old.input blob (inv.1 may.0 size may.1.1) does.1.1.1 does.1.1.2 does.1.3 does.1.4),
      λ none k is. absurd (none-some k is),
    )
    did (take_body n size) (Err fault) mine s old new may does inv = (inv.0, λ none. absurd (none-some (of_fault fault) (sym none)))
    did (read_body size) outcome mine s old new may does inv = (inv.0, λ none k is. absurd (none-some k is))
    did (send_file blob own) outcome mine s old new may does inv = (inv.0, λ none k is. absurd (none-some k (sym may.1.0.0 ∙ is)))
    did (clean_all repos) outcome mine s old new may does inv = (inv.0, λ none k is. absurd (none-some k (sym may.1.0 ∙ is)))
    did (fetch plan) outcome mine s old new may does inv = (inv.0, λ none k is. absurd (none-some k (sym may.1.0.0 ∙ is)))
    did (store_fetched n checked) outcome mine s old new may does inv = (inv.0, λ none k is. absurd (none-some k (sym may.1.0.0 ∙ is)))

module _ (settings : Settings) (tells : Type 0) (last : Bool) where
  pub turn-puts : (entries : List Entry) (old new : Outside) (end : Option End) (input rest : List ℕ) (head : Head) (request : Judged)
      → RequestTurn settings tells last entries old new end → old.input ≡ Some input → front input ≡ Whole head rest → judge settings head ≡ Ok request
      → AllPutBody (length_of request.intent) rest entries
  turn-puts entries old new end input rest head request (c, mid, o, f) input-is front-is judged =
      follows-each tells (PutsBody count rest) (Inv count rest) (of_pass count rest) (asked count rest) (replied count rest) (duty_at o).by_text (duty_at o).mode
      (did count rest tells (duty_at o).by_text (duty_at o).mode) c (duty_at o).most (duty_at o).stand (opens-keeps settings last old mid c o) entries mid new end (starts o) f
    where
      count : ℕ
      count = length_of request.intent

      begins : (P : Front → Type 0) → Begins old.input P → P (Whole head rest)
      begins P it = subst P front-is (subst (λ (i : Option (List ℕ)). Begins i P) input-is it)

      -- an end is due at once
      ended : (close : Close) → Inv count rest (record idle { due = Some close }) mid
      ended close = (λ blob stored. absurd (none-some blob stored), λ none. absurd (none-some close (sym none)))

      starts : (o : Opens settings last old mid c) → Inv count rest (duty_at o).stand mid
      starts (clean it still is) = ended _
      starts (torn it still is) = ended _
      starts (failed faults rose still is) = ended _
      starts (refused fault it still is) = ended _
      starts (unread_head it still is) = ended _
      starts (starved other left it uses is) = ended _
      starts (served other left it uses is) =
          let (same, left_is) = begins (IsWhole other left) it in
          let so : judge settings other ≡ Ok request = ap (judge settings) (sym same) ∙ judged in
          subst (λ (j : Result Judged Refused). Inv count rest (duty_of j last).stand mid) (sym so)
          (λ blob stored. absurd (none-some blob stored), λ none n unread. (sym (ap (λ (o : Option ℕ). unwrap_or o 0) unread), ap (λ (x : Outside). x.input) uses ∙ left_is))
