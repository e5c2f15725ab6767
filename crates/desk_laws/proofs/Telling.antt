-- Each blob that a stream hands over tells its bytes, where the store's blobs do, and has their fingerprint.
use Rattle.std.proofs.Common.{◌≡◌, ℕ, zero, suc, Bool, List, [], ◌∷◌, inl, inr, Option, Some, None, Result, Ok, Err, refl, sym, subst, ap, ◌∙◌}
use Rattle.std.specs.Prelude.{◌==◌, IsSome}
use Rattle.std.proofs.lemmas.Option.{none-some}
use Rattle.fetch_plan.specs.declared.Outcome.TheVariants as came
use Rattle.outside.specs.Told.{IsWhereTold}
use Rattle.remote_fetch.specs.declared.contents.Content.TheVariants as content
use Rattle.repo_model.specs.Command.{Command, put, stage, land, unlist, collect}
use Rattle.repo_model.specs.Data.{Blob}
use Rattle.repo_model.specs.Fetched.{got_file}
use Rattle.repo_model.specs.History.{Entry}
use Rattle.repo_model.specs.Reply.{Reply}
use Rattle.repo_model.specs.Settings.{Settings}
use Rattle.repo_routes.specs.Judge.{judge}
use Rattle.repo_routes.specs.Intent.{Judged}
use Rattle.repo_routes.specs.declared.judging.Refused.{Refused}
use Rattle.repo_course.specs.Course.{Close, Course, IoAction, Fetch, Outcome, fetch, store_fetched, take_body}
use Rattle.repo_course.specs.declared.mode.ResponseMode.{ResponseMode}
use Rattle.repo_course.specs.declared.outcomes.End.{End}
use Rattle.repo_course.specs.Serving.{Does, Opens, clean, torn, failed, refused, unread_head, starved, served, Outside, ServesStream, RequestTurn, print_of}
use Rattle.course_laws.specs.Duties.{MayAsk, MayDo, Stand, duty_of, landing_by, stand_after, stand_done}
use Rattle.course_laws.proofs.Alls.{all-joined}
use Rattle.course_laws.proofs.BodyBytes.{told-is}
use Rattle.course_laws.proofs.Each.{follows-each}
use Rattle.course_laws.proofs.Kept.{duty_at, opens-keeps}
use Rattle.course_laws.proofs.Passes.{IsPassCommand}
use Rattle.crash_laws.specs.Handed.{AllHandTold, HandsTold, IsTold}

-- what is stored, and what is kept of a fetch, tells its bytes
abbrev Told : Stand → Outside → Type 0
Told s o = ((blob : Blob) → s.stored ≡ Some blob → IsTold blob) × ((blob : Blob) → s.kept ≡ Some blob → IsTold blob)

pub of_pass : (command : Command) → IsPassCommand command → HandsTold command
of_pass (unlist repo) is = tt
of_pass collect is = tt
of_pass command is = absurd is

-- a file that lands is the one that was kept
file-kept : (c : Fetch) (kept : Option Blob) (blob : Blob) → landing_by c kept ≡ Some (came.Got (got_file blob)) → kept ≡ Some blob
file-kept None kept blob is = absurd (cc)
file-kept (Some (came.Got (content.File checked))) None blob is = absurd (cc)
file-kept (Some (came.Got (content.File checked))) (Some other) blob is = let same : other ≡ blob = cc in ap Some same
file-kept (Some _) kept blob is = absurd (cc)

asked : (command : Command) (s : Stand) (o : Outside) → MayAsk command s → Told s o → HandsTold command
asked (put repo path n blob) s o may told = told.0 blob may.2
asked (stage at path n blob) s o may told = told.0 blob may.2
asked (land plan (came.Got (got_file blob))) s o may told = told.1 blob (file-kept s.came s.kept blob may.3)
asked command s o may told = tt

replied : (command : Command) (reply : Reply) (s : Stand) (o : Outside) → MayAsk command s → Told s o → Told (stand_after command reply s) o
replied command reply s o may told = told

is-told : (blob other : Blob) (body : List ℕ) → Some blob ≡ Some other → blob.print ≡ print_of body → IsWhereTold blob.bytes body → IsSome blob.bytes → IsTold other
is-told blob other body is print told some =
    let same : blob ≡ other = cc in
    subst IsTold same (body, told-is blob.bytes body told some, print)

module _ (tells : Type 0) (tell : tells) where
  did : (by_text : List ℕ → Option Close) (mode : ResponseMode) (io_action : IoAction) (outcome : Outcome io_action) (mine : List Entry) (s : Stand) (old new : Outside) → MayDo mode io_action s
      → Does tells io_action outcome mine old new → Told s old → Told (stand_done by_text io_action outcome s) new
  did by_text mode (take_body n size) (Ok blob) mine s old new may does told = (λ other is. is-told blob other does.1.0 is does.1.3 does.1.4 (does.1.5 tell), told.1)
  did by_text mode (fetch plan) outcome mine s old new may does told = (told.0, λ other is. absurd (none-some other is))
  did by_text mode (store_fetched n checked) (Ok blob) mine s old new may does told = (told.0, λ other is. is-told blob other checked.bytes is does.1.2 does.1.3 (does.1.4 tell))
  did by_text mode io_action outcome mine s old new may does told = told

  module _ (settings : Settings) where
    -- before the first step nothing is stored
    nothing : ((blob : Blob) → None ≡ Some blob → IsTold blob) × ((blob : Blob) → None ≡ Some blob → IsTold blob)
    nothing = (λ blob is. absurd (none-some blob is), λ blob is. absurd (none-some blob is))

    judged-bare : (judged : Result Judged Refused) (last : Bool) (o : Outside) → Told (duty_of judged last).stand o
    judged-bare (Ok request) last o = nothing
    judged-bare (Err cause) last o = nothing

    bare : (last : Bool) (old mid : Outside) (c : Course) (o : Opens settings last old mid c) → Told (duty_at o).stand mid
    bare last old mid c (clean begins still is) = nothing
    bare last old mid c (torn begins still is) = nothing
    bare last old mid c (failed faults rose still is) = nothing
    bare last old mid c (refused fault begins still is) = nothing
    bare last old mid c (unread_head begins still is) = nothing
    bare last old mid c (starved head rest begins uses is) = nothing
    bare last old mid c (served head rest begins uses is) = judged-bare (judge settings head) last mid

    turn-told : (last : Bool) (entries : List Entry) (old new : Outside) (end : Option End) → RequestTurn settings tells last entries old new end → AllHandTold entries
    turn-told last entries old new end (c, mid, o, f) =
        follows-each tells HandsTold Told of_pass asked replied (duty_at o).by_text (duty_at o).mode (did (duty_at o).by_text (duty_at o).mode) c (duty_at o).most (duty_at o).stand
        (opens-keeps settings last old mid c o) entries mid new end (bare last old mid c o) f

    pub serves-told : (n : ℕ) (entries : List Entry) (old new : Outside) (end : End) → ServesStream settings tells n entries old new end → AllHandTold entries
    unfolding ServesStream
    serves-told zero entries old new end t = subst AllHandTold (sym t.0) tt
    serves-told (suc left) entries old new end (inl turn) = turn-told (left == 0) entries old new (Some end) turn
    serves-told (suc left) entries old new end (inr t) =
        subst AllHandTold (sym t.3)
        (all-joined (λ (e : Entry). HandsTold e.command) t.0 t.1 (turn-told (left == 0) t.0 old t.2 None t.4) (serves-told left t.1 t.2 new end t.5))
