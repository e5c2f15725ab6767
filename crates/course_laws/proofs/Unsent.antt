-- Where memory is wanted no file was sent, and nothing was written but `100 Continue`.
use Rattle.std.proofs.Common.{◌≡◌, ◌⊎◌, ℕ, Bool, true, List, [], Option, Some, None, Result, Ok, Err, refl, sym, subst}
use Rattle.http_wire.specs.Answer.{continue_bytes}
use Rattle.mvn_digest.specs.Sides.{read_side}
use Rattle.mvn_doc.specs.Reading.{reading}
use Rattle.mvn_metadata.specs.Document.{Document}
use Rattle.repo_model.specs.Command.{Command}
use Rattle.repo_model.specs.Reply.{Reply}
use Rattle.repo_routes.specs.Intent.{Intent, Judged, puts_side, puts_document}
use Rattle.repo_routes.specs.declared.judging.Refused.{Refused}
use Rattle.repo_course.specs.Course.{Close, speaks, rests}
use Rattle.repo_course.specs.declared.mode.ResponseMode.{ResponseMode}
use Rattle.repo_course.specs.declared.response.Response.TheVariants as response
use Rattle.course_laws.specs.Duties.{MayAsk, Stand, by_digest, by_document, due_after, duty_of, for_text, stand_after}
use Rattle.course_laws.proofs.Early.{still-due}

-- no file was sent whole, and no side of the stream failed
abbrev pub IsUnsent : Option Close → Type 0
IsUnsent (Some (rests end)) = ⊥
IsUnsent due = Unit {0}

pub none-unsent : (due : Option Close) → due ≡ None → IsUnsent due
none-unsent due is = subst IsUnsent (sym is) tt

-- what a course may have written, from where it stands, when memory is wanted: nothing, or `100 Continue`
abbrev pub MayStand : Stand → List ℕ → Type 0
MayStand s written = IsUnsent s.due × ((written ≡ []) ⊎ ((s.waits ≡ true) × (written ≡ continue_bytes)))

-- so, and the answer that says so is its head alone where the course's answers are
abbrev pub MayStarve : ResponseMode → Stand → Bool → List ℕ → Type 0
MayStarve mode s alone written = (alone ≡ mode.head_only) × MayStand s written

pub reply-unsent : (command : Command) (reply : Reply) (s : Stand) → MayAsk command s → IsUnsent (due_after s.rounds command reply s.due) → IsUnsent s.due
reply-unsent command reply s may un = pick s.due refl
  where
    pick : (due : Option Close) → s.due ≡ due → IsUnsent due
    pick None is = tt
    pick (Some (speaks said)) is = tt
    pick (Some (rests end)) is = subst IsUnsent (still-due command reply s (rests end) may is) un

pub reply-may : (command : Command) (reply : Reply) (s : Stand) → MayAsk command s → (written : List ℕ) → MayStand (stand_after command reply s) written → MayStand s written
reply-may command reply s may written stood = (reply-unsent command reply s may stood.0, stood.1)

-- what has nothing, and what has each answer to a text that is refused, what is due for a body's text has
module _ (P : Option Close → Type 0) (none : P None) (no_digest : P (Some (speaks response.NoDigest))) (no_document : (at : ℕ) → P (Some (speaks (response.NoDocument at)))) where
  digest-due : (found : Option (List ℕ)) → P (by_digest found)
  digest-due (Some digest) = none
  digest-due None = no_digest

  document-due : (found : Result Document ℕ) → P (by_document found)
  document-due (Ok document) = none
  document-due (Err at) = no_document at

  pub text-due : (intent : Intent) (bytes : List ℕ) → P (for_text intent bytes)
  text-due (puts_side place path side count) bytes = digest-due (read_side side bytes)
  text-due (puts_document place path count) bytes = document-due (reading bytes)
  text-due _ bytes = none

-- what a body says ends no stream
pub judged-unsent : (judged : Result Judged Refused) (last : Bool) (bytes : List ℕ) → IsUnsent ((duty_of judged last).by_text bytes)
judged-unsent (Ok request) last bytes = text-due IsUnsent tt tt (λ at. tt) request.intent bytes
judged-unsent (Err refused) last bytes = tt
