-- A request is answered by heads alone exactly where its head is of HEAD.
use Rattle.std.proofs.Common.{◌≡◌, Bool, Result, Ok, Err, refl}
use Rattle.http_wire.specs.Head.{Head}
use Rattle.repo_model.specs.Settings.{Settings}
use Rattle.repo_routes.specs.Framing.{is_head}
use Rattle.repo_routes.specs.Intent.{Intent}
use Rattle.repo_routes.specs.Judge.{intent_of, judge, outcome_of}
use Rattle.repo_routes.specs.declared.refusal.Refusal.{Refusal}
use Rattle.course_laws.specs.Duties.{duty_of}

outcome-head : (head : Head) (outcome : Result Intent Refusal) (last : Bool) → (duty_of (outcome_of head outcome) last).mode.head_only ≡ is_head head
outcome-head head (Ok intent) last = refl
outcome-head head (Err cause) last = refl

pub judged-head : (settings : Settings) (head : Head) (last : Bool) → (duty_of (judge settings head) last).mode.head_only ≡ is_head head
unfolding judge
judged-head settings head last = outcome-head head (intent_of settings head) last
