use Rattle.repo_course.specs.Serving.{AllTell}
use Rattle.repo_model.specs.Shown.{shown_command, shown_reply}
use Rattle.running_laws.proofs.Later.{calls-name}
use Rattle.running_laws.proofs.named.named_files_outlast_crashes_between_calls.Goals as goal

pub returns : goal.returns
returns g c settings records old new clock x log begins legal =
    calls-name (record { asked = shown_command; answered = shown_reply; settings = λ core. core.settings; state = λ core. core.state }) _ (λ before after call reply step. step.1.turn) settings records old
    new clock (AllTell g.H.Held.bytes) x log begins legal
