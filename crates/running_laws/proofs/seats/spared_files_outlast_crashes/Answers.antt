use Rattle.repo_model.specs.Shown.{shown_command, shown_reply}
use Rattle.running_laws.proofs.Seen.{calls-spare}
use Rattle.running_laws.proofs.seats.spared_files_outlast_crashes.Goals as goal

pub returns-clause-calls : goal.returns-clause-calls
returns-clause-calls g c settings records old new clock x log begins legal =
    calls-spare (record { asked = shown_command; answered = shown_reply; settings = λ core. core.settings; state = λ core. core.state }) _ (λ before after call reply step. step.1.turn) settings records old
    new clock x log begins legal

pub returns-clause-seat : goal.returns-clause-seat
returns-clause-seat g c settings records old new clock turns seat begins is =
    calls-spare (record { asked = shown_command; answered = shown_reply; settings = λ core. core.settings; state = λ core. core.state }) _ (λ before after call reply step. step.1.turn) settings records old
    new clock _ _ begins is.legal
