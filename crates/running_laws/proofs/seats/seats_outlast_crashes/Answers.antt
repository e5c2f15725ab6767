use Rattle.repo_model.specs.Shown.{shown_command, shown_reply}
use Rattle.running_laws.proofs.Seen.{calls-outlast}
use Rattle.running_laws.proofs.seats.seats_outlast_crashes.Goals as goal

pub returns-clause-calls : goal.returns-clause-calls
returns-clause-calls g c settings records old new clock x log begins legal =
    calls-outlast (record { asked = shown_command; answered = shown_reply; settings = λ core. core.settings; state = λ core. core.state }) _ (λ before after call reply step. step.1.turn) settings records old new clock x log begins legal

pub returns-clause-seat : goal.returns-clause-seat
returns-clause-seat g c settings records old new clock turns seat begins is =
    calls-outlast (record { asked = shown_command; answered = shown_reply; settings = λ core. core.settings; state = λ core. core.state }) _ (λ before after call reply step. step.1.turn) settings records old new clock _ _ begins is.legal

pub returns-clause-note : goal.returns-clause-note
returns-clause-note g c settings records old new clock turns note begins is =
    calls-outlast (record { asked = shown_command; answered = shown_reply; settings = λ core. core.settings; state = λ core. core.state }) _ (λ before after call reply step. step.1.turn) settings records old new clock _ _ begins is.legal

pub returns-clause-close : goal.returns-clause-close
returns-clause-close g c settings records old new clock turns seat thing calls begins is =
    (calls-outlast (record { asked = shown_command; answered = shown_reply; settings = λ core. core.settings; state = λ core. core.state }) _ (λ before after call reply step. step.1.turn) settings records old new clock _ _ begins is.legal, is.end)

pub returns-clause-end : goal.returns-clause-end
returns-clause-end g c settings records old new clock turns seat others thing calls begins is =
    (calls-outlast (record { asked = shown_command; answered = shown_reply; settings = λ core. core.settings; state = λ core. core.state }) _ (λ before after call reply step. step.1.turn) settings records old new clock _ _ begins is.legal, is.end)
