use Rattle.std.proofs.Common.{refl}
use Rattle.served_laws.proofs.Opened.{begun-sees}
use Rattle.served_laws.proofs.seats.seats_of_repositories_see_closed_histories.Goals as goal

pub returns-clause-seat : goal.returns-clause-seat
returns-clause-seat g c settings records old new clock turns seat begins is =
    begun-sees _ _ (λ w. refl) (λ w. refl)
    (λ before after call reply step. (record { fits = step.1.turn.fits; leaves = step.1.turn.state; answer = step.1.answer }, step.1.turn.same)) settings
    records old new clock _ _ begins is.legal

pub returns-clause-note : goal.returns-clause-note
returns-clause-note g c settings records old new clock turns note begins is =
    begun-sees _ _ (λ w. refl) (λ w. refl)
    (λ before after call reply step. (record { fits = step.1.turn.fits; leaves = step.1.turn.state; answer = step.1.answer }, step.1.turn.same)) settings
    records old new clock _ _ begins is.legal

pub returns-clause-close : goal.returns-clause-close
returns-clause-close g c settings records old new clock turns seat thing calls begins is = (
  begun-sees _ _ (λ w. refl) (λ w. refl)
      (λ before after call reply step. (record { fits = step.1.turn.fits; leaves = step.1.turn.state; answer = step.1.answer }, step.1.turn.same)) settings
      records old new clock _ _ begins is.legal,
  is.end,
)

pub returns-clause-end : goal.returns-clause-end
returns-clause-end g c settings records old new clock turns seat others thing calls begins is = (
  begun-sees _ _ (λ w. refl) (λ w. refl)
      (λ before after call reply step. (record { fits = step.1.turn.fits; leaves = step.1.turn.state; answer = step.1.answer }, step.1.turn.same)) settings
      records old new clock _ _ begins is.legal,
  is.end,
)
