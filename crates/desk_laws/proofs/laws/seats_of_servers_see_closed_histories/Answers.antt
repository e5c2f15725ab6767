use Rattle.turn_lock.specs.History.{IsStep}
use Rattle.desk_laws.proofs.Seats.{log-sees, seat-sees}
use Rattle.desk_laws.proofs.laws.seats_of_servers_see_closed_histories.Goals as goal

pub returns-clause-whole : goal.returns-clause-whole
returns-clause-whole g c settings turns seat old new thing calls failed works fit =
    log-sees g.T.Repository.sight (IsStep g.T.Thing.fixed g.T.Thing.may_ask g.T.Thing.turned) (λ before after call reply step. g.met.T.Repository.is_turn before after call reply step.1) _
    works.ended.log fit works.ended.legal

pub returns-clause-cleaner : goal.returns-clause-cleaner
returns-clause-cleaner g c settings turns seat old new thing calls failed works fit =
    seat-sees g.T.Repository.sight (IsStep g.T.Thing.fixed g.T.Thing.may_ask g.T.Thing.turned) (λ before after call reply step. g.met.T.Repository.is_turn before after call reply step.1) _
    works.ended.log works.cleaning fit works.ended.legal works.ended.first

pub returns-clause-desk : goal.returns-clause-desk
returns-clause-desk g c settings turns seat old new thing calls failed works fit own holds =
    seat-sees g.T.Repository.sight (IsStep g.T.Thing.fixed g.T.Thing.may_ask g.T.Thing.turned) (λ before after call reply step. g.met.T.Repository.is_turn before after call reply step.1) _
    works.ended.log own fit works.ended.legal holds
