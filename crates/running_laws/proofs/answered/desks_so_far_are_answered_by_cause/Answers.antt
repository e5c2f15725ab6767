use Rattle.std.proofs.Common.{[], append-nil, map, subst, sym}
use Rattle.repo_model.specs.History.{Legal}
use Rattle.repo_model.specs.Settings.{Settings}
use Rattle.turn_lock.specs.History.{IsStep}
use Rattle.turn_lock.specs.Seats.{opening, seen}
use Rattle.turn_seats.specs.Histories.{is_history}
use Rattle.turn_seats.specs.Seated.{entry_of}
use Rattle.desk_laws.proofs.Desks.{holds-seat, so-far-answered}
use Rattle.running_laws.proofs.answered.desks_so_far_are_answered_by_cause.Goals as goal

pub returns-clause-desk : goal.returns-clause-desk
returns-clause-desk g c settings turns own new desk back log legal holds same none did =
    let history = is_history g.T.Repository.sight (IsStep g.T.Thing.fixed g.T.Thing.may_ask g.T.Thing.turned) (λ before after call reply step. g.met.T.Repository.is_turn before after call reply step.1) (opening turns) log legal in
    let start = g.T.Repository.sight.state (opening turns) in
    let as_legal : Legal settings start (map (entry_of g.T.Repository.sight) log) =
    subst (λ (s : Settings). Legal s start (map (entry_of g.T.Repository.sight) log)) same history.legal in
    so-far-answered _ settings _ turns start log as_legal own new desk back none did holds

pub returns-clause-seen : goal.returns-clause-seen
returns-clause-seen g c turns seat is = (([], sym (append-nil (seen seat))), is.own)

pub returns-clause-now : goal.returns-clause-now
returns-clause-now g c turns seat log shared by is kept at = (kept.word.legal, holds-seat log _ _ shared seat by kept at is.named)
