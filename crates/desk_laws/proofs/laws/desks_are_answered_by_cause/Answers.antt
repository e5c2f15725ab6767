use Rattle.std.proofs.Common.{map, sym, subst}
use Rattle.std.specs.List.{AllZip}
use Rattle.repo_model.specs.History.{Legal}
use Rattle.repo_model.specs.Settings.{Settings}
use Rattle.turn_lock.specs.Seats.{opening}
use Rattle.turn_seats.specs.Seated.{entry_of}
use Rattle.desk_laws.proofs.Desks.{desks-answered}
use Rattle.desk_laws.proofs.laws.desks_are_answered_by_cause.Goals as goal

pub returns : goal.returns
returns g c settings turns seat old new thing calls failed works same =
    let history = map (entry_of g.T.Repository.sight) works.ended.log in
    let start = g.T.Repository.sight.state (opening turns) in
    let legal : Legal settings start history = subst (λ (s : Settings). Legal s start history) same works.history.legal in
    subst (AllZip _ old.desks) (sym works.back_are)
    (desks-answered _ settings _ turns seat start works.ended.log legal old.desks works.outs works.done works.ended.rest)
