use Rattle.crash_laws.proofs.Fronts.{is-front}
use Rattle.crash_laws.proofs.laws.crashes_leave_fronts_of_histories.Goals as goal

pub returns : goal.returns
returns c settings s t u entries legal left =
    let it = is-front settings s t u entries legal left in
    (it.history, it.is, it.legal, it.left)
