use Rattle.desk_laws.proofs.Servers.{works-leave-nothing}
use Rattle.desk_laws.proofs.laws.servers_leave_nothing.Goals as goal

pub returns : goal.returns
returns g c settings turns seat old new thing calls failed works =
    works-leave-nothing _ settings _ turns seat old new thing calls failed works
