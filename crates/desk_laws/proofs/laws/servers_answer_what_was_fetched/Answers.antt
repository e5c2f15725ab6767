use Rattle.desk_laws.proofs.Fetched.{works-fetch}
use Rattle.desk_laws.proofs.laws.servers_answer_what_was_fetched.Goals as goal

pub returns : goal.returns
returns g c settings turns seat old new thing calls failed works alone apart =
    works-fetch _ settings _ turns seat old new thing calls failed works alone apart
