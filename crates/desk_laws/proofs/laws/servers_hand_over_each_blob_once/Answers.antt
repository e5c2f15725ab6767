use Rattle.desk_laws.proofs.HandedOver.{works-drawn, works-once, works-told}
use Rattle.desk_laws.proofs.laws.servers_hand_over_each_blob_once.Goals as goal

pub returns-clause-told : goal.returns-clause-told
returns-clause-told g c settings turns seat old new thing calls failed works alone apart tell =
    works-told _ settings _ turns seat old new thing calls failed works alone apart tell

pub returns-clause-once : goal.returns-clause-once
returns-clause-once g c settings turns seat old new thing calls failed works alone apart =
    works-once _ settings _ turns seat old new thing calls failed works alone apart

pub returns-clause-drawn : goal.returns-clause-drawn
returns-clause-drawn g c settings turns seat old new thing calls failed works alone apart =
    works-drawn _ settings _ turns seat old new thing calls failed works alone apart
