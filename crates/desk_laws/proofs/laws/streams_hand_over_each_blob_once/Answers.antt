use Rattle.desk_laws.proofs.HandedOver.{stream-drawn, stream-once}
use Rattle.desk_laws.proofs.Telling.{serves-told}
use Rattle.desk_laws.proofs.laws.streams_hand_over_each_blob_once.Goals as goal

pub returns-clause-told : goal.returns-clause-told
returns-clause-told g c settings n entries old new ending serves tell = serves-told _ tell settings n entries old new ending serves

pub returns-clause-once : goal.returns-clause-once
returns-clause-once g c settings n start entries old new ending legal serves = stream-once settings _ n start entries old new ending legal serves

pub returns-clause-drawn : goal.returns-clause-drawn
returns-clause-drawn g c settings n start entries old new ending legal serves = stream-drawn settings _ n start entries old new ending legal serves
