use Rattle.std.proofs.Common.{sym, subst}
use Rattle.desk_laws.proofs.HandedOver.{stream-drawn, stream-once}
use Rattle.desk_laws.proofs.Telling.{serves-told}
use Rattle.crash_laws.specs.Handed.{AllHandTold, AnyHands, HandOnce}
use Rattle.served_laws.proofs.Kept.{entries-turned, keeps-bytes}
use Rattle.served_laws.proofs.Runs.{begun-turns}
use Rattle.served_laws.proofs.crashes.replays_keep_the_bytes_that_came.Goals as goal

pub returns : goal.returns
returns g c settings old new ending calls r tell =
    let turned = entries-turned r.entries r.begun r.core r.made in
    keeps-bytes settings old.records old.place.resources.blobs r.cleared old.clock r.begun r.begins new.records _
    (begun-turns settings old.records old.place.resources.blobs r.cleared old.clock r.begun r.begins new.records r.core r.entries r.made r.holds)
    (subst AllHandTold (sym turned) (serves-told _ tell settings 1000 r.entries _ _ ending r.serves))
    (subst HandOnce (sym turned) (stream-once settings _ 1000 r.begun.state r.entries _ _ ending r.legal r.serves))
    (λ n any. stream-drawn settings _ 1000 r.begun.state r.entries _ _ ending r.legal r.serves n (subst (AnyHands n) turned any))
