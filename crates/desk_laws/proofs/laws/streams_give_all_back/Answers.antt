use Rattle.desk_laws.proofs.Fitting.{all-fit}
use Rattle.desk_laws.proofs.Streams.{serves-back}
use Rattle.desk_laws.proofs.laws.streams_give_all_back.Goals as goal

pub returns : goal.returns
returns g c settings n start end entries old new ending woven serves =
    serves-back settings settings _ n entries old new ending (all-fit settings entries woven.history start woven.legal woven.holds) serves
