use Rattle.crash_laws.proofs.Spared.{others-whole}
use Rattle.crash_laws.proofs.laws.kept_blobs_are_whole.Goals as goal

pub returns : goal.returns
returns c rows gone acknowledged found others stored keeps = others-whole gone acknowledged found keeps rows stored others
