use Rattle.repo_laws.proofs.Lasting.{releases-last}
use Rattle.repo_laws.proofs.deployed.releases_stay.Goals as goal

pub returns : goal.returns
returns c = λ settings entries s apart sound legal. releases-last settings apart entries s sound.order sound.fading legal
