use Rattle.repo_laws.proofs.Untouched.{untouched}
use Rattle.repo_laws.proofs.numbers.untouched.Goals as goal

pub returns : goal.returns
returns c = λ settings entries s apart sound legal. untouched settings apart entries s sound.order sound.places legal
