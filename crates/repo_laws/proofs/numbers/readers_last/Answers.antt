use Rattle.repo_laws.proofs.Readers.{readers-last}
use Rattle.repo_laws.proofs.numbers.readers_last.Goals as goal

pub returns : goal.returns
returns c = λ settings entries s apart legal. readers-last settings apart entries s legal
