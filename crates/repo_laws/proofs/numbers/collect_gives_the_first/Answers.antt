use Rattle.repo_laws.proofs.Collecting.{collect-gives, none-left}
use Rattle.repo_laws.proofs.numbers.collect_gives_the_first.Goals as goal

pub returns-clause-given : goal.returns-clause-given
returns-clause-given c = λ settings s e expired blobs apart sound fits is_collect is. collect-gives settings apart s e sound is_collect expired blobs fits is

pub returns-clause-left : goal.returns-clause-left
returns-clause-left c = λ settings s e expired blobs apart sound fits is_collect is. none-left settings apart s e sound is_collect expired blobs fits is
