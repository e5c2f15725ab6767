use Rattle.repo_laws.proofs.Closed.{closed, named-in-time, answers-up-to, answers-again}
use Rattle.repo_laws.proofs.documents.served_names_are_answered.Goals as goal

pub returns-clause-history : goal.returns-clause-history
returns-clause-history c = λ settings entries s apart sound legal. closed settings apart entries s sound.order legal

pub returns-clause-named : goal.returns-clause-named
returns-clause-named c = λ settings s e repo d served apart sound fits. named-in-time settings apart s e repo d served fits sound.order

pub returns-clause-from : goal.returns-clause-from
returns-clause-from c = λ settings entries s t repo path blob apart sound legal in_time. answers-up-to settings apart entries s t repo path blob sound.order legal in_time

pub returns-clause-again : goal.returns-clause-again
returns-clause-again c = λ settings e entries s m t repo path blob apart sound legal rises is_file_too early stands. answers-again settings apart e entries s m t repo path blob sound.order legal rises is_file_too early stands
