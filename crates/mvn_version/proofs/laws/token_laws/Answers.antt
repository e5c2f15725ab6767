use Rattle.mvn_version.proofs.TokenLaws.{joined_tokens, seams_fit_tokens, uniform_tokens}
use Rattle.mvn_version.proofs.laws.token_laws.Goals as goal

pub returns-clause-joined : goal.returns-clause-joined
returns-clause-joined c = joined_tokens

pub returns-clause-uniform : goal.returns-clause-uniform
returns-clause-uniform c = uniform_tokens

pub returns-clause-seams : goal.returns-clause-seams
returns-clause-seams c = seams_fit_tokens
