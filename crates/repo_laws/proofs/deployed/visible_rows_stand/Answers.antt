use Rattle.repo_laws.proofs.Stands.{stands-kept}
use Rattle.repo_laws.proofs.deployed.visible_rows_stand.Goals as goal

pub returns : goal.returns
returns c = λ grace now t s e repo path blob early late may stands. stands-kept path blob t grace now s e repo early late may stands
