use Rattle.std.proofs.Common.{refl}
use Rattle.repo_laws.proofs.Proxied.{was-landed, all-proxied}
use Rattle.repo_laws.proofs.proxies.proxied.Goals as goal

pub returns-clause-kept : goal.returns-clause-kept
returns-clause-kept c = λ settings start entries id path row legal found. was-landed id path row.blob settings entries start legal (row, found, refl)

pub returns-clause-answered : goal.returns-clause-answered
returns-clause-answered c = λ settings start entries legal. all-proxied settings start entries legal
