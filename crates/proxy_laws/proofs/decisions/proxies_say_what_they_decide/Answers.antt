use Rattle.proxy_laws.proofs.Answering.{decisions-said}
use Rattle.proxy_laws.proofs.decisions.proxies_say_what_they_decide.Goals as goal

pub returns : goal.returns
returns c = decisions-said
