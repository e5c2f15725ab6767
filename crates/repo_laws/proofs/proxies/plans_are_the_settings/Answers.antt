use Rattle.repo_laws.proofs.Plans.{look-plans}
use Rattle.repo_laws.proofs.proxies.plans_are_the_settings.Goals as goal

pub returns : goal.returns
returns c = λ settings s now id path tried plan sound is. look-plans settings s now sound.proxies id path tried plan is
