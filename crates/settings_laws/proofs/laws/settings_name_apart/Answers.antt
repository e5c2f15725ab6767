use Rattle.settings_laws.proofs.Apart.{named-apart, proxies-apart}
use Rattle.settings_laws.proofs.laws.settings_name_apart.Goals as goal

pub returns-clause-hosted : goal.returns-clause-hosted
returns-clause-hosted c = named-apart

pub returns-clause-proxies : goal.returns-clause-proxies
returns-clause-proxies c = proxies-apart
