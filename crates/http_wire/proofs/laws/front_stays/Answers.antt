use Rattle.http_wire.proofs.FrontLemmas.{front_stays_with}
use Rattle.http_wire.proofs.laws.front_stays.Goals as goal

pub returns-clause-whole : goal.returns-clause-whole
returns-clause-whole c = λ bytes more head rest is. (front_stays_with bytes more).whole head rest is

pub returns-clause-bad : goal.returns-clause-bad
returns-clause-bad c = λ bytes more fault is. (front_stays_with bytes more).bad fault is
