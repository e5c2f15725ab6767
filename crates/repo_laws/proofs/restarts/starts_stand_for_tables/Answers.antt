use Rattle.std.proofs.Common.{refl}
use Rattle.repo_laws.proofs.Starting.{started-stands}
use Rattle.repo_laws.proofs.StartedSound.{started-sound, started-rows, stored-below}
use Rattle.repo_laws.proofs.restarts.starts_stand_for_tables.Goals as goal

pub returns-clause-stands : goal.returns-clause-stands
returns-clause-stands c = started-stands

pub returns-clause-sound : goal.returns-clause-sound
returns-clause-sound c = started-sound

pub returns-clause-rows : goal.returns-clause-rows
returns-clause-rows c = started-rows

pub returns-clause-drafts : goal.returns-clause-drafts
returns-clause-drafts c = stored-below

pub returns-clause-opening : goal.returns-clause-opening
returns-clause-opening c = λ settings tells clock. refl
