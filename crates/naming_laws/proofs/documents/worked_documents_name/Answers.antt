use Rattle.std.proofs.Common.{refl}
use Rattle.mvn_coords.specs.Path.{parts_of}
use Rattle.mvn_coords.specs.Calendar.{civil_of, year_from, month_from}
use Rattle.naming_laws.proofs.documents.worked_documents_name.Goals as goal

pub returns-clause-builds : goal.returns-clause-builds
unfolding parts_of civil_of year_from month_from
returns-clause-builds c = refl

pub returns-clause-faded : goal.returns-clause-faded
unfolding parts_of civil_of year_from month_from
returns-clause-faded c = refl

pub returns-clause-listed_again : goal.returns-clause-listed_again
unfolding parts_of civil_of year_from month_from
returns-clause-listed_again c = refl

pub returns-clause-versions : goal.returns-clause-versions
unfolding parts_of civil_of year_from month_from
returns-clause-versions c = refl

pub returns-clause-release : goal.returns-clause-release
unfolding parts_of civil_of year_from month_from
returns-clause-release c = refl

pub returns-clause-deployed : goal.returns-clause-deployed
unfolding parts_of civil_of year_from month_from
returns-clause-deployed c = refl

pub returns-clause-none : goal.returns-clause-none
unfolding parts_of civil_of year_from month_from
returns-clause-none c = refl
