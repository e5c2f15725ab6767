use Rattle.std.proofs.Common.{refl}
use Rattle.mvn_coords.specs.Calendar.{civil_of, year_from, month_from}
use Rattle.repo_laws.proofs.worked.worked_moments.Goals as goal

pub returns : goal.returns
unfolding civil_of year_from month_from
returns c = refl
