use Rattle.repo_course.specs.Serving.{AllTell}
use Rattle.running_laws.proofs.Later.{all-show, front-shows}
use Rattle.running_laws.proofs.named.named_files_outlast_crashes.Goals as goal

pub returns-clause-fronts : goal.returns-clause-fronts
returns-clause-fronts g c settings start t u entries apart sound order holds legal left = front-shows (AllTell g.H.Held.bytes) settings start t apart sound order holds entries u legal left

pub returns-clause-all : goal.returns-clause-all
returns-clause-all g c settings start t u entries apart sound order holds legal is = all-show (AllTell g.H.Held.bytes) settings start t apart sound order holds entries u legal is
