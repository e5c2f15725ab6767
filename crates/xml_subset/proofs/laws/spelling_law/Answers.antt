use Rattle.xml_subset.proofs.Spelled.{outline-spelled}
use Rattle.xml_subset.proofs.laws.spelling_law.Goals as goal

pub returns : goal.returns
returns c = λ root name value inner e f g plain within. outline-spelled root name value inner e f g plain within
