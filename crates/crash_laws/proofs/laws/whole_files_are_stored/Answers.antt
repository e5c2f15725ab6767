use Rattle.crash_laws.proofs.Begun.{whole-stored}
use Rattle.crash_laws.proofs.laws.whole_files_are_stored.Goals as goal

pub returns : goal.returns
returns c = whole-stored
