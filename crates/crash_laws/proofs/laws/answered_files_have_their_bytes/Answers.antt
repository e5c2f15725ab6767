use Rattle.crash_laws.proofs.Bytes.{answered-whole}
use Rattle.crash_laws.proofs.laws.answered_files_have_their_bytes.Goals as goal

pub returns : goal.returns
returns c = answered-whole
