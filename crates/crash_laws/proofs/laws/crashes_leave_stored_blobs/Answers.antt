use Rattle.crash_laws.proofs.Stores.{stores-keep}
use Rattle.crash_laws.proofs.laws.crashes_leave_stored_blobs.Goals as goal

pub returns : goal.returns
returns c = stores-keep
