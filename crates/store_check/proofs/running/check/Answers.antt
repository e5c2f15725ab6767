-- The settings are read, and the files looked at; or not.
use Rattle.std.proofs.Common.{refl}
use Rattle.store_check.specs.Checking.{accepted, refused}
use Rattle.store_check.proofs.running.check.Goals as goal

pub returns-in-Ok-clause-checks : goal.returns-in-Ok-clause-checks
returns-in-Ok-clause-checks g c =
    let read = c.in-Ok.ensures in
    accepted c.in-Ok._read (read.0, read.1, refl) (rw read.2 at c.check_store.ensures.checks)

pub returns-in-Err-clause-checks : goal.returns-in-Err-clause-checks
returns-in-Err-clause-checks g c = refused c.in-Err.ensures refl refl
