-- The files were looked at, or not.
use Rattle.store_check.specs.Checking.{looked}
use Rattle.store_check.proofs.Refused.{refused}
use Rattle.store_check.proofs.checking.check_store.Goals as goal

pub returns-in-Ok-clause-checks : goal.returns-in-Ok-clause-checks
returns-in-Ok-clause-checks g c =
    let a = c.in-Ok.ensures.audit in
    looked a.0 c.in-Ok.found.damaged.items a.1 a.2 a.3 a.5 c.in-Ok.ensures.cause.0 c.in-Ok.ensures.cause.1 (rw a.4 at c.report.ensures)

pub returns-in-Err-clause-checks : goal.returns-in-Err-clause-checks
returns-in-Err-clause-checks g c =
    refused _ _ _ _ _ _ _ _ c.in-Err.refusal c.in-Err.ensures.cause c.in-Err.ensures.unread c.in-Err.ensures.loading c.refuse_store.ensures
