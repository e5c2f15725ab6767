use Rattle.repo_rows.proofs.Changes.{is_change, take_ok, take_err}
use Rattle.repo_rows.proofs.taking.take.Goals as goal

pub of-requires : goal.of-requires
of-requires c = is_change c.args.bytes.now c.min.result c.in-Ok.items.items c.in-Ok.rest.now (λ i. (c.type_inv.bytes i).fits) c.min.ensures c.in-Ok.ensures

pub returns-in-Ok : goal.returns-in-Ok
returns-in-Ok c = take_ok c.args.bytes.now c.min.result c.in-Ok.items.items c.of.result c.in-Ok.rest.now c.saturating_sub.result c.min.ensures c.in-Ok.ensures c.of.ensures c.saturating_sub.ensures

pub returns-in-Err-Refused : goal.returns-in-Err-Refused
returns-in-Err-Refused c = take_err c.args.bytes.now c.min.result c.in-Err-Refused.left c.saturating_sub-in-Err-Refused.result c.min.ensures (rw c.in-Err-Refused.field-0-is at c.in-Err-Refused.ensures) c.saturating_sub-in-Err-Refused.ensures
