use Rattle.std.proofs.Common.{inl, ◌∙◌}
use Rattle.store_check.proofs.checking.refuse_row.Goals as goal

pub returns-in-Ok : goal.returns-in-Ok
returns-in-Ok g c = inl (rw (c.as_slice.ensures.value ∙ c.in-Ok.ensures) at c.fault.ensures.prints, c.fault.ensures.status)
