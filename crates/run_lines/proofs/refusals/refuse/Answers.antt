use Rattle.std.proofs.Common.{Some, inl, sym, ap, ◌∙◌}
use Rattle.run_lines.proofs.refusals.refuse.Goals as goal

pub returns-in-Ok : goal.returns-in-Ok
returns-in-Ok g c =
    inl (c.as_slice.result.now, c.in-Ok.ensures ∙ ap Some (sym c.as_slice.ensures.value), c.fault.ensures.prints, c.fault.ensures.status)
