use Rattle.repo_config.proofs.names.check_parts.Goals as goal

pub returns-clause-err : goal.returns-clause-err
returns-clause-err c =
    rw (← c.in_ok-ids.ensures.ok, ← c.deref-2.ensures.value, ← c.parts.view_is, ← c.deref.ensures.value) c.check_names.ensures.err
