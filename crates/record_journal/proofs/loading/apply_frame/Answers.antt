use Rattle.record_journal.proofs.Built.{built_more}
use Rattle.record_journal.proofs.loading.apply_frame.Goals as goal

pub returns-in-Ok-apply-clause-built : goal.returns-in-Ok-apply-clause-built
returns-in-Ok-apply-clause-built c = λ built. built_more _ _ _ c.items.ensures.form c.in-Ok-apply.ensures built
