use Rattle.record_journal.proofs.Crashes.{may_commit_if}
use Rattle.record_journal.proofs.journal.JournalRecords.load.Goals as goal

pub returns-clause-ready : goal.returns-clause-ready
returns-clause-ready g c = may_commit_if c.load_log.result c.load_log.new.log c.load_log.ensures.ready
