use Rattle.std.proofs.Common.{◌++◌}
use Rattle.record_log.specs.Frames.{head_of}
use Rattle.record_log.proofs.Reading.{holds_closed}
use Rattle.record_journal.proofs.Loads.{loads_held}
use Rattle.record_journal.proofs.Standing.{images_of}
use Rattle.record_journal.proofs.laws.laws_of_journals.Goals as goal

pub returns-clause-images : goal.returns-clause-images
returns-clause-images c = images_of

pub returns-clause-unread : goal.returns-clause-unread
returns-clause-unread c payloads rest short closed = loads_held (head_of payloads ++ rest) payloads (holds_closed payloads rest short closed)
