use Rattle.crash_laws.proofs.Handed.{acknowledged-bytes, acknowledged-only, all-acknowledged, recorded-stored}
use Rattle.crash_laws.proofs.laws.handed_blobs_are_acknowledged.Goals as goal

pub returns-clause-handed : goal.returns-clause-handed
returns-clause-handed c = all-acknowledged

pub returns-clause-recorded : goal.returns-clause-recorded
returns-clause-recorded c = recorded-stored

pub returns-clause-bytes : goal.returns-clause-bytes
returns-clause-bytes c shelf those entries n bytes = acknowledged-bytes n bytes shelf those entries

pub returns-clause-only : goal.returns-clause-only
returns-clause-only c shelf entries n bytes = acknowledged-only n bytes shelf entries
