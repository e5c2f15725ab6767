use Rattle.mvn_metadata.proofs.DocumentLaws.{merge_one, merged_assoc, merged_itself}
use Rattle.mvn_metadata.proofs.MergeLaws.{find-with_entries}
use Rattle.mvn_metadata.proofs.laws.merge_laws.Goals as goal

pub returns : goal.returns
returns c = record { alone = merge_one; idempotent = merged_itself; associative = merged_assoc; newest = find-with_entries }
