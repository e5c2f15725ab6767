use Rattle.std.proofs.Common.{sym}
use Rattle.mvn_metadata.proofs.Utf8Facts.{no_group_part}
use Rattle.mvn_metadata.proofs.form.is_group_part.Goals as goal

pub returns-in-Err : goal.returns-in-Err
returns-in-Err c = sym (no_group_part c.args.bytes.now c.in-Err.ensures.cases.0)
