use Rattle.std.proofs.Common.{sym, ◌∙◌}
use Rattle.mvn_doc.proofs.Utf8Lemmas.{no_time}
use Rattle.mvn_doc.proofs.value.timestamp.Goals as goal

pub returns-in_err-text : goal.returns-in_err-text
returns-in_err-text c = c.from_residual.ensures ∙ sym (no_time c.args.bytes.now c.in_err-text.ensures)
