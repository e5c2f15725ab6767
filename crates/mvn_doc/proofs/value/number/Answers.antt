use Rattle.std.proofs.Common.{sym, ◌∙◌}
use Rattle.mvn_doc.proofs.Utf8Lemmas.{no_number}
use Rattle.mvn_doc.proofs.value.number.Goals as goal

pub returns-in_err-text-clause-value : goal.returns-in_err-text-clause-value
returns-in_err-text-clause-value c = c.from_residual.ensures ∙ sym (no_number c.args.bytes.now c.in_err-text.ensures)
