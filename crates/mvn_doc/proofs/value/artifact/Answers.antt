use Rattle.std.proofs.Common.{ap, sym, ◌∙◌}
use Rattle.std.specs.Option.{option_copied}
use Rattle.mvn_coords.specs.Segment.{is_artifact}
use Rattle.mvn_doc.proofs.Utf8Lemmas.{fails, artifact_utf8}
use Rattle.mvn_doc.proofs.value.artifact.Goals as goal

pub returns-in_err-text : goal.returns-in_err-text
returns-in_err-text c =
    ap option_copied c.from_residual.ensures ∙ sym (fails is_artifact c.args.bytes.now (artifact_utf8 c.args.bytes.now) c.in_err-text.ensures)
