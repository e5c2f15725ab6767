use Rattle.std.proofs.Common.{ap, sym, ◌∙◌}
use Rattle.std.specs.Option.{option_copied}
use Rattle.mvn_coords.specs.Segment.{is_version_directory}
use Rattle.mvn_doc.proofs.Utf8Lemmas.{fails, version_utf8}
use Rattle.mvn_doc.proofs.value.version.Goals as goal

pub returns-in_err-text : goal.returns-in_err-text
returns-in_err-text c =
    ap option_copied c.from_residual.ensures ∙ sym (fails is_version_directory c.args.bytes.now (version_utf8 c.args.bytes.now) c.in_err-text.ensures)
