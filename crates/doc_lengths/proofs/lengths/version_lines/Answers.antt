use Rattle.std.proofs.Common.{refl, sym}
use Rattle.std.specs.Prelude.{codes}
use Rattle.std.specs.List.{flat_map}
use Rattle.mvn_metadata.specs.Written.{version_line}
use Rattle.doc_lengths.proofs.LengthLemmas.{versions-so}
use Rattle.doc_lengths.proofs.lengths.version_lines.Goals as goal

pub returns : goal.returns
returns c =
    versions-so c.args.versions.now c.is_empty.result c.block.result c.if-is_empty.false c.is_empty.ensures.1
    (c.block.ensures (codes "    ") (codes "versions") (flat_map version_line c.args.versions.now) refl refl (sym c.each_version.ensures))
