use Rattle.std.proofs.Common.{refl, sym}
use Rattle.std.specs.Prelude.{codes}
use Rattle.std.specs.List.{flat_map}
use Rattle.mvn_metadata.specs.Written.{entry_lines}
use Rattle.doc_lengths.proofs.LengthLemmas.{entries-so}
use Rattle.doc_lengths.proofs.lengths.entries_lines.Goals as goal

pub returns : goal.returns
returns c =
    entries-so c.args.entries.now c.is_empty.result c.block.result c.if-is_empty.false c.is_empty.ensures.1
    (c.block.ensures (codes "    ") (codes "snapshotVersions") (flat_map entry_lines c.args.entries.now) refl refl (sym c.each_entry.ensures))
