use Rattle.mvn_metadata.specs.Written.{version_line}
use Rattle.mvn_doc.proofs.TextLemmas.{one_more}
use Rattle.mvn_doc.proofs.writing.each_version.Goals as goal

pub loop-version-preserved : goal.loop-version-preserved
loop-version-preserved c =
    one_more version_line c.args.out.now c.loop-version.out c.version_line.new.out c.in-Some.version.now c.loop-version.version-iterator
    c.next.new.self c.args.versions.now c.in-Some.ensures.steps c.version_line.ensures c.loop-version.invariant
