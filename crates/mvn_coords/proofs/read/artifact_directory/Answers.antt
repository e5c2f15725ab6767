use Rattle.std.proofs.Common.{◌∙◌, sym, ap, Ok, None}
use Rattle.mvn_coords.specs.Segment.{levels}
use Rattle.mvn_coords.specs.Layout.{directory}
use Rattle.mvn_coords.proofs.Documents.{artifact_judged, keeps_directory}
use Rattle.mvn_coords.proofs.read.artifact_directory.Goals as goal

pub new-requires-clause-rule : goal.new-requires-clause-rule
new-requires-clause-rule c =
    let found = artifact_judged (levels c.args.path.now) c.args.artifact.now c.args.group.now c.requires.judged (sym c.all_groups.ensures ∙ c.if-not-all_groups.false) (sym c.are_artifact_bytes.ensures ∙ c.if-not-are_artifact_bytes.false) in
    (keeps_directory c.args.document.now c.args.path.now (directory c.args.group.now c.args.artifact.now None) c.requires.plain c.requires.below found).0

pub new-requires-clause-text : goal.new-requires-clause-text
new-requires-clause-text c =
    let found = artifact_judged (levels c.args.path.now) c.args.artifact.now c.args.group.now c.requires.judged (sym c.all_groups.ensures ∙ c.if-not-all_groups.false) (sym c.are_artifact_bytes.ensures ∙ c.if-not-are_artifact_bytes.false) in
    (keeps_directory c.args.document.now c.args.path.now (directory c.args.group.now c.args.artifact.now None) c.requires.plain c.requires.below found).1

pub returns : goal.returns
returns c =
    let found = artifact_judged (levels c.args.path.now) c.args.artifact.now c.args.group.now c.requires.judged (sym c.all_groups.ensures ∙ c.if-not-all_groups.false) (sym c.are_artifact_bytes.ensures ∙ c.if-not-are_artifact_bytes.false) in
    ap (λ d. Ok d) c.new.ensures ∙ sym found
