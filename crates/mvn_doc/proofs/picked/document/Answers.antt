use Rattle.std.proofs.Common.{sym, ◌∙◌}
use Rattle.mvn_doc.proofs.PickedForm.{artifact_form, snapshot_form}
use Rattle.mvn_doc.proofs.picked.document.Goals as goal

pub new-requires-in-Some : goal.new-requires-in-Some
new-requires-in-Some c =
    snapshot_form c.args.placed.now c.in_ok-group.group c.in_ok-artifact.artifact c.in-Some.base c.build.result c.new.result
    c.in_ok-group.ensures c.in_ok-artifact.ensures (sym c.in_ok-base.ensures ∙ c.in-Some.is) c.build.ensures c.new.ensures

pub new-requires-in-None-2 : goal.new-requires-in-None-2
new-requires-in-None-2 c =
    artifact_form c.args.placed.now c.in_ok-group.group c.in_ok-artifact.artifact c.new-in-None.result c.moment.result
    c.in_ok-group.ensures c.in_ok-artifact.ensures c.new-in-None.ensures c.moment.ensures
