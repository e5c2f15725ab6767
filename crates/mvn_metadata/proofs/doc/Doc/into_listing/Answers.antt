use Rattle.std.proofs.Common.{◌&&◌}
use Rattle.mvn_coords.specs.Segment.{is_artifact}
use Rattle.mvn_metadata.specs.Form.{is_fit, is_group, is_listing}
use Rattle.mvn_metadata.proofs.Bools.{second}
use Rattle.mvn_metadata.proofs.doc.Doc.into_listing.Goals as goal

pub returns-clause-form : goal.returns-clause-form
returns-clause-form c =
    let d = c.self.inside in
    second (is_fit is_group d.group && is_fit is_artifact d.artifact) (is_listing d.listing) c.self.invariant
