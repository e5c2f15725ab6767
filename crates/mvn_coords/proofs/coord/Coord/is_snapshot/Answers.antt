use Rattle.std.proofs.Common.{◌∙◌, ap, is_some}
use Rattle.mvn_coords.specs.FileName.{base_of}
use Rattle.mvn_coords.specs.Layout.{Coordinates}
use Rattle.mvn_coords.specs.Fields.{coordinates_in}
use Rattle.mvn_coords.proofs.ExactPaths.{build_in_snapshots}
use Rattle.mvn_coords.proofs.coord.Coord.is_snapshot.Goals as goal

pub returns-clause-directory : goal.returns-clause-directory
returns-clause-directory c =
    c.is_some.ensures ∙ build_in_snapshots (coordinates_in c.self.inside) c.self.invariant.rule
    ∙ ap (λ (k : Coordinates). is_some (base_of k.directory)) c.self.view_is
