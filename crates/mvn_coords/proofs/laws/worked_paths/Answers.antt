use Rattle.std.proofs.Common.{refl}
use Rattle.mvn_coords.specs.Path.{parts_of}
use Rattle.mvn_coords.specs.Worked.{WorkedPaths}
use Rattle.mvn_coords.proofs.laws.worked_paths.Goals as goal

computed : WorkedPaths
unfolding parts_of
computed = record {
  empty = refl;
  short = refl;
  release = refl;
  side = refl;
  further_side = refl;
  document_side = refl;
  two_sides = refl;
  not_named = refl;
  bad_segment = refl;
  snapshot = refl;
  bad_stamp = refl;
  bad_build = refl;
  literal = refl;
  document = refl;
  snapshot_document = refl;
}

pub returns : goal.returns
returns c = computed
