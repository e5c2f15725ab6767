use Rattle.std.proofs.Common.{◌≡◌, None, take}
use Rattle.mvn_coords.specs.Layout.{Directory, text_of_directory}
use Rattle.mvn_coords.specs.Path.{IsDirectory}
use Rattle.kept_docs.specs.Drafted.{AreRight, draft_at}
use Rattle.hosted_repo.specs.Fades.{AreApartFrom}
use Rattle.hosted_repo.proofs.purge.drafts_of.Given as goal

abbrev pub invariant-loop-path : goal.invariant-loop-path
invariant-loop-path g l = record {
  right : AreRight l.drafts l.rows;
  walked : (d : Directory) → IsDirectory d → draft_at (text_of_directory d) l.drafts ≡ None → AreApartFrom d (take l.path-index l.paths);
}
