use Rattle.std.proofs.Common.{sym, ap, ◌∙◌, subst}
use Rattle.mvn_coords.specs.Layout.{text_of_directory}
use Rattle.repo_model.specs.Document.{document}
use Rattle.ordered_rows.specs.Rows.{AreFiles}
use Rattle.hosted_repo.specs.Releases.{AllFadeRightly}
use Rattle.hosted_repo.proofs.hosted.Hosted.new.Goals as goal

pub invariant_of-result : goal.invariant_of-result
invariant_of-result g c = record {
  named = c.requires;
  files = subst AreFiles (sym c.new-rows.ensures) tt;
  fading = subst AllFadeRightly (sym c.new-rows.ensures) tt;
  kept = λ d is. c.new-docs.ensures (text_of_directory d) ∙ ap (document d) (sym c.new-rows.ensures);
}
