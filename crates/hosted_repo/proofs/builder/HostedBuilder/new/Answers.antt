use Rattle.std.proofs.Common.{unwrap_or, sym, ap, ◌∙◌, subst}
use Rattle.mvn_coords.specs.Layout.{text_of_directory}
use Rattle.repo_model.specs.Document.{document}
use Rattle.ordered_rows.specs.Rows.{AreFiles}
use Rattle.kept_docs.specs.Kept.{kept_at}
use Rattle.hosted_repo.specs.Releases.{AllFadeRightly}
use Rattle.hosted_repo.proofs.builder.HostedBuilder.new.Goals as goal

pub invariant_of-result : goal.invariant_of-result
invariant_of-result g c = record {
  named = c.requires;
  files = subst AreFiles (sym c.new-rows.ensures) tt;
  fading = subst AllFadeRightly (sym c.new-rows.ensures) tt;
  drafted = λ d is.
      ap (λ o. unwrap_or o (kept_at (text_of_directory d) c.new-docs.result)) (c.new-drafts.ensures (text_of_directory d))
      ∙ c.new-docs.ensures (text_of_directory d)
      ∙ ap (document d) (sym c.new-rows.ensures);
}
