use Rattle.std.proofs.Common.{unwrap_or, sym, ap, ◌∙◌, subst}
use Rattle.mvn_coords.specs.Layout.{text_of_directory}
use Rattle.repo_model.specs.Data as plain
use Rattle.repo_model.specs.Document.{document}
use Rattle.repo_model.specs.Shown.{shown_parcel}
use Rattle.hosted_repo.specs.Releases.{AllFadeRightly}
use Rattle.repo_model.specs.Paths.{FadesRightly}
use Rattle.hosted_repo.specs.Restored.{kept_row}
use Rattle.kept_docs.specs.Kept.{kept_at}
use Rattle.ordered_rows.specs.Rows.{AreFiles, IsFileRow}
use Rattle.ordered_rows.proofs.EachRow.{each-with}
use Rattle.hosted_repo.proofs.builder.HostedBuilder.restore.Goals as goal

pub invariant_of-self : goal.invariant_of-self
invariant_of-self g c =
    let old = c.self.inside.rows in
    let kept : plain.Row = kept_row c.args.path.now (shown_parcel c.args.parcel) c.args.accepted c.args.phase in
    record {
      named = c.self.invariant.named;
      files = subst AreFiles (sym c.in-Ok.ensures.ok) (each-with IsFileRow kept old c.requires.path c.self.invariant.files);
      fading = subst AllFadeRightly (sym c.in-Ok.ensures.ok) (each-with FadesRightly kept old c.requires.fading c.self.invariant.fading);
      drafted = c.in-Ok.ensures.drafted;
    }

pub invariant_of-self-in-Err : goal.invariant_of-self-in-Err
invariant_of-self-in-Err g c = record {
  named = c.self.invariant.named;
  files = subst AreFiles (sym c.new-rows.ensures) tt;
  fading = subst AllFadeRightly (sym c.new-rows.ensures) tt;
  drafted = λ d is.
      ap (λ o. unwrap_or o (kept_at (text_of_directory d) c.new-docs.result)) (c.new-drafts.ensures (text_of_directory d))
      ∙ c.new-docs.ensures (text_of_directory d)
      ∙ ap (document d) (sym c.new-rows.ensures);
}
