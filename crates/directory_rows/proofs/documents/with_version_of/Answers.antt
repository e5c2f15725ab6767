use Rattle.std.proofs.Common.{◌≡◌, true, sym, ◌∙◌, subst}
use Rattle.mvn_coords.specs.Segment.{is_version_directory}
use Rattle.directory_rows.proofs.PathForms.{file_form}
use Rattle.directory_rows.proofs.documents.with_version_of.Goals as goal

pub with_version-requires : goal.with_version-requires
with_version-requires c =
    subst (λ t. is_version_directory t ≡ true) (sym (c.in_ok-version.ensures ∙ c.dir.ensures)) (file_form c.args.c.now c.path-path.ensures.rule).version
