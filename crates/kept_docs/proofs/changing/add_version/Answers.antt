use Rattle.std.proofs.Common.{◌≡◌, true, sym, ◌∙◌, subst}
use Rattle.mvn_coords.specs.Segment.{is_version_directory}
use Rattle.directory_rows.proofs.PathForms.{file_form}
use Rattle.kept_docs.proofs.changing.add_version.Goals as goal

pub add_version-requires : goal.add_version-requires
add_version-requires c =
    subst (λ t. is_version_directory t ≡ true) (sym (c.in_ok-version.ensures ∙ c.dir.ensures)) (file_form c.args.c.now c.path-path.ensures.rule).version
