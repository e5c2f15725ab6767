use Rattle.std.proofs.Common.{◌≡◌, sym, subst}
use Rattle.std.specs.Prelude.{OnOk}
use Rattle.mvn_coords.specs.Layout.{Directory, text_of_directory}
use Rattle.mvn_coords.specs.Path.{IsDirectory}
use Rattle.repo_model.specs.Data.{Blob}
use Rattle.directory_rows.specs.Documents.{added}
use Rattle.ordered_rows.specs.declared.row.Phase.{Phase}
use Rattle.kept_docs.specs.Drafted.{drafted}
use Rattle.hosted_repo.specs.Restored.{kept_row}
use Rattle.hosted_repo.proofs.builder.draft_row.Goals as goal

pub returns-in-Listed : goal.returns-in-Listed
returns-in-Listed c =
    subst (λ (p : Phase). OnOk c.add.result ((d : Directory) (blob : Blob) → IsDirectory d → drafted (text_of_directory d) c.args.docs.now c.add.new.self
    ≡ added d (drafted (text_of_directory d) c.args.docs.now c.args.drafts.now) (kept_row c.args.path.now blob c.args.accepted p)))
    (sym c.in-Listed.is) c.add.ensures
