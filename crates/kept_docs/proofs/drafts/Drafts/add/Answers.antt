use Rattle.std.proofs.Common.{◌≡◌, ap, ◌∙◌}
use Rattle.std.specs.Prelude.{Ok}
use Rattle.std.proofs.lemmas.Result.{on_ok_weaker}
use Rattle.mvn_coords.specs.Layout.{Directory, text_of_directory}
use Rattle.mvn_coords.specs.Path.{IsDirectory}
use Rattle.repo_model.specs.Paths.{file_in}
use Rattle.kept_docs.specs.Drafted.{drafted, with_file_of}
use Rattle.kept_docs.proofs.DraftLemmas.{no_row_more, row_more}
use Rattle.kept_docs.proofs.drafts.Drafts.add.Goals as goal

pub returns-in-Ok-File : goal.returns-in-Ok-File
returns-in-Ok-File c =
    on_ok_weaker c.add_file.result
    (λ (made : (d : Directory) → IsDirectory d → drafted (text_of_directory d) c.args.docs.now c.add_file.new.self ≡ with_file_of d c.in-Ok-File.c c.args.accepted (drafted (text_of_directory d) c.args.docs.now c.args.self.now)).
    row_more c.args.path.now c.in-Ok-File.c c.kind_of.result c.args.accepted (λ text. drafted text c.args.docs.now c.args.self.now) (λ text. drafted text c.args.docs.now c.add_file.new.self) c.kind_of.ensures.kind
    (ap file_in (c.in-Ok-File.is ∙ ap Ok c.in-Ok-File.field-0-is)) made)
    c.add_file.ensures

pub returns-in-Ok-FileSide : goal.returns-in-Ok-FileSide
returns-in-Ok-FileSide c = no_row_more c.args.path.now c.kind_of.result c.args.accepted (λ text. drafted text c.args.docs.now c.args.self.now) c.kind_of.ensures.kind (ap file_in (c.in-Ok-FileSide.is ∙ ap Ok c.in-Ok-FileSide.field-0-is))

pub returns-in-Ok-Doc : goal.returns-in-Ok-Doc
returns-in-Ok-Doc c = no_row_more c.args.path.now c.kind_of.result c.args.accepted (λ text. drafted text c.args.docs.now c.args.self.now) c.kind_of.ensures.kind (ap file_in (c.in-Ok-Doc.is ∙ ap Ok c.in-Ok-Doc.field-0-is))

pub returns-in-Ok-DocSide : goal.returns-in-Ok-DocSide
returns-in-Ok-DocSide c = no_row_more c.args.path.now c.kind_of.result c.args.accepted (λ text. drafted text c.args.docs.now c.args.self.now) c.kind_of.ensures.kind (ap file_in (c.in-Ok-DocSide.is ∙ ap Ok c.in-Ok-DocSide.field-0-is))

pub returns-in-Err : goal.returns-in-Err
returns-in-Err c = no_row_more c.args.path.now c.kind_of.result c.args.accepted (λ text. drafted text c.args.docs.now c.args.self.now) c.kind_of.ensures.kind (ap file_in c.in-Err.is)
