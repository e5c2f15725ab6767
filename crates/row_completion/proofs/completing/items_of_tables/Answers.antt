use Rattle.std.proofs.Common.{map, ap, ◌∙◌, subst}
use Rattle.std.proofs.lemmas.Result.{IfOk-weaker}
use Rattle.blob_audit.specs.Files.{shown_file}
use Rattle.row_completion.specs.Gathering.{AreItemsOf}
use Rattle.row_completion.proofs.completing.items_of_tables.Goals as goal

pub returns-clause-items : goal.returns-clause-items
returns-clause-items g c =
    IfOk-weaker c.items_of_files.result _ _
    (λ items is. subst (λ files. AreItemsOf (g.B.Blobs.shelf c.args.blobs.now) files items.items) (ap (map shown_file) c.deref.ensures.value ∙ c.in_ok-files.ensures.files) is)
    c.items_of_files.ensures.items
