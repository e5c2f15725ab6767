use Rattle.std.proofs.Common.{◌≡◌, sym, ap, ◌∙◌}
use Rattle.std.proofs.lemmas.Result.{on_ok_weaker}
use Rattle.repo_model.specs.Data as plain
use Rattle.repo_model.specs.Document.{document}
use Rattle.repo_model.specs.Effect.{with_row}
use Rattle.directory_rows.specs.Documents.{added}
use Rattle.ordered_rows.specs.Rows.{shown_at}
use Rattle.kept_docs.proofs.Beside.{document-with_row}
use Rattle.hosted_repo.proofs.builder.add_row.Goals as goal

pub returns-clause-drafted : goal.returns-clause-drafted
returns-clause-drafted g c =
    let row : plain.Row = shown_at c.args.path.now c.args.row in
    let rows = c.args.rows.now in
    on_ok_weaker c.add.result
    (λ (made : c.add.new.self ≡ with_row row rows). λ d is.
    c.in_default.ensures d row.blob is ∙ ap (λ o. added d o row) (c.requires.drafted d is) ∙ sym (document-with_row d row rows) ∙ ap (document d) (sym made))
    c.add.ensures.ok
