use Rattle.std.proofs.Common.{ap, ◌∙◌}
use Rattle.repo_model.specs.Effect.{with_kept}
use Rattle.proxy_entries.specs.Stored.{shown_documents, shown_kept}
use Rattle.proxy_entries.proofs.DocumentLemmas.{kept}
use Rattle.proxy_entries.proofs.documents.put.Goals as goal

pub returns-clause-ok : goal.returns-clause-ok
returns-clause-ok c =
    let es = c.args.documents.now.entries in
    ap shown_documents c.in_ok-insert.ensures.entries
    ∙ kept c.in_ok-key.key c.args.kept es
    ∙ ap (λ p. with_kept (shown_kept p c.args.kept) (shown_documents es)) c.in_ok-key.ensures.ok
