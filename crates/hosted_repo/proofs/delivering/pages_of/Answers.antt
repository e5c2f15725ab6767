use Rattle.std.proofs.Common.{◌≡◌, List, ℕ, Vec, Global}
use Rattle.std.proofs.lemmas.Result.{IfOk-weaker}
use Rattle.repo_model.specs.Deploy.{deliver_all}
use Rattle.hosted_delivery.specs.Deliveries.{session_with, shown_files}
use Rattle.ordered_rows.specs.Rows.{rows_after_all, shown_rows}
use Rattle.kept_docs.specs.Drafted.{drafted}
use Rattle.kept_docs.specs.Placed.{WillBeOf, placed}
use Rattle.kept_docs.specs.declared.pages.Page.{Page}
use Rattle.kept_docs.proofs.KeptLemmas.{drafted_of}
use Rattle.hosted_repo.proofs.delivering.pages_of.Goals as goal

pub returns-clause-pages : goal.returns-clause-pages
returns-clause-pages g c =
    let docs = c.prepared.new.docs in
    let old = c.args.docs.now in
    let rows = shown_rows c.args.rows.now.entries in
    IfOk-weaker c.prepared.result
    (λ (pages : Vec Page Global). (text : List ℕ) → placed text docs pages.items ≡ drafted text old c.in_ok-drafts.drafts)
    (λ (pages : Vec Page Global). (repo : List ℕ) → WillBeOf docs pages.items (rows_after_all (deliver_all (session_with repo (shown_files c.args.staged.now.entries)) c.args.now rows) rows))
    (λ pages told. λ repo. drafted_of old docs c.in_ok-drafts.drafts pages.items (rows_after_all (deliver_all (session_with repo (shown_files c.args.staged.now.entries)) c.args.now rows) rows) told (c.in_ok-drafts.ensures repo))
    c.prepared.ensures.pages
