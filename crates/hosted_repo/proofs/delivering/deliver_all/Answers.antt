use Rattle.std.proofs.Common.{sym, subst}
use Rattle.repo_model.specs.Data.{Row}
use Rattle.repo_model.specs.Deploy.{deliver_all}
use Rattle.hosted_delivery.specs.Deliveries.{session_with, shown_files}
use Rattle.ordered_rows.specs.Rows.{rows_after_all}
use Rattle.kept_docs.specs.Kept.{AreOf}
use Rattle.kept_docs.specs.Placed.{WillBeOf}
use Rattle.kept_docs.proofs.KeptLemmas.{placed_of, same_of}
use Rattle.std.proofs.Common.{List}
use Rattle.hosted_repo.proofs.delivering.deliver_all.Goals as goal

pub pages_of-requires-clause-docs : goal.pages_of-requires-clause-docs
pages_of-requires-clause-docs g c = subst (AreOf c.args.docs.now) (sym c.map.ensures) c.requires.docs

pub returns-in_err-pages-clause-docs : goal.returns-in_err-pages-clause-docs
returns-in_err-pages-clause-docs g c = same_of c.args.docs.now c.pages_of.new.docs c.args.rows.now c.pages_of.ensures.same c.requires.docs

pub returns-in-Ok-clause-docs : goal.returns-in-Ok-clause-docs
returns-in-Ok-clause-docs g c =
    let docs = c.pages_of.new.docs in
    let pages = c.in_ok-pages.pages.items in
    let after : List Row → List Row = λ rows. rows_after_all (deliver_all (session_with c.args.repo.now (shown_files c.args.staged.now.entries)) c.args.now rows) rows in
    subst (AreOf c.place.new.self) (sym c.in-Ok.ensures.rows)
    (placed_of docs c.place.new.self pages (after c.args.rows.now) c.place.ensures
    (subst (λ (rows : List Row). WillBeOf docs pages (after rows)) c.map.ensures (c.in_ok-pages.ensures.pages c.args.repo.now)))

pub returns-in-Err-clause-docs : goal.returns-in-Err-clause-docs
returns-in-Err-clause-docs g c =
    let docs = c.pages_of.new.docs in
    subst (AreOf c.give_up.new.self) (sym c.in-Err.ensures.err)
    (same_of docs c.give_up.new.self c.args.rows.now c.give_up.ensures (same_of c.args.docs.now docs c.args.rows.now c.pages_of.ensures.same c.requires.docs))
