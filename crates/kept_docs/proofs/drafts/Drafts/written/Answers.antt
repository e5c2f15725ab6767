use Rattle.std.proofs.Common.{sym, ap, ◌∙◌}
use Rattle.std.proofs.lemmas.Map.Iter.{rest_more}
use Rattle.kept_docs.specs.Placed.{page_at}
use Rattle.kept_docs.proofs.PageLemmas.{first, first-more, found}
use Rattle.kept_docs.proofs.drafts.Drafts.written.Goals as goal

pub loop-path-preserved : goal.loop-path-preserved
loop-path-preserved c = λ text.
    let next = rest_more (λ x. x) c.loop-path.path-iterator c.next.new.self c.next.result (c.in-Some.path, c.in-Some.doc) c.in-Some.is c.next.ensures.steps in
    ap (λ ps. first (page_at text ps) (found text c.next.new.self)) c.in_ok-push.ensures.items
    ∙ first-more text c.loop-path.pages.items c.in_ok-page.page (c.in-Some.path, c.in-Some.doc) c.next.new.self c.in_ok-page.ensures.path c.in_ok-page.ensures.doc
    ∙ ap (λ es. first (page_at text c.loop-path.pages.items) (found text es)) (sym next)
    ∙ c.loop-path.invariant text
