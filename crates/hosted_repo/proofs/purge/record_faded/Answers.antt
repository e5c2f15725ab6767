use Rattle.std.proofs.Common.{◌∙◌}
use Rattle.kept_docs.proofs.KeptLemmas.{drafted_of, right_of}
use Rattle.hosted_repo.proofs.purge.record_faded.Goals as goal

pub returns-in-Ok-clause-pages : goal.returns-in-Ok-clause-pages
returns-in-Ok-clause-pages g c =
    let old = c.args.docs.now in
    let drafts = c.in_ok-drafts.drafts in
    let rows = c.args.rows.now in
    drafted_of old c.prepared.new.docs drafts c.in_ok-pages.pages.items rows c.in_ok-pages.ensures.pages
    (right_of old drafts rows c.in_ok-drafts.ensures.right (λ d is none. c.requires.docs d is (c.in_ok-drafts.ensures.walked d is none)))

pub returns-in-Err-clause-same : goal.returns-in-Err-clause-same
returns-in-Err-clause-same g c = λ text. c.give_up.ensures text ∙ c.prepared.ensures.same text
