use Rattle.std.proofs.Common.{unwrap_or, ap, ◌∙◌}
use Rattle.kept_docs.specs.Drafted.{draft_at}
use Rattle.kept_docs.specs.Kept.{kept_at}
use Rattle.kept_docs.proofs.preparing.prepared.Goals as goal

pub returns-in-Ok-clause-pages : goal.returns-in-Ok-clause-pages
returns-in-Ok-clause-pages c = λ text.
    ap (λ o. unwrap_or o (kept_at text c.make_room.new.self)) (c.in_ok-pages.ensures text) ∙ ap (unwrap_or (draft_at text c.args.drafts)) (c.make_room.ensures.same text)

pub returns-in-Err-clause-same : goal.returns-in-Err-clause-same
returns-in-Err-clause-same c = λ text. c.give_up.ensures text ∙ c.make_room.ensures.same text
