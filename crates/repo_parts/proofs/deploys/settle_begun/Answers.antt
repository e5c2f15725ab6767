use Rattle.std.proofs.Common.{[], ◌+◌, sym, ap, ◌∙◌}
use Rattle.blob_yard.specs.Numbers.{Numbers}
use Rattle.deploy_session.specs.Shown.{shown_begin}
use Rattle.repo_parts.specs.Deploys.{yard_opened}
use Rattle.repo_parts.proofs.deploys.settle_begun.Goals as goal

pub returns-in-Opened : goal.returns-in-Opened
returns-in-Opened c =
    let old : Numbers = c.args.yard.now in
    let drawn = (c.requires c.in-Opened.field-0 c.in-Opened.is).0 in
    c.draw_session.ensures [] ∙ ap (λ m. record old { yard = record old.yard { next_session = m + 1 } }) (sym drawn)
    ∙ ap (λ begun. record old { yard = yard_opened (shown_begin begun) old.yard }) (sym c.in-Opened.is)
