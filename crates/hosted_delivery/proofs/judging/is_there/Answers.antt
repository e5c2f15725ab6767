use Rattle.std.proofs.Common.{sym, ap, ◌∙◌}
use Rattle.hosted_delivery.specs.Deliveries.{shown_files}
use Rattle.ordered_rows.specs.Rows.{shown_rows}
use Rattle.hosted_delivery.proofs.JudgingLemmas.{pom-there, shows_listed}
use Rattle.ordered_rows.proofs.Rising.{rising-shown}
use Rattle.hosted_delivery.proofs.judging.is_there.Goals as goal

pub returns-in-Some : goal.returns-in-Some
returns-in-Some g c =
    let rows = shown_rows c.args.rows.now.entries in
    c.is_visible.ensures
    ∙ ap shows_listed c.in-Some.ensures
    ∙ sym (pom-there c.args.pom.now (shown_files c.args.staged.now.entries) rows (rising-shown c.args.rows.now.entries c.len-len.ensures.ordered) (sym c.is_staged.ensures ∙ c.if-is_staged.false))

pub returns-in-None : goal.returns-in-None
returns-in-None g c =
    let rows = shown_rows c.args.rows.now.entries in
    ap shows_listed c.in-None.ensures
    ∙ sym (pom-there c.args.pom.now (shown_files c.args.staged.now.entries) rows (rising-shown c.args.rows.now.entries c.len-len.ensures.ordered) (sym c.is_staged.ensures ∙ c.if-is_staged.false))
