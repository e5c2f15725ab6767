use Rattle.std.proofs.Common.{List, Err, sym, ◌∙◌, subst}
use Rattle.ordered_rows.proofs.ChangeLemmas.{removals-whole}
use Rattle.repo_model.specs.Shown.{shown_reply}
use Rattle.repo_model.specs.declared.item.Item.{Item}
use Rattle.repo_core.proofs.PurgeTurns.{change-at, collect-done, collect-failed, collect-items, collect-without}
use Rattle.repo_core.proofs.Turning.{settled-by}
use Rattle.row_tables.specs.declared.faults.CommitFault.{CommitFault}
use Rattle.row_tables.specs.Leaving.{Leaves, MayTake, end_of, failing, wanting}
use Rattle.repo_core.proofs.machine.Machine.collect.Goals as goal

pub commit-requires-clause-whole : goal.commit-requires-clause-whole
commit-requires-clause-whole g c = removals-whole c.in-Ok.gone.change c.in-Ok.ensures.removed

pub commit-requires-clause-records : goal.commit-requires-clause-records
commit-requires-clause-records g c =
    let made = change-at c.args.self.now _ c.self.view_is c.grace_seconds-grace.result c.deref.result.now c.in-Ok.gone.change c.grace_seconds-grace.ensures c.deref.ensures.value c.in-Ok.ensures.change in
    let records = c.args.records.now in
    subst (λ (items : List Item). MayTake items (g.K.Records.shows records)) (collect-items c.args.self.now ∙ sym made) c.requires.records

pub returns-in-Ok-commit-clause-turn : goal.returns-in-Ok-commit-clause-turn
returns-in-Ok-commit-clause-turn g c =
    let made = change-at c.args.self.now _ c.self.view_is c.grace_seconds-grace.result c.deref.result.now c.in-Ok.gone.change c.grace_seconds-grace.ensures c.deref.ensures.value c.in-Ok.ensures.change in
    collect-done c.args.self.now c.drop_gone.new.self (shown_reply c.drop_gone.result) c.in-Ok.gone.change (g.K.Records.shows c.args.records.now) (g.K.Records.shows c.commit.new.self) c.drop_gone.ensures.turn
    c.drop_gone.ensures.due made c.in-Ok-commit.ensures.records

pub returns-in-Ok-commit-clause-settled : goal.returns-in-Ok-commit-clause-settled
returns-in-Ok-commit-clause-settled g c = settled-by (shown_reply c.drop_gone.result) (g.K.Records.shows c.commit.new.self).unsettled c.in-Ok-commit.ensures.settled

pub returns-in-Err-Failed-clause-turn : goal.returns-in-Err-Failed-clause-turn
returns-in-Err-Failed-clause-turn g c =
    let made = change-at c.args.self.now _ c.self.view_is c.grace_seconds-grace.result c.deref.result.now c.in-Ok.gone.change c.grace_seconds-grace.ensures c.deref.ensures.value c.in-Ok.ensures.change in
    let before = g.K.Records.shows c.args.records.now in
    let later = g.K.Records.shows c.commit.new.self in
    let leaves : Leaves c.in-Ok.gone.change failing before later =
    subst (λ (f : CommitFault). Leaves c.in-Ok.gone.change (end_of {T = Unit {0}} (Err f)) before later) c.in-Err-Failed.field-0-is c.in-Err-Failed.ensures.records in
    collect-failed c.args.self.now before later (subst (λ (items : List Item). Leaves items failing before later) (made ∙ sym (collect-items c.args.self.now)) leaves)

pub returns-clause-turn : goal.returns-clause-turn
returns-clause-turn g c =
    let made = change-at c.args.self.now _ c.self.view_is c.grace_seconds-grace.result c.deref.result.now c.in-Ok.gone.change c.grace_seconds-grace.ensures c.deref.ensures.value c.in-Ok.ensures.change in
    let before = g.K.Records.shows c.args.records.now in
    let later = g.K.Records.shows c.commit.new.self in
    let leaves : Leaves c.in-Ok.gone.change wanting before later =
    subst (λ (f : CommitFault). Leaves c.in-Ok.gone.change (end_of {T = Unit {0}} (Err f)) before later) c.in-Err-NoMemory.field-0-is c.in-Err-NoMemory.ensures.records in
    collect-without c.args.self.now before later (subst (λ (items : List Item). Leaves items wanting before later) (made ∙ sym (collect-items c.args.self.now)) leaves)
