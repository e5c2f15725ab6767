use Rattle.std.proofs.Common.{◌≡◌, List, [], ◌∷◌, ◌++◌, ap, ◌∙◌, sym, subst}
use Rattle.std.specs.Prelude.{take, OnOk, OnErr}
use Rattle.std.specs.List.{flat_map}
use Rattle.repo_model.specs.declared.item.Item.{Item}
use Rattle.repo_model.specs.Effect.{recorded}
use Rattle.hosted_delivery.specs.Deliveries.{left_by, session_with, shown_files, with_files, with_listed, without_puts}
use Rattle.row_tables.specs.Leaving.{MayTake}
use Rattle.hosted_delivery.proofs.DeliveryLemmas.{apart-shown, delivered, effects_by, err-any, take-front}
use Rattle.hosted_delivery.proofs.UndoneLemmas.{undone, without-all-free}
use Rattle.hosted_delivery.proofs.delivering.deliver.Goals as goal

pub add_and_commit-result-requires-clause-records : goal.add_and_commit-result-requires-clause-records
add_and_commit-result-requires-clause-records g c =
    let files = shown_files c.args.staged.now.entries in
    let s = session_with c.args.repo.now files in
    subst (λ (items : List Item). MayTake items (g.K.Records.shows c.args.records.now))
    (sym (c.in_ok-change.ensures.items
    ∙ ap (λ items. items ++ c.args.also ∷ []) (c.in_ok-items.ensures.items ∙ ap (λ rs. recorded (effects_by s c.args.now rs files)) c.map-before.ensures)))
    c.requires.records

pub returns-in_err-finish-clause-err : goal.returns-in_err-finish-clause-err
returns-in_err-finish-clause-err g c =
    let now = c.args.now in
    let rows = c.args.rows.now in
    let files = shown_files c.args.staged.now.entries in
    let s = session_with c.args.repo.now files in
    let some = c.add_and_commit-result.new.rows in
    let made : List Item = c.front.result.now in
    let made_is : made ≡ recorded (effects_by s now rows files) =
    c.front.ensures ∙ ap (take c.len-count.result) c.in_ok-change.ensures.items ∙ ap (λ n. take n (c.in_ok-items.items.items ++ c.args.also ∷ [])) c.len-count.ensures
    ∙ ap (λ n. take n (c.in_ok-items.items.items ++ c.args.also ∷ [])) c.in_ok-items.items.ok.0
    ∙ take-front c.in_ok-items.items.items (c.args.also ∷ []) ∙ c.in_ok-items.ensures.items
    ∙ ap (λ rs. recorded (effects_by s now rs files)) c.map-before.ensures in
    let back : c.finish.new.rows ≡ without_puts made some = subst (λ r. OnErr r (c.finish.new.rows ≡ without_puts made some)) (sym c.in_err-finish.ensures.same) c.finish.ensures.err in
    err-any c.from_residual-in_err-finish.result
    (back ∙ ap (λ items. without_puts items some) made_is ∙ undone s now rows files some ∙ c.add_and_commit-result.ensures.back ∙ without-all-free rows files)

pub returns-clause-blobs : goal.returns-clause-blobs
returns-clause-blobs g c =
    c.in_ok-blobs.ensures c.args.repo.now c.args.now
    ∙ ap (λ rows. flat_map left_by (effects_by (session_with c.args.repo.now (shown_files c.args.staged.now.entries)) c.args.now rows (shown_files c.args.staged.now.entries))) c.map-before.ensures

pub returns-clause-rows : goal.returns-clause-rows
returns-clause-rows g c =
    let now = c.args.now in
    let rows = c.args.rows.now in
    let files = shown_files c.args.staged.now.entries in
    let s = session_with c.args.repo.now files in
    let some = c.add_and_commit-result.new.rows in
    let made : List Item = c.front.result.now in
    let made_is : made ≡ recorded (effects_by s now rows files) =
    c.front.ensures ∙ ap (take c.len-count.result) c.in_ok-change.ensures.items ∙ ap (λ n. take n (c.in_ok-items.items.items ++ c.args.also ∷ [])) c.len-count.ensures
    ∙ ap (λ n. take n (c.in_ok-items.items.items ++ c.args.also ∷ [])) c.in_ok-items.items.ok.0
    ∙ take-front c.in_ok-items.items.items (c.args.also ∷ []) ∙ c.in_ok-items.ensures.items
    ∙ ap (λ rs. recorded (effects_by s now rs files)) c.map-before.ensures in
    let listed : c.finish.new.rows ≡ with_listed now made some = subst (λ r. OnOk r (c.finish.new.rows ≡ with_listed now made some)) (sym c.in_ok-finish.ensures.same) c.finish.ensures.ok in
    let added = subst (λ r. OnOk r (some ≡ with_files now files rows)) (sym c.in_ok-finish.ensures.same) c.add_and_commit-result.ensures.ok in
    listed ∙ ap (λ items. with_listed now items some) made_is ∙ ap (with_listed now (recorded (effects_by s now rows files))) added
    ∙ delivered s now files rows (apart-shown c.args.staged.now.entries c.len-len.ensures.ordered)
