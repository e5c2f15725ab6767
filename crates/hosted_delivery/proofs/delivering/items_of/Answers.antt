use Rattle.std.proofs.Common.{ℕ, List, string_bytes, ap, ◌∙◌, subst}
use Rattle.std.proofs.lemmas.Map.Iter.{rest_more}
use Rattle.std.specs.Map.Iter.{deref_pair}
use Rattle.repo_model.specs.Data as plain
use Rattle.repo_model.specs.Deploy.{deliver_at}
use Rattle.repo_model.specs.Effect.{recorded}
use Rattle.repo_model.specs.Shown.{shown_parcel}
use Rattle.repo_model.specs.State.{row_at}
use Rattle.hosted_delivery.specs.Deliveries.{session_with, shown_files}
use Rattle.ordered_rows.specs.Rows.{shown_rows}
use Rattle.hosted_delivery.proofs.DeliveryLemmas.{IsRecording, recording-more}
use Rattle.hosted_delivery.proofs.delivering.items_of.Goals as goal

pub loop-path-preserved : goal.loop-path-preserved
loop-path-preserved g c =
    let now = c.args.now in
    let rows = shown_rows c.args.rows.now.entries in
    let files = shown_files c.args.staged.now.entries in
    let s = session_with c.args.repo.now files in
    let file : List ℕ → plain.Staged = λ path. record { path = path; blob = shown_parcel c.in-Some.parcel.now } in
    let path = c.as_str-path.result.now in
    let next = rest_more deref_pair c.loop-path.path-iterator c.next.new.self c.next.result (c.in-Some.path, c.in-Some.parcel) c.in-Some.is c.next.ensures.steps in
    recording-more s now rows files (file (string_bytes c.in-Some.path.now)) (shown_files c.next.new.self) c.loop-path.items.items c.add_item.new.items.items c.in_ok-item.item
    (c.in_ok-item.ensures.items files ∙ ap (λ o. recorded (deliver_at s now (file path) o)) c.find.ensures ∙ ap (λ p. recorded (deliver_at s now (file p) (row_at p rows))) c.as_str-path.ensures.value)
    c.in_ok-item.ensures.short
    c.in_ok-add_item.ensures
    (subst (λ es. IsRecording s now rows files (shown_files es) c.loop-path.items.items) next c.loop-path.invariant)
