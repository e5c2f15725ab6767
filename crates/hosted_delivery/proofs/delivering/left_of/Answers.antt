use Rattle.std.proofs.Common.{ℕ, List, ◌++◌, string_bytes, refl, ap, ◌∙◌, sym}
use Rattle.std.specs.List.{flat_map}
use Rattle.std.proofs.lemmas.List.{append-nil}
use Rattle.std.proofs.lemmas.Map.Iter.{rest_all, rest_more}
use Rattle.std.specs.Map.Iter.{deref_pair}
use Rattle.repo_model.specs.Data as plain
use Rattle.repo_model.specs.Deploy.{deliver_at}
use Rattle.repo_model.specs.Shown.{shown_parcel}
use Rattle.repo_model.specs.State.{row_at}
use Rattle.hosted_delivery.specs.Deliveries.{left_by, session_with, shown_files}
use Rattle.ordered_rows.specs.Rows.{shown_rows}
use Rattle.hosted_delivery.proofs.DeliveryLemmas.{effects_by, left-more}
use Rattle.hosted_delivery.proofs.delivering.left_of.Goals as goal

pub loop-path-preserved : goal.loop-path-preserved
loop-path-preserved g c repo now =
    let rows = shown_rows c.args.rows.now.entries in
    let s = session_with repo (shown_files c.args.staged.now.entries) in
    let blobs = c.loop-path.blobs.items in
    let file : List ℕ → plain.Staged = λ path. record { path = path; blob = shown_parcel c.in-Some.parcel.now } in
    let some : List ℕ → List ℕ = λ path. flat_map left_by (deliver_at s now (file path) (row_at path rows)) in
    let path = c.as_str.result.now in
    let left = shown_files c.next.new.self in
    let next = rest_more deref_pair c.loop-path.path-iterator c.next.new.self c.next.result (c.in-Some.path, c.in-Some.parcel) c.in-Some.is c.next.ensures.steps in
    ap (λ ns. ns ++ flat_map left_by (effects_by s now rows left)) (c.in_ok-add_left.ensures s now path
    ∙ ap (λ o. blobs ++ flat_map left_by (deliver_at s now (file path) o)) c.find.ensures
    ∙ ap (λ p. blobs ++ some p) c.as_str.ensures.value)
    ∙ left-more s now rows (file (string_bytes c.in-Some.path.now)) left blobs (some (string_bytes c.in-Some.path.now)) refl
    ∙ ap (λ es. blobs ++ flat_map left_by (effects_by s now rows (shown_files es))) (sym next)
    ∙ c.loop-path.invariant repo now

pub returns : goal.returns
returns g c repo now =
    let rows = shown_rows c.args.rows.now.entries in
    let s = session_with repo (shown_files c.args.staged.now.entries) in
    let blobs = c.loop-path.blobs.items in
    let none = rest_all deref_pair c.loop-path.path-iterator c.next.new.self c.next.result c.in-None.is c.next.ensures.steps in
    sym (append-nil blobs)
    ∙ ap (λ es. blobs ++ flat_map left_by (effects_by s now rows (shown_files es))) (sym none)
    ∙ c.loop-path.invariant repo now
