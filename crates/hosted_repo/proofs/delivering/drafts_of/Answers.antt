use Rattle.std.proofs.Common.{unwrap_or, sym, ap, ◌∙◌}
use Rattle.std.proofs.lemmas.Map.Iter.{rest_more}
use Rattle.std.specs.Map.Iter.{deref_pair}
use Rattle.mvn_coords.specs.Layout.{text_of_directory}
use Rattle.repo_model.specs.Shown.{shown_parcel}
use Rattle.repo_model.specs.State.{row_at}
use Rattle.hosted_delivery.specs.Deliveries.{session_with, shown_files}
use Rattle.hosted_delivery.proofs.DeliveryLemmas.{apart-shown}
use Rattle.ordered_rows.specs.Rows.{shown_rows}
use Rattle.ordered_rows.proofs.Rising.{rising-shown}
use Rattle.kept_docs.specs.Drafted.{drafted}
use Rattle.kept_docs.specs.Kept.{kept_at}
use Rattle.hosted_repo.specs.Delivered.{with_delivered}
use Rattle.hosted_repo.proofs.DeliveredDocs.{agree-self, delivered_doc, document-delivered}
use Rattle.hosted_repo.proofs.delivering.drafts_of.Goals as goal

pub loop-path-init : goal.loop-path-init
loop-path-init g c = λ repo d is.
    let rows = shown_rows c.args.rows.now.entries in
    let files = shown_files c.args.staged.now.entries in
    let text = text_of_directory d in
    let first = ap (λ o. unwrap_or o (kept_at text c.args.docs.now)) (c.new-drafts.ensures text) ∙ c.requires.docs d is in
    (λ i. delivered_doc d c.args.now rows (shown_files (c.into_iter-path-iterator.ensures.into_iter_gives.0 i)) (first i))
    ∙ document-delivered d (session_with repo files) c.args.now rows files rows (apart-shown c.args.staged.now.entries c.len-files.ensures.ordered) (rising-shown c.args.rows.now.entries c.len-rows.ensures.ordered) (agree-self files rows)

pub loop-path-preserved : goal.loop-path-preserved
loop-path-preserved g c = λ repo d is.
    let now = c.args.now in
    let rows = shown_rows c.args.rows.now.entries in
    let text = text_of_directory d in
    let old = drafted text c.args.docs.now c.loop-path.drafts in
    let blob = shown_parcel c.in-Some._parcel.now in
    let rest = shown_files c.next.new.self in
    let next = rest_more deref_pair c.loop-path.path-iterator c.next.new.self c.next.result (c.in-Some.path, c.in-Some._parcel) c.in-Some.is c.next.ensures.steps in
    let made = c.in_ok-add_file.ensures d blob is ∙ ap (λ o. with_delivered d c.as_str-text.result.now now blob o old) c.find.ensures ∙ ap (λ t. with_delivered d t now blob (row_at t rows) old) c.as_str-text.ensures.value in
    ap (delivered_doc d now rows rest) made
    ∙ ap (λ es. delivered_doc d now rows (shown_files es) old) (sym next)
    ∙ c.loop-path.invariant repo d is
