use Rattle.std.proofs.Common.{ℕ, List, string_bytes, ap, ◌∙◌, sym, subst}
use Rattle.std.proofs.lemmas.Map.Iter.{rest_more}
use Rattle.std.specs.Map.Iter.{deref_pair}
use Rattle.repo_model.specs.Data as plain
use Rattle.repo_model.specs.Shown.{shown_parcel}
use Rattle.hosted_delivery.specs.Deliveries.{shown_files, with_file}
use Rattle.hosted_delivery.proofs.UndoneLemmas.{IsAdding, adding-first, adding-more}
use Rattle.hosted_delivery.proofs.delivering.add_all_new.Goals as goal

pub loop-path-init : goal.loop-path-init
loop-path-init g c =
    let files = shown_files c.args.staged.now.entries in
    let rows = c.args.rows.now in
    subst (λ es. IsAdding c.args.now files rows (shown_files es) rows) (sym c.into_iter-path-iterator.ensures.into_iter_gives.0) (adding-first c.args.now files rows)

pub loop-path-preserved : goal.loop-path-preserved
loop-path-preserved g c =
    let now = c.args.now in
    let files = shown_files c.args.staged.now.entries in
    let old = c.args.rows.now in
    let rows = c.loop-path.rows in
    let file : List ℕ → plain.Staged = λ path. record { path = path; blob = shown_parcel c.in-Some.parcel.now } in
    let next = rest_more deref_pair c.loop-path.path-iterator c.next.new.self c.next.result (c.in-Some.path, c.in-Some.parcel) c.in-Some.is c.next.ensures.steps in
    adding-more now files old (file (string_bytes c.in-Some.path.now)) (shown_files c.next.new.self) rows c.add_new.new.rows
    (c.in_ok-add_new.ensures.ok ∙ ap (λ path. with_file now (file path) rows) c.as_str.ensures.value)
    (subst (λ es. IsAdding now files old (shown_files es) rows) next c.loop-path.invariant)
