use Rattle.std.proofs.Common.{◌≡◌, ℕ, ◌∷◌, List, Less, map, fold, string_bytes, true, sym, ap, ◌∙◌, subst}
use Rattle.std.specs.Map.Iter.{deref_pair}
use Rattle.std.proofs.lemmas.Map.Iter.{rest_so_far}
use Rattle.repo_model.specs.Paths.{file_at, stands_in}
use Rattle.directory_rows.specs.Documents.{added}
use Rattle.ordered_rows.specs.Rows.{shown_at, shown_rows}
use Rattle.directory_rows.specs.Walks.{IsStep, IsWalkOf}
use Rattle.directory_rows.proofs.TextLemmas.{cmp, UpTo, UpTo-less, UpTo-trans}
use Rattle.directory_rows.proofs.RowLemmas.{between-shown, rest-after, stands-from, met}
use Rattle.ordered_rows.proofs.Rising.{rising-shown}
use Rattle.directory_rows.proofs.DocumentLemmas.{added_none, added_rest, each_from}
use Rattle.directory_rows.proofs.documents.walk_from.Goals as goal

pub loop-path-init : goal.loop-path-init
loop-path-init g c =
    ap (fold (added c.args.dir.now) c.args.doc)
    (sym (ap shown_rows (c.into_iter-path-iterator.ensures.into_iter_gives ∙ c.range-path-items.ensures.between tt) ∙ between-shown c.args.from.now c.args.rows.now.entries))

pub returns-in-Past-clause-left : goal.returns-in-Past-clause-left
returns-in-Past-clause-left g c =
    let d = c.args.dir.now in
    let es = c.args.rows.now.entries in
    let at_row = shown_at (string_bytes c.in-Some.path.now) c.in-Some.row.now in
    let left = c.next.new.self in
    let front = map deref_pair c.loop-path.yielded in
    let rows = met c.args.from.now es c.range-path-items.result c.into_iter-path-iterator.result front c.loop-path.path-iterator left c.next.result c.in-Some.path c.in-Some.row c.in-Some.is c.next.ensures.steps
    (c.range-path-items.ensures.between tt) c.into_iter-path-iterator.ensures.into_iter_gives (rest_so_far deref_pair c.loop-path.yielded c.into_iter-path-iterator.result c.loop-path.path-iterator c.loop-path.yielded_by) in
    let at = stands-from (string_bytes c.args.from.now) (shown_rows es) (shown_rows front) (shown_rows left) (at_row) (rising-shown es c.range-path-items.ensures.ordered) rows.1 in
    let walk = subst (IsWalkOf d c.args.base.now c.args.word.now) (sym c.is_snapshot-is_snapshot.ensures) c.requires.walk in
    let begun = subst (UpTo c.args.base.now) (sym c.as_str.ensures.value) (UpTo-trans c.args.base.now (string_bytes c.args.from.now) (string_bytes c.in-Some.path.now) c.requires.from at.0) in
    let past = subst (IsStep d c.as_str.result.now) c.in-Past.is (c.in_ok-step_from.ensures d walk begun) in
    c.loop-path.invariant ∙ ap (fold (added d) c.loop-path.found) rows.0
    ∙ added_none d c.loop-path.found (at_row ∷ shown_rows left)
    (each_from (string_bytes c.in-Some.path.now) (λ q. stands_in d (file_at q) ≡ true → ⊥) (at_row ∷ shown_rows left)
    (λ q up h. past q h (subst (λ (t : List ℕ). UpTo t q) (sym c.as_str.ensures.value) up)) at.1)

pub returns-in-To-clause-left : goal.returns-in-To-clause-left
returns-in-To-clause-left g c =
    let d = c.args.dir.now in
    let es = c.args.rows.now.entries in
    let at_row = shown_at (string_bytes c.in-Some.path.now) c.in-Some.row.now in
    let path = string_bytes c.in-Some.path.now in
    let from = string_bytes c.args.from.now in
    let next = string_bytes c.in-To.next in
    let left = c.next.new.self in
    let front = map deref_pair c.loop-path.yielded in
    let rows = met c.args.from.now es c.range-path-items.result c.into_iter-path-iterator.result front c.loop-path.path-iterator left c.next.result c.in-Some.path c.in-Some.row c.in-Some.is c.next.ensures.steps
    (c.range-path-items.ensures.between tt) c.into_iter-path-iterator.ensures.into_iter_gives (rest_so_far deref_pair c.loop-path.yielded c.into_iter-path-iterator.result c.loop-path.path-iterator c.loop-path.yielded_by) in
    let rising = rising-shown es c.range-path-items.ensures.ordered in
    let at = stands-from from (shown_rows es) (shown_rows front) (shown_rows left) (at_row) rising rows.1 in
    let walk = subst (IsWalkOf d c.args.base.now c.args.word.now) (sym c.is_snapshot-is_snapshot.ensures) c.requires.walk in
    let begun = subst (UpTo c.args.base.now) (sym c.as_str.ensures.value) (UpTo-trans c.args.base.now from path c.requires.from at.0) in
    let step = subst (IsStep d c.as_str.result.now) c.in-To.is (c.in_ok-step_from.ensures d walk begun) in
    let less : cmp path next ≡ Less = subst (λ (t : List ℕ). cmp t next ≡ Less) c.as_str.ensures.value step.0 in
    let behind = rest-after from next (shown_rows es) (shown_rows front) (shown_rows left) (at_row) rising (UpTo-trans from path next at.0 (UpTo-less path next less)) rows.1 less in
    c.loop-path.invariant ∙ ap (fold (added d) c.loop-path.found) rows.0
    ∙ added_rest d next c.loop-path.found (at_row ∷ shown_rows left)
    (each_from path (λ q. stands_in d (file_at q) ≡ true → UpTo next q) (at_row ∷ shown_rows left)
    (λ q up h. step.1 q h (subst (λ (t : List ℕ). UpTo t q) (sym c.as_str.ensures.value) up)) at.1)
    ∙ ap (fold (added d) c.loop-path.found) (sym behind.0)

pub returns-in-To-clause-next : goal.returns-in-To-clause-next
returns-in-To-clause-next g c =
    let d = c.args.dir.now in
    let es = c.args.rows.now.entries in
    let at_row = shown_at (string_bytes c.in-Some.path.now) c.in-Some.row.now in
    let path = string_bytes c.in-Some.path.now in
    let from = string_bytes c.args.from.now in
    let next = string_bytes c.in-To.next in
    let left = c.next.new.self in
    let front = map deref_pair c.loop-path.yielded in
    let rows = met c.args.from.now es c.range-path-items.result c.into_iter-path-iterator.result front c.loop-path.path-iterator left c.next.result c.in-Some.path c.in-Some.row c.in-Some.is c.next.ensures.steps
    (c.range-path-items.ensures.between tt) c.into_iter-path-iterator.ensures.into_iter_gives (rest_so_far deref_pair c.loop-path.yielded c.into_iter-path-iterator.result c.loop-path.path-iterator c.loop-path.yielded_by) in
    let rising = rising-shown es c.range-path-items.ensures.ordered in
    let at = stands-from from (shown_rows es) (shown_rows front) (shown_rows left) (at_row) rising rows.1 in
    let walk = subst (IsWalkOf d c.args.base.now c.args.word.now) (sym c.is_snapshot-is_snapshot.ensures) c.requires.walk in
    let begun = subst (UpTo c.args.base.now) (sym c.as_str.ensures.value) (UpTo-trans c.args.base.now from path c.requires.from at.0) in
    let step = subst (IsStep d c.as_str.result.now) c.in-To.is (c.in_ok-step_from.ensures d walk begun) in
    let less : cmp path next ≡ Less = subst (λ (t : List ℕ). cmp t next ≡ Less) c.as_str.ensures.value step.0 in
    let up = UpTo-trans from path next at.0 (UpTo-less path next less) in
    let behind = rest-after from next (shown_rows es) (shown_rows front) (shown_rows left) (at_row) rising up rows.1 less in
    (UpTo-trans c.args.base.now from next c.requires.from up, behind.1)
