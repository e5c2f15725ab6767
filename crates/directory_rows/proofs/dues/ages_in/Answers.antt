use Rattle.std.proofs.Common.{ℕ, true, cond, [], ◌∷◌, ◌++◌, length, drop, map, List, Some, None, string_bytes, refl, sym, ap, ◌∙◌, subst}
use Rattle.std.specs.Map.Iter.{deref_pair}
use Rattle.std.proofs.lemmas.Map.Iter.{iter_end, rest_so_far}
use Rattle.std.proofs.lemmas.Str.Pattern.{starts_text}
use Rattle.mvn_coords.proofs.Cuts.{after_none}
use Rattle.repo_model.specs.Document.{listed_in}
use Rattle.repo_model.specs.Purge.{builds_of, snapshot_directory}
use Rattle.snapshot_purge.specs.Ages.{HaveSameBuilds}
use Rattle.snapshot_purge.proofs.AgeLemmas.{same_trans}
use Rattle.directory_rows.specs.Dues.{with_build_of_row}
use Rattle.ordered_rows.specs.Rows.{shown_at, shown_rows}
use Rattle.directory_rows.specs.Walks.{IsWalkOf}
use Rattle.directory_rows.proofs.DueLemmas.{begun, builds_more, ended, row_same}
use Rattle.ordered_rows.proofs.MapLemmas.{shown_more}
use Rattle.directory_rows.proofs.RowLemmas.{between-shown, met}
use Rattle.ordered_rows.proofs.Rising.{rising-shown}
use Rattle.directory_rows.proofs.dues.ages_in.Goals as goal

pub loop-path-preserved : goal.loop-path-preserved
loop-path-preserved g c =
    let d = snapshot_directory c.args.c.now in
    let front = shown_rows (map deref_pair c.loop-path.yielded) in
    let row = shown_at (string_bytes c.in-Some.path.now) c.in-Some.row.now in
    let old = c.loop-path.ages in
    let new = c.add_row.new.ages in
    let here : HaveSameBuilds new (with_build_of_row d old row) =
    subst (λ (t : List ℕ). HaveSameBuilds new (with_build_of_row d old (shown_at t c.in-Some.row.now))) c.as_str-text.ensures.value c.in_ok-add_row.ensures in
    subst (λ r. HaveSameBuilds new (builds_of (listed_in d r))) (sym (shown_more c.loop-path.yielded c.in-Some.path c.in-Some.row))
    (subst (HaveSameBuilds new) (sym (builds_more d front row))
    (same_trans new (with_build_of_row d old row) (with_build_of_row d (builds_of (listed_in d front)) row) here (row_same d row old (builds_of (listed_in d front)) c.loop-path.invariant)))

pub returns-then-not-starts_with : goal.returns-then-not-starts_with
returns-then-not-starts_with g c =
    let d = snapshot_directory c.args.c.now in
    let base = string_bytes c.args.base.now in
    let word = d.artifact ++ 45 ∷ [] in
    let es = c.args.rows.now.entries in
    let row = shown_at (string_bytes c.in-Some.path.now) c.in-Some.row.now in
    let left = c.next.new.self in
    let front = map deref_pair c.loop-path.yielded in
    let rows = met c.args.base.now es c.range-path-items.result c.into_iter-path-iterator.result front c.loop-path.path-iterator left c.next.result c.in-Some.path c.in-Some.row c.in-Some.is c.next.ensures.steps
    (c.range-path-items.ensures.between tt) c.into_iter-path-iterator.ensures.into_iter_gives (rest_so_far deref_pair c.loop-path.yielded c.into_iter-path-iterator.result c.loop-path.path-iterator c.loop-path.yielded_by) in
    let walk : IsWalkOf d base word true = record { base_is = c.requires; word_is = refl; level_is = refl } in
    let start = c.as_str-front.result.now in
    let text = c.as_str-text.result.now in
    let other = sym (starts_text c.starts_with.result start text c.starts_with.ensures.cases) ∙ c.if-not-starts_with.true in
    subst (λ r. HaveSameBuilds c.loop-path.ages (builds_of r))
    (ended d base word walk (shown_rows es) (shown_rows front) (shown_rows left) row (rising-shown es c.range-path-items.ensures.ordered) rows.1
    (λ x is. after_none start text x (ap (λ b. cond b (Some (drop (length start) text)) None) other) (c.as_str-text.ensures.value ∙ is ∙ ap (λ t. t ++ x) (sym c.as_str-front.ensures.value))))
    c.loop-path.invariant

pub returns : goal.returns
returns g c =
    let d = snapshot_directory c.args.c.now in
    let base = string_bytes c.args.base.now in
    let word = d.artifact ++ 45 ∷ [] in
    let es = c.args.rows.now.entries in
    let walk : IsWalkOf d base word true = record { base_is = c.requires; word_is = refl; level_is = refl } in
    let all = iter_end deref_pair c.range-path-items.result c.loop-path.yielded c.into_iter-path-iterator.result c.loop-path.path-iterator c.next.new.self c.next.result c.into_iter-path-iterator.ensures.into_iter_gives c.loop-path.yielded_by c.in-None.is c.next.ensures.steps in
    subst (λ r. HaveSameBuilds c.loop-path.ages (builds_of r))
    (ap (λ r. listed_in d (shown_rows r)) (all.0 ∙ c.range-path-items.ensures.between tt) ∙ ap (listed_in d) (between-shown c.args.base.now es) ∙ begun d base word walk (shown_rows es))
    c.loop-path.invariant
