use Rattle.std.proofs.Common.{◌≡◌, ℕ, cond, List, [], ◌∷◌, ◌++◌, length, map, filter, take, string_bytes, sym, ap, ◌∙◌, arith}
use Rattle.std.specs.Map.Iter.{deref_pair}
use Rattle.std.proofs.lemmas.List.{append-nil, length-map, map-append}
use Rattle.std.proofs.lemmas.Map.Iter.{iter_end, rest_so_far}
use Rattle.repo_model.specs.Data as plain
use Rattle.repo_model.specs.Purge.{most_rows}
use Rattle.directory_rows.specs.Dues.{is_due_row}
use Rattle.ordered_rows.specs.Rows.{shown_at, shown_entry, shown_rows}
use Rattle.directory_rows.specs.Rules.{shown_rule}
use Rattle.ordered_rows.proofs.Taken.{found_full, found_more}
use Rattle.ordered_rows.proofs.MapLemmas.{shown_more}
use Rattle.directory_rows.proofs.dues.due_among.Goals as goal

abbrev path_of : plain.Row → List ℕ
path_of row = row.path

pub returns-then-len-eq-MOST_ROWS : goal.returns-then-len-eq-MOST_ROWS
returns-then-len-eq-MOST_ROWS g c =
    let es = c.args.rows.now.entries in
    let test = is_due_row (shown_rule c.args.rule.now) c.args.now (shown_rows es) in
    let front = map deref_pair c.loop-path.yielded in
    let rest = c.loop-path.path-iterator in
    let paths = c.loop-path.paths in
    let given = c.into_iter-path-iterator.ensures.into_iter_gives in
    let split = ap shown_rows (sym given.0 ∙ rest_so_far deref_pair c.loop-path.yielded c.into_iter-path-iterator.result rest c.loop-path.yielded_by) ∙ map-append shown_entry front rest in
    let full : length (map string_bytes paths.items) ≡ most_rows = omega (arith, length-map paths.items string_bytes, paths.ok.0, c.len.ensures, c.if-len-eq-MOST_ROWS.true) in
    found_full path_of test most_rows (map string_bytes paths.items) (shown_rows es) (shown_rows front) (shown_rows rest) c.loop-path.invariant.found full split

pub loop-path-preserved-in-Continue-branch-3 : goal.loop-path-preserved-in-Continue-branch-3
loop-path-preserved-in-Continue-branch-3 g c =
    let es = c.args.rows.now.entries in
    let test = is_due_row (shown_rule c.args.rule.now) c.args.now (shown_rows es) in
    let front = map deref_pair c.loop-path.yielded in
    let paths = c.loop-path.paths in
    let row = shown_at (string_bytes c.in-Some.path.now) c.in-Some.row.now in
    let few : length (map string_bytes paths.items) ≡ most_rows → ⊥ = λ full. omega (arith, full, length-map paths.items string_bytes, paths.ok.0, c.len.ensures, c.if-len-eq-MOST_ROWS.false) in
    let due = ap (λ (t : List ℕ). test (shown_at t c.in-Some.row.now)) (sym c.as_str-text.ensures.value) ∙ sym c.in_ok-due.ensures.due ∙ c.if-due.true in
    record {
      right = c.is_due.ensures.right;
      found =
          ap (map string_bytes) c.in_ok-push.ensures.items
          ∙ map-append string_bytes paths.items (c.in_ok-copy.copy ∷ [])
          ∙ ap (λ (t : List ℕ). map string_bytes paths.items ++ t ∷ []) (c.in_ok-copy.ensures.ok ∙ c.as_str-text.ensures.value)
          ∙ ap (λ b. map string_bytes paths.items ++ cond b (path_of row ∷ []) []) (sym due)
          ∙ found_more path_of test most_rows (map string_bytes paths.items) (shown_rows front) row c.loop-path.invariant.found few
          ∙ ap (λ rs. map path_of (take most_rows (filter test rs))) (sym (shown_more c.loop-path.yielded c.in-Some.path c.in-Some.row));
    }

pub loop-path-preserved : goal.loop-path-preserved
loop-path-preserved g c =
    let es = c.args.rows.now.entries in
    let test = is_due_row (shown_rule c.args.rule.now) c.args.now (shown_rows es) in
    let front = map deref_pair c.loop-path.yielded in
    let paths = c.loop-path.paths in
    let row = shown_at (string_bytes c.in-Some.path.now) c.in-Some.row.now in
    let few : length (map string_bytes paths.items) ≡ most_rows → ⊥ = λ full. omega (arith, full, length-map paths.items string_bytes, paths.ok.0, c.len.ensures, c.if-len-eq-MOST_ROWS.false) in
    let due = ap (λ (t : List ℕ). test (shown_at t c.in-Some.row.now)) (sym c.as_str-text.ensures.value) ∙ sym c.in_ok-due.ensures.due ∙ c.if-due.false in
    record {
      right = c.is_due.ensures.right;
      found =
          sym (append-nil (map string_bytes paths.items))
          ∙ ap (λ b. map string_bytes paths.items ++ cond b (path_of row ∷ []) []) (sym due)
          ∙ found_more path_of test most_rows (map string_bytes paths.items) (shown_rows front) row c.loop-path.invariant.found few
          ∙ ap (λ rs. map path_of (take most_rows (filter test rs))) (sym (shown_more c.loop-path.yielded c.in-Some.path c.in-Some.row));
    }

pub returns : goal.returns
returns g c =
    let es = c.args.rows.now.entries in
    let test = is_due_row (shown_rule c.args.rule.now) c.args.now (shown_rows es) in
    let given = c.into_iter-path-iterator.ensures.into_iter_gives in
    c.loop-path.invariant.found
    ∙ ap (λ rs. map path_of (take most_rows (filter test (shown_rows rs))))
    (iter_end deref_pair es c.loop-path.yielded c.into_iter-path-iterator.result c.loop-path.path-iterator c.next.new.self c.next.result given.0 c.loop-path.yielded_by c.in-None.is c.next.ensures.steps).0
