use Rattle.std.proofs.Common.{◌≡◌, ℕ, List, [], ◌∷◌, length, map, Err, String, Global, string_bytes, true, vec_len, inl, refl, sym, ap, ◌∙◌, subst, arith, eqb-true}
use Rattle.std.specs.Prelude.{IsTrue}
use Rattle.std.proofs.lemmas.Bool.{both_ways, eq-eqb}
use Rattle.std.proofs.lemmas.List.{length-map, nil_from_length}
use Rattle.repo_model.specs.Data as plain
use Rattle.repo_model.specs.Effect.{Effect, fades, recorded}
use Rattle.repo_model.specs.Purge.{due_rows}
use Rattle.row_tables.specs.Items.{IsChange, are_of}
use Rattle.row_tables.specs.Leaving.{Leaves, MayTake, done, end_of}
use Rattle.row_tables.proofs.Leavings.{told_same}
use Rattle.repo_model.specs.declared.item.Item.{Item}
use Rattle.row_tables.specs.declared.version.Version.TheVariants.{Second}
use Rattle.hosted_repo.specs.Fades.{fade_at_paths}
use Rattle.std.proofs.Common.{◌≤◌}
use Rattle.std.specs.List.{All}
use Rattle.repo_model.specs.History.{latest_moment}
use Rattle.ordered_rows.specs.Rows.{rows_after_all}
use Rattle.directory_rows.specs.Rules.{shown_rule}
use Rattle.repo_model.specs.Document.{document}
use Rattle.ordered_rows.proofs.Rising.{AreRising, rising-shown}
use Rattle.ordered_rows.specs.Rows.{shown_rows}
use Rattle.kept_docs.specs.Kept.{AreOf}
use Rattle.kept_docs.proofs.KeptLemmas.{placed_of, same_of}
use Rattle.hosted_repo.specs.Fades.{AreApartFrom, accepted_at, accepted_of, listed_back}
use Rattle.hosted_repo.proofs.FadeBack.{document-apart, due_visible, faded_back}
use Rattle.hosted_repo.proofs.FadeLemmas.{faded}
use Rattle.hosted_repo.proofs.purge.unlist_rows.Goals as goal

abbrev path_of : plain.Row → List ℕ
path_of row = row.path

abbrev faded_at : List ℕ → ℕ → List plain.Row → List Effect
faded_at repo now due = map (λ (row : plain.Row). fades repo row.path now) due

as_many : (paths : List (String Global)) (due : List plain.Row) → map string_bytes paths ≡ map path_of due → length paths ≡ length due
as_many paths due told = sym (length-map paths string_bytes) ∙ ap length told ∙ length-map due path_of

no_rows : (paths : List (String Global)) (due : List plain.Row) → map string_bytes paths ≡ map path_of due → length paths ≡ 0 → due ≡ []
no_rows paths due told none = nil_from_length due (sym (as_many paths due told) ∙ none)

no_paths : (paths : List (String Global)) (due : List plain.Row) → map string_bytes paths ≡ map path_of due → due ≡ [] → length paths ≡ 0
no_paths paths due told none = as_many paths due told ∙ ap length none

not-cons : {A : Type 0} (x : A) (xs : List A) → x ∷ xs ≡ [] → ⊥
not-cons x xs e = cc

-- each row that fades is recorded
nothing-due : (repo : List ℕ) (now : ℕ) (due : List plain.Row) → recorded (faded_at repo now due) ≡ [] → due ≡ []
nothing-due repo now [] e = refl
nothing-due repo now (row ∷ due) e = absurd (not-cons _ _ e)

-- items that say so are of the second version
fading-whole : (repo : List ℕ) (now : ℕ) (paths : List (String Global)) → are_of Second (recorded (fade_at_paths repo now paths)) ≡ true
fading-whole repo now [] = refl
fading-whole repo now (path ∷ paths) = fading-whole repo now paths

pub returns-then-is_empty-clause-count : goal.returns-then-is_empty-clause-count
returns-then-is_empty-clause-count g c =
    let zero : length c.in_ok-paths.paths.items ≡ 0 = omega (arith, c.in_ok-paths.paths.ok.0, eqb-true (vec_len c.in_ok-paths.paths) 0 (sym c.is_empty.ensures ∙ c.if-is_empty.true)) in
    sym (ap length (no_rows c.in_ok-paths.paths.items _ c.in_ok-paths.ensures zero))

pub returns-then-is_empty-clause-rows : goal.returns-then-is_empty-clause-rows
returns-then-is_empty-clause-rows g c =
    let zero : length c.in_ok-paths.paths.items ≡ 0 = omega (arith, c.in_ok-paths.paths.ok.0, eqb-true (vec_len c.in_ok-paths.paths) 0 (sym c.is_empty.ensures ∙ c.if-is_empty.true)) in
    let rows = c.args.rows.now in
    ap (λ (due : List plain.Row). rows_after_all (faded_at c.args.rule.now.id c.args.now due) rows)
    (sym (no_rows c.in_ok-paths.paths.items (due_rows (shown_rule c.args.rule.now) c.args.now rows) c.in_ok-paths.ensures zero))

pub fade_change-requires : goal.fade_change-requires
fade_change-requires g c =
    let id = c.args.rule.now.id in
    let due = due_rows (shown_rule c.args.rule.now) c.args.now c.args.rows.now in
    subst (λ (es : List Effect). IsChange (recorded es)) (sym (ap (fade_at_paths id c.args.now) c.deref.ensures.value ∙ faded id c.args.now c.in_ok-paths.paths.items due c.in_ok-paths.ensures)) c.requires.change

pub record_faded-requires-clause-whole : goal.record_faded-requires-clause-whole
record_faded-requires-clause-whole g c =
    subst (λ items. IsTrue (are_of Second items)) (sym c.in_ok-change.ensures) (fading-whole c.args.rule.now.id c.args.now c.deref.result.now)

pub returns-clause-asked : goal.returns-clause-asked
returns-clause-asked g c failed none =
    let due = due_rows (shown_rule c.args.rule.now) c.args.now c.args.rows.now in
    let empty = no_paths c.in_ok-paths.paths.items due c.in_ok-paths.ensures (nothing-due c.args.rule.now.id c.args.now due none) in
    let zero : vec_len c.in_ok-paths.paths ≡ 0 = omega (arith, c.in_ok-paths.paths.ok.0, empty) in
    both_ways c.is_empty.result c.if-is_empty.false (c.is_empty.ensures ∙ eq-eqb (vec_len c.in_ok-paths.paths) 0 zero)

pub returns-in-Ok-clause-count : goal.returns-in-Ok-clause-count
returns-in-Ok-clause-count g c =
    let due = due_rows (shown_rule c.args.rule.now) c.args.now c.args.rows.now in
    omega (arith, c.len.ensures, c.in_ok-paths.paths.ok.0, as_many c.in_ok-paths.paths.items due c.in_ok-paths.ensures)

pub returns-in-Ok-clause-rows : goal.returns-in-Ok-clause-rows
returns-in-Ok-clause-rows g c =
    let id = c.args.rule.now.id in
    let rows = c.args.rows.now in
    let due = due_rows (shown_rule c.args.rule.now) c.args.now rows in
    c.fade_all.ensures id
    ∙ ap (λ (es : List Effect). rows_after_all es rows) (ap (fade_at_paths id c.args.now) c.deref-3.ensures.value ∙ faded id c.args.now c.in_ok-paths.paths.items due c.in_ok-paths.ensures)

-- the rows once they have faded
pub record_faded-requires-clause-docs : goal.record_faded-requires-clause-docs
record_faded-requires-clause-docs g c = λ d is apart.
    let id = c.args.rule.now.id in
    let rows = c.args.rows.now in
    let paths = c.in_ok-paths.paths.items in
    let there : AreApartFrom d paths = subst (AreApartFrom d) c.deref-4.ensures.value apart in
    let gone = c.fade_all.ensures id ∙ ap (λ xs. rows_after_all (fade_at_paths id c.args.now xs) rows) c.deref-3.ensures.value in
    c.requires.docs d is ∙ sym (document-apart d id c.args.now paths rows there) ∙ ap (document d) (sym gone)

pub list_back-requires-clause-many : goal.list_back-requires-clause-many
list_back-requires-clause-many g c =
    let paths = c.in_ok-paths.paths.items in
    let moments = c.deref-in-Err-2.ensures.value ∙ c.in_ok-moments.ensures.moments in
    ap length moments ∙ length-map c.deref-2.result.now (λ (path : String Global). accepted_of (shown_rows c.map-2.result.now.entries) (string_bytes path))
    ∙ ap length (c.deref-2.ensures.value ∙ sym c.deref-in-Err.ensures.value)

pub list_back-requires-clause-late : goal.list_back-requires-clause-late
list_back-requires-clause-late g c = subst (All (λ moment. moment ≤ latest_moment)) (sym c.deref-in-Err-2.ensures.value) c.in_ok-moments.ensures.late

pub returns-in-Ok-clause-docs : goal.returns-in-Ok-clause-docs
returns-in-Ok-clause-docs g c =
    placed_of c.record_faded.new.docs c.place.new.self c.in-Ok.pages.items c.fade_all.new.rows c.place.ensures c.in-Ok.ensures.pages

pub returns-clause-err : goal.returns-clause-err
returns-clause-err g c =
    let id = c.args.rule.now.id in
    let rows = c.args.rows.now in
    let paths = c.in_ok-paths.paths.items in
    let rising = subst AreRising c.map.ensures (rising-shown c.map.result.now.entries c.len-len.ensures.ordered) in
    let moments = c.deref-in-Err-2.ensures.value ∙ c.in_ok-moments.ensures.moments ∙ (λ i. accepted_at (c.map-2.ensures i) (c.deref-2.ensures.value i)) in
    let gone = c.fade_all.ensures id ∙ ap (λ xs. rows_after_all (fade_at_paths id c.args.now xs) rows) c.deref-3.ensures.value in
    c.list_back.ensures
    ∙ (λ i. listed_back (c.deref-in-Err.ensures.value i) (moments i) (gone i))
    ∙ faded_back id c.args.now paths rows rising (due_visible (shown_rule c.args.rule.now) c.args.now rows paths rising c.in_ok-paths.ensures)

pub returns-clause-docs : goal.returns-clause-docs
returns-clause-docs g c =
    let id = c.args.rule.now.id in
    let rows = c.args.rows.now in
    let paths = c.in_ok-paths.paths.items in
    let docs = c.record_faded.new.docs in
    let rising = subst AreRising c.map.ensures (rising-shown c.map.result.now.entries c.len-len.ensures.ordered) in
    let moments = c.deref-in-Err-2.ensures.value ∙ c.in_ok-moments.ensures.moments ∙ (λ i. accepted_at (c.map-2.ensures i) (c.deref-2.ensures.value i)) in
    let gone = c.fade_all.ensures id ∙ ap (λ xs. rows_after_all (fade_at_paths id c.args.now xs) rows) c.deref-3.ensures.value in
    let back = c.list_back.ensures
    ∙ (λ i. listed_back (c.deref-in-Err.ensures.value i) (moments i) (gone i))
    ∙ faded_back id c.args.now paths rows rising (due_visible (shown_rule c.args.rule.now) c.args.now rows paths rising c.in_ok-paths.ensures) in
    subst (AreOf docs) (sym back) (same_of c.args.docs.now docs rows c.record_faded.ensures.same c.requires.docs)

pub record_faded-requires-clause-records : goal.record_faded-requires-clause-records
record_faded-requires-clause-records g c =
    let id = c.args.rule.now.id in
    let due = due_rows (shown_rule c.args.rule.now) c.args.now c.args.rows.now in
    subst (λ (items : List Item). MayTake items (g.K.Records.shows c.args.records.now))
    (sym (c.in_ok-change.ensures ∙ ap recorded (ap (fade_at_paths id c.args.now) c.deref.ensures.value ∙ faded id c.args.now c.in_ok-paths.paths.items due c.in_ok-paths.ensures))) c.requires.records

pub returns-then-is_empty-clause-records : goal.returns-then-is_empty-clause-records
returns-then-is_empty-clause-records g c =
    let zero : length c.in_ok-paths.paths.items ≡ 0 = omega (arith, c.in_ok-paths.paths.ok.0, eqb-true (vec_len c.in_ok-paths.paths) 0 (sym c.is_empty.ensures ∙ c.if-is_empty.true)) in
    let now = g.K.Records.shows c.args.records.now in
    subst (λ (due : List plain.Row). Leaves (recorded (faded_at c.args.rule.now.id c.args.now due)) done now now)
    (sym (no_rows c.in_ok-paths.paths.items (due_rows (shown_rule c.args.rule.now) c.args.now c.args.rows.now) c.in_ok-paths.ensures zero))
    (record { tables = told_same now.tables; cause = refl; crashes = inl (refl, refl); ready = c.requires.records.ready })

pub returns-in-Ok-clause-records : goal.returns-in-Ok-clause-records
returns-in-Ok-clause-records g c =
    let id = c.args.rule.now.id in
    let due = due_rows (shown_rule c.args.rule.now) c.args.now c.args.rows.now in
    subst
    (λ (items : List Item). Leaves items done (g.K.Records.shows c.args.records.now) (g.K.Records.shows c.record_faded.new.records))
    (c.in_ok-change.ensures ∙ ap recorded (ap (fade_at_paths id c.args.now) c.deref.ensures.value ∙ faded id c.args.now c.in_ok-paths.paths.items due c.in_ok-paths.ensures))
    c.in-Ok.ensures.records

pub returns-clause-records : goal.returns-clause-records
returns-clause-records g c =
    let id = c.args.rule.now.id in
    let due = due_rows (shown_rule c.args.rule.now) c.args.now c.args.rows.now in
    subst
    (λ (items : List Item). Leaves items (end_of {T = Unit {0}} (Err c.in-Err.fault)) (g.K.Records.shows c.args.records.now) (g.K.Records.shows c.record_faded.new.records))
    (c.in_ok-change.ensures ∙ ap recorded (ap (fade_at_paths id c.args.now) c.deref.ensures.value ∙ faded id c.args.now c.in_ok-paths.paths.items due c.in_ok-paths.ensures))
    c.in-Err.ensures.records
