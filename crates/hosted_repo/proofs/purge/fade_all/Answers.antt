use Rattle.std.proofs.Common.{[], ◌∷◌, ◌++◌, take, string_bytes, sym, ap, ◌∙◌}
use Rattle.std.proofs.lemmas.List.{map-append, take_more}
use Rattle.repo_model.specs.Effect.{fade as faded, fades, rows_after}
use Rattle.repo_model.specs.State.{change_where, is_row}
use Rattle.hosted_repo.specs.Fades.{fade_at_paths}
use Rattle.ordered_rows.specs.Rows.{rows_after_all}
use Rattle.hosted_repo.proofs.FadeLemmas.{after_more}
use Rattle.hosted_repo.proofs.purge.fade_all.Goals as goal

pub loop-path-preserved : goal.loop-path-preserved
loop-path-preserved g c repo =
    let moment = c.args.moment in
    let paths = c.args.paths.now in
    let i = c.loop-path.path-index in
    let path = c.path-item.result in
    let old = c.args.rows.now in
    let front = take i paths in
    c.fade.ensures
    ∙ ap (λ t. change_where (is_row t) (faded moment) c.loop-path.rows) c.as_str.ensures.value
    ∙ ap (rows_after (fades repo (string_bytes path) moment)) (c.loop-path.invariant repo)
    ∙ sym (after_more (fade_at_paths repo moment front) (fades repo (string_bytes path) moment) old)
    ∙ ap (λ es. rows_after_all es old) (sym (map-append (λ p. fades repo (string_bytes p) moment) front (path ∷ [])))
    ∙ ap (λ p. rows_after_all (fade_at_paths repo moment (take i paths ++ p ∷ [])) old) c.path-item.is
    ∙ ap (λ ps. rows_after_all (fade_at_paths repo moment ps) old) (sym (take_more paths i path c.loop-path-test.true))
