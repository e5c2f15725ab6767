use Rattle.std.proofs.Common.{◌≡◌, ◌<◌, ◌+◌, ◌∷◌, ℕ, List, String, Global, drop, length, get_or, arith, add-one, drop-cons, sym, ap, ◌∙◌}
use Rattle.repo_model.specs.Effect.{list_again}
use Rattle.repo_model.specs.State.{change_where, is_row}
use Rattle.hosted_repo.specs.Fades.{listed_back}
use Rattle.hosted_repo.proofs.purge.list_back.Goals as goal

-- a list from a place on begins with what is there
begins : {A : Type 0} (xs : List A) (i : ℕ) (d : A) → i < length xs → drop i xs ≡ get_or xs i d ∷ drop (i + 1) xs
begins xs i d h = drop-cons xs i d h ∙ ap (λ k. get_or xs i d ∷ drop k xs) (sym (add-one i))

pub loop-i-preserved : goal.loop-i-preserved
loop-i-preserved g c =
    let i = c.loop-i.i in
    let paths = c.args.paths.now in
    let moments = c.args.moments.now in
    let path = c.index-paths-i.result in
    let many : i < length moments = omega (arith, c.loop-i-test.true, c.requires.many) in
    let first = begins paths i path c.loop-i-test.true ∙ ap (λ (p : String Global). p ∷ drop (i + 1) paths) (sym c.index-paths-i.is) in
    ap (listed_back (drop (i + 1) paths) (drop (i + 1) moments)) (c.list_again.ensures ∙ ap (λ t. change_where (is_row t) (list_again (get_or moments i 0)) c.loop-i.rows) c.as_str.ensures.value)
    ∙ (λ j. listed_back (sym first j) (sym (begins moments i 0 many) j) c.loop-i.rows)
    ∙ c.loop-i.invariant
