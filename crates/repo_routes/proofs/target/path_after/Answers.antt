use Rattle.std.proofs.Common.{sym, ◌∙◌, ap, ◌∷◌, lit<}
use Rattle.std.proofs.lemmas.Str.Pattern.{find_char}
use Rattle.repo_routes.specs.Target.{path_after}
use Rattle.repo_routes.proofs.TargetLemmas.{from_slash, without_slash}
use Rattle.repo_routes.proofs.target.path_after.Goals as goal

pub returns-in-Some : goal.returns-in-Some
unfolding path_after
returns-in-Some c =
    let found = rw c.in-Some.is at (find_char 47 c.args.text.now c.find.result c.find.ensures.cases (lit< tt)) in
    c.range_from.ensures.value ∙ from_slash c.args.text.now c.in-Some.at found.0 found.1 found.2

pub returns-in-None : goal.returns-in-None
unfolding path_after
returns-in-None c =
    let none = rw c.in-None.is at (find_char 47 c.args.text.now c.find.result c.find.ensures.cases (lit< tt)) in
    ap (λ rest. 47 ∷ rest) (sym (without_slash c.args.text.now none))
