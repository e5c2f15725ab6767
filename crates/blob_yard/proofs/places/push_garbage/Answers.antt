use Rattle.std.proofs.Common.{◌≡◌, ℕ, ◌++◌, List, length, min, take, ap, ◌∙◌, arith}
use Rattle.std.proofs.lemmas.List.{take_min}
use Rattle.blob_yard.specs.Places.{garbage_of}
use Rattle.blob_yard.specs.declared.places.Place.{Place}
use Rattle.blob_yard.proofs.places.push_garbage.Goals as goal

pub returns-clause-out : goal.returns-clause-out
returns-clause-out c =
    let es : List (ℕ × Place) = c.places.inside.map.entries in
    let most : c.min.result ≡ min 100 (length (garbage_of es)) = omega (arith, c.min.ensures, c.places.invariant) in
    c.push_first.ensures.out
    ∙ ap (λ k. c.args.out.now.items ++ take k (garbage_of es)) most
    ∙ ap (λ ns. c.args.out.now.items ++ ns) (take_min 100 (garbage_of es))
    ∙ ap (λ (es : List (ℕ × Place)). c.args.out.now.items ++ take 100 (garbage_of es)) c.places.view_is
