use Rattle.std.proofs.Common.{◌≡◌, List, [], ◌∷◌, Option, Some, None, map, refl, ap, ◌∙◌, rules, tests}
use Rattle.std.specs.List.{last_or}
use Rattle.std.specs.Option.{option_map}
use Rattle.std.proofs.lemmas.Iterator.{items_from_drains}
use Rattle.std.proofs.lemmas.Iterator.Consumers.{YieldsList-at, YieldsList-from_filter}
use Rattle.std.proofs.lemmas.Iterator.Splits.{YieldsList-from_slice_split}
use Rattle.mvn_coords.specs.FileName.{is_filled}
use Rattle.mvn_digest.specs.Sides.{is_blank}
use Rattle.mvn_digest.proofs.sides.last_word.Goals as goal

last_or-map : {A B : Type 0} (f : A → B) (o : Option A) (xs : List A) → option_map f (last_or o xs) ≡ last_or (option_map f o) (map f xs)
last_or-map f o [] = refl
last_or-map f o (x ∷ xs) = last_or-map f (Some x) xs

pub returns : goal.returns
returns c =
    let xs = c.last.ensures.ran.0 in
    let d = c.last.ensures.ran.1 in
    ap (option_map (λ x. x.now)) c.last.ensures.ran.2 ∙ last_or-map (λ x. x.now) None xs
    ∙ ap (last_or None) (items_from_drains xs (d.1.0, d.1.1, λ _. (d.0, d.1.2))
    (YieldsList-from_filter _ is_filled
    (YieldsList-at c.filter.ensures.source (YieldsList-from_slice_split _ is_blank c.args.line.now c.split.ensures.rest c.split.ensures.done c.split.ensures.closure (λ x b q k. search (rules, tests))))
    c.filter.ensures.closure (λ x b q k. search (rules, tests))))
