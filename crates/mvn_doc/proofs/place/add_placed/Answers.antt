use Rattle.std.proofs.Common.{◌≡◌, ◌-◌, [], ◌∷◌, ◌++◌, take, append_assoc, ◌∙◌}
use Rattle.mvn_doc.specs.Place.{Placed, below, innermost, placed}
use Rattle.mvn_doc.proofs.place.add_placed.Goals as goal

pub returns : goal.returns
returns c =
    let e = c.args.element.now in
    let done = c.args.placed.now.items in
    let around = take (e.depth - 1) c.args.opened.now.items in
    let place = below (innermost around) e.name.now in
    let p : Placed = record { place = place; text = e.text.items } in
    let more : c.push.new.self.items ≡ done ++ p ∷ [] =
    c.in_ok-push.ensures.items ∙ (λ i. done ++ record { place = c.in_ok-place.ensures.place i; text = c.as_slice.ensures.value i } ∷ []) in
    λ es. (λ i. more i ++ placed (c.in_ok-place.ensures.opened i) es) ∙ append_assoc done (p ∷ []) (placed (around ++ place ∷ []) es)
