use Rattle.std.proofs.Common.{◌≡◌, ◌++◌, ◌∷◌, [], sym, subst, ap, ◌∙◌, ℕ, List}
use Rattle.blob_yard.specs.Places.{AreBelow}
use Rattle.blob_yard.specs.declared.places.Place.{Place}
use Rattle.blob_yard.specs.declared.places.Stand.TheVariants.{Draft}
use Rattle.blob_yard.proofs.CountLemmas.{count, drawn}
use Rattle.blob_yard.proofs.MapLemmas.{insert_entry-last}
use Rattle.blob_yard.proofs.places.add.Goals as goal

-- the map with one more number
made : (c : goal.In_ok-insert) → c.insert.new.self.entries ≡ c.places.inside.map.entries ++ (c.args.number, record { stand = Draft; leases = 0 }) ∷ []
made c =
    let es = c.places.inside.map.entries in
    let below = subst (λ (es : List (ℕ × Place)). AreBelow c.args.number es) (sym c.places.view_is) c.requires in
    c.in_ok-insert.ensures.entries ∙ insert_entry-last c.args.number c.unlent.result es below
    ∙ ap (λ (p : Place). es ++ (c.args.number, p) ∷ []) c.unlent.ensures

pub returns-clause-ok : goal.returns-clause-ok
returns-clause-ok c = made c ∙ ap (λ (es : List (ℕ × Place)). es ++ (c.args.number, record { stand = Draft; leases = 0 }) ∷ []) c.places.view_is

pub invariant_of-places-2 : goal.invariant_of-places-2
invariant_of-places-2 c = c.places.invariant ∙ drawn c.args.number c.places.inside.map.entries ∙ sym (ap count (made c))
