use Rattle.std.proofs.Common.{◌≡◌, ◌∷◌, ◌++◌, [], ap, sym, ◌∙◌, subst}
use Rattle.atomic_table.specs.Table.{opening as at_first}
use Rattle.turn_lock.specs.History.{IsStep}
use Rattle.turn_lock.specs.declared.view.Slot.TheVariants.{Home}
use Rattle.turn_lock.specs.Rule.{Lawful}
use Rattle.turn_lock.specs.Views.{first_view}
use Rattle.turn_lock.proofs.Ends.{begins}
use Rattle.turn_lock.proofs.turns.Turns.begin.Goals as goal

pub new-requires : goal.new-requires
new-requires g c =
    let x = c.of-first.result.value in
    let slots = c.push_reserved.new.self.items in
    let one : slots ≡ Home x ∷ [] = c.push_reserved.ensures.items ∙ ap (λ l. l ++ Home c.args.thing ∷ []) c.in-Ok.ensures.items ∙ ap (λ y. Home y ∷ []) (sym c.of-first.ensures) in
    subst (λ l. Lawful (IsStep g.T.Thing.fixed g.T.Thing.may_ask g.T.Thing.turned) x (at_first (0 ∷ []) l (first_view x))) (sym one) (begins (IsStep g.T.Thing.fixed g.T.Thing.may_ask g.T.Thing.turned) x)
