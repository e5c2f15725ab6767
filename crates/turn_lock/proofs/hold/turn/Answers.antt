use Rattle.std.proofs.Common.{◌≡◌, ◌∷◌, sym, ap, ◌∙◌, subst, refl}
use Rattle.atomic_table.specs.Table.{rest}
use Rattle.turn_lock.specs.declared.view.Slot.TheVariants.{Home}
use Rattle.turn_lock.specs.History.{end_of}
use Rattle.turn_lock.specs.Seats.{opening}
use Rattle.turn_lock.proofs.Histories.{fixed_end}
use Rattle.turn_lock.proofs.Holdings.{found}
use Rattle.turn_lock.proofs.hold.turn.Goals as goal

pub slot_mut-requires : goal.slot_mut-requires
slot_mut-requires g c =
    let held = c.requires.token.thing in
    (c.requires.token.place, (_, held ∙ ap (λ l. (0, Home (end_of (opening c.args.turns.now) c.args.token.now.me.0.seen)) ∷ rest l) (sym held)))

pub turn-reply-requires : goal.turn-reply-requires
turn-reply-requires g c =
    let thing = g.T.Thing in
    let x = opening c.args.turns.now in
    let log = c.args.token.now.me.0.seen in
    let lent = c.slot_mut.ensures.value ∙ ap (λ slot. (0, slot) ∷ rest c.args.token.now.me.1) c.in-Home.is in
    let same : end_of x log ≡ c.in-Home.thing = found c.args.token.now.me.1 (end_of x log) c.in-Home.thing (rest c.args.token.now.me.1) c.requires.token.thing lent in
    let fixed : thing.fixed (end_of x log) ≡ thing.fixed x = fixed_end thing.fixed thing.may_ask thing.turned g.met.T.Thing.stays_fixed x log c.requires.token.legal in
    subst (λ f. thing.may_ask f c.args.call) (sym fixed ∙ ap thing.fixed same) c.requires.call

pub returns : goal.returns
returns g c =
    let thing = g.T.Thing in
    let x = opening c.args.turns.now in
    let log = c.args.token.now.me.0.seen in
    let lent = c.slot_mut.ensures.value ∙ ap (λ slot. (0, slot) ∷ rest c.args.token.now.me.1) c.in-Home.is in
    let same : end_of x log ≡ c.in-Home.thing = found c.args.token.now.me.1 (end_of x log) c.in-Home.thing (rest c.args.token.now.me.1) c.requires.token.thing lent in
    let fixed : thing.fixed (end_of x log) ≡ thing.fixed x = fixed_end thing.fixed thing.may_ask thing.turned g.met.T.Thing.stays_fixed x log c.requires.token.legal in record {
      place = c.requires.token.place;
      view = refl;
      after = c.turn-reply.new.self;
      turn = (
        subst (λ f. thing.may_ask f c.args.call) (sym fixed) c.requires.call,
        subst (λ y. thing.turned y c.args.call c.turn-reply.result c.turn-reply.new.self) (sym same) c.turn-reply.ensures,
      );
      thing = ap (λ l. (0, Home c.turn-reply.new.self) ∷ rest l) c.requires.token.thing;
      asked = c.of-asked.result;
      answered = c.of-answered.result;
      call_is = c.of-asked.ensures;
      reply_is = c.of-answered.ensures;
      told_is = refl;
    }
