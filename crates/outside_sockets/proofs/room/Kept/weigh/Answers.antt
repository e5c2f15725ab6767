use Rattle.std.proofs.Common.{refl, sym, subst, inr}
use Rattle.outside_sockets.specs.declared.choice.Rank.TheVariants.{Heard}
use Rattle.outside_sockets.specs.declared.choice.Standing.{Standing}
use Rattle.outside_sockets.specs.Standing.{StandsAs}
use Rattle.outside_sockets.proofs.Order.{itself}
use Rattle.outside_sockets.proofs.room.Kept.weigh.Goals as goal

pub returns-then-not-is_first : goal.returns-then-not-is_first
returns-then-not-is_first g c =
    let standing : Standing = record { rank = c.rank.result; since = c.args.self.now.since; number = c.args.number } in
    λ met is. (standing, c.rank.ensures, refl, refl, c.is_first.ensures.stays met standing is c.if-not-is_first.true (itself standing))

pub returns-then-not-is_first-2 : goal.returns-then-not-is_first-2
returns-then-not-is_first-2 g c =
    let standing : Standing = record { rank = Heard; since = c.args.self.now.since; number = c.args.number } in
    λ met is. (standing, subst (λ state. StandsAs state Heard) (sym c.in-New.is) (inr refl), refl, refl, c.is_first-then-has_unread.ensures.stays met standing is c.if-not-is_first-2.true (itself standing))

pub returns-else-not-is_first-2 : goal.returns-else-not-is_first-2
returns-else-not-is_first-2 g c =
    λ met is. (_, subst (λ state. StandsAs state Heard) (sym c.in-New.is) (inr refl), refl, refl, c.is_first-then-has_unread.ensures.it met is c.if-not-is_first-2.false)

pub returns-else-has_unread : goal.returns-else-has_unread
returns-else-has_unread g c = λ met is. (_, c.rank.ensures, refl, refl, c.is_first.ensures.it met is c.if-not-is_first.false)

pub returns-in_default : goal.returns-in_default
returns-in_default g c = λ met is. (_, c.rank.ensures, refl, refl, c.is_first.ensures.it met is c.if-not-is_first.false)
