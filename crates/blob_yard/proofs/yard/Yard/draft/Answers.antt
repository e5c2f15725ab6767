use Rattle.std.proofs.Common.{ℕ, ◌+◌, List, sym, subst, arith}
use Rattle.blob_yard.specs.Places.{AreBelow}
use Rattle.blob_yard.specs.Shown.{AreCounted}
use Rattle.blob_yard.specs.declared.places.Place.{Place}
use Rattle.blob_yard.specs.declared.places.Stand.TheVariants.{Draft}
use Rattle.blob_yard.proofs.MapLemmas.{AreBelow-push}
use Rattle.blob_yard.proofs.YardLemmas.{drawn_counted}
use Rattle.blob_yard.proofs.yard.Yard.draft.Goals as goal

pub invariant_of-self : goal.invariant_of-self
invariant_of-self c =
    let y = c.self.inside in
    let h = c.self.invariant in
    let change = c.in-Ok.ensures.ok in
    record {
      drawn = subst (λ (es : List (ℕ × Place)). AreBelow (y.next_draft + 1) es) (sym change) (AreBelow-push y.next_draft (record { stand = Draft; leases = 0 }) y.places h.drawn);
      lent = h.lent;
      counted = subst (λ (es : List (ℕ × Place)). AreCounted es y.leases.entries) (sym change) (drawn_counted y.next_draft y.places y.leases.entries h.counted);
      draft = omega (arith, h.draft, c.if-number.false);
      lease = h.lease;
      session = h.session;
    }
