use Rattle.std.proofs.Common.{ℕ, ◌+◌, ◌++◌, ◌∷◌, [], List, sym, ap, ◌∙◌, subst, arith}
use Rattle.repo_model.specs.Effect.{lends, yard_after}
use Rattle.repo_model.specs.State.{is_among}
use Rattle.blob_yard.specs.Numbers.{Numbers}
use Rattle.blob_yard.specs.Places.{AreBelow, changed}
use Rattle.blob_yard.specs.Shown.{AreCounted, numbers_from}
use Rattle.blob_yard.specs.declared.places.Place.{Place}
use Rattle.blob_yard.proofs.MapLemmas.{AreBelow-changed, AreBelow-push}
use Rattle.blob_yard.proofs.YardLemmas.{lend, kept_place, lent_counted, lent_shown}
use Rattle.blob_yard.proofs.yard.Yard.lease.Goals as goal

pub invariant_of-self : goal.invariant_of-self
invariant_of-self c =
    let y = c.self.inside in
    let h = c.self.invariant in
    let n = c.args.blob in
    let es = y.places in
    let ls = y.leases.entries in
    let place = kept_place n es ls y.next_draft y.next_lease y.next_session c.lend.ensures.rising (ap (λ (v : Numbers). is_among n v.kept) c.self.view_is ∙ c.requires) in
    let places = c.lend.ensures.changed in
    let leases = c.in-Ok.ensures.ok in
    record {
      drawn = subst (λ (es : List (ℕ × Place)). AreBelow y.next_draft es) (sym places) (AreBelow-changed y.next_draft n lend es h.drawn);
      lent = subst (λ (ls : List (ℕ × ℕ)). AreBelow (y.next_lease + 1) ls) (sym leases) (AreBelow-push y.next_lease n ls h.lent);
      counted = subst (λ (ms : List (ℕ × ℕ)). AreCounted c.lend.new.places ms) (sym leases)
          (subst (λ (fs : List (ℕ × Place)). AreCounted fs (ls ++ (y.next_lease, n) ∷ [])) (sym places) (lent_counted n y.next_lease place.0 es ls place.1 h.counted));
      draft = h.draft;
      lease = omega (arith, h.lease, c.if-number.false);
      session = h.session;
    }

pub returns-in-Ok-clause-lent : goal.returns-in-Ok-clause-lent
returns-in-Ok-clause-lent c =
    let y = c.self.inside in
    ap (λ es. numbers_from es c.add_lease.new.leases.entries y.next_draft (y.next_lease + 1) y.next_session) c.lend.ensures.changed
    ∙ ap (λ ls. numbers_from (changed c.args.blob lend y.places) ls y.next_draft (y.next_lease + 1) y.next_session) c.in-Ok.ensures.ok
    ∙ lent_shown c.args.blob y.next_lease y.places y.leases.entries y.next_draft y.next_session
    ∙ ap (λ (v : Numbers). record v { yard = yard_after (lends c.args.blob) v.yard }) c.self.view_is
