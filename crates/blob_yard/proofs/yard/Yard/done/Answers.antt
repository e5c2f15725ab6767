use Rattle.std.proofs.Common.{ℕ, List, eqb, is_some, sym, ap, ◌∙◌, subst, add-zero}
use Rattle.std.specs.List.{list_any}
use Rattle.repo_model.specs.Effect.{returns as returns_lease, yard_after}
use Rattle.repo_model.specs.State.{Lease}
use Rattle.blob_yard.specs.Numbers.{Numbers}
use Rattle.blob_yard.specs.Places.{AreBelow, changed}
use Rattle.blob_yard.specs.Shown.{AreCounted, numbers_from}
use Rattle.blob_yard.specs.declared.places.Place.{Place}
use Rattle.blob_yard.proofs.MapLemmas.{AreBelow-changed, AreBelow-filter}
use Rattle.blob_yard.proofs.YardLemmas.{give_back, returned_counted, returned_shown, unreturned_shown, found-lease, is_lease}
use Rattle.blob_yard.proofs.yard.Yard.done.Goals as goal

pub invariant_of-self : goal.invariant_of-self
invariant_of-self c =
    let y = c.self.inside in
    let h = c.self.invariant in
    let places = c.give_back.ensures in
    record {
      drawn = subst (λ (es : List (ℕ × Place)). AreBelow y.next_draft es) (sym places) (AreBelow-changed y.next_draft c.in-Some.blob give_back y.places h.drawn);
      lent = subst (λ (ls : List (ℕ × ℕ)). AreBelow y.next_lease ls) (sym c.in-Some.ensures.rest) (AreBelow-filter y.next_lease _ y.leases.entries h.lent);
      counted = subst (λ (es : List (ℕ × Place)). AreCounted es c.drop_lease.new.leases.entries) (sym places)
          (returned_counted c.in-Some.blob y.places y.leases.entries c.drop_lease.new.leases.entries c.in-Some.ensures.count h.counted);
      draft = h.draft;
      lease = h.lease;
      session = h.session;
    }

pub invariant_of-self-in-None : goal.invariant_of-self-in-None
invariant_of-self-in-None c =
    let y = c.self.inside in
    let h = c.self.invariant in
    record {
      drawn = h.drawn;
      lent = subst (λ (ls : List (ℕ × ℕ)). AreBelow y.next_lease ls) (sym c.in-None.ensures.rest) (AreBelow-filter y.next_lease _ y.leases.entries h.lent);
      counted = λ n. h.counted n ∙ sym (c.in-None.ensures.count n) ∙ add-zero _;
      draft = h.draft;
      lease = h.lease;
      session = h.session;
    }

pub returns-in-Some-clause-lease : goal.returns-in-Some-clause-lease
returns-in-Some-clause-lease c =
    let ls = c.self.inside.leases.entries in
    sym (found-lease c.args.lease ls ∙ is_lease c.args.lease ls ∙ ap is_some (sym c.in-Some.ensures.blob))
    ∙ ap (λ (v : Numbers). list_any (λ (l : Lease). eqb l.number c.args.lease) v.yard.leases) c.self.view_is

pub returns-in-Some-clause-returned : goal.returns-in-Some-clause-returned
returns-in-Some-clause-returned c =
    let y = c.self.inside in
    ap (λ es. numbers_from es c.drop_lease.new.leases.entries y.next_draft y.next_lease y.next_session) c.give_back.ensures
    ∙ ap (λ ls. numbers_from (changed c.in-Some.blob give_back y.places) ls y.next_draft y.next_lease y.next_session) c.in-Some.ensures.rest
    ∙ returned_shown c.in-Some.blob c.args.lease y.places y.leases.entries y.next_draft y.next_lease y.next_session
    ∙ ap (λ (v : Numbers). record v { yard = yard_after (returns_lease c.args.lease) v.yard }) c.self.view_is

pub returns-in-None-clause-lease : goal.returns-in-None-clause-lease
returns-in-None-clause-lease c =
    let ls = c.self.inside.leases.entries in
    sym (found-lease c.args.lease ls ∙ is_lease c.args.lease ls ∙ ap is_some (sym c.in-None.ensures.blob))
    ∙ ap (λ (v : Numbers). list_any (λ (l : Lease). eqb l.number c.args.lease) v.yard.leases) c.self.view_is

pub returns-in-None-clause-returned : goal.returns-in-None-clause-returned
returns-in-None-clause-returned c =
    let y = c.self.inside in
    ap (λ ls. numbers_from y.places ls y.next_draft y.next_lease y.next_session) c.in-None.ensures.rest
    ∙ unreturned_shown c.args.lease y.places y.leases.entries y.next_draft y.next_lease y.next_session
    ∙ ap (λ (v : Numbers). record v { yard = yard_after (returns_lease c.args.lease) v.yard }) c.self.view_is
