use Rattle.std.proofs.Common.{ℕ, List, sym, ap, ◌∙◌, subst}
use Rattle.repo_model.specs.Effect.{without_draft, condemning}
use Rattle.repo_model.specs.State.{is_among}
use Rattle.blob_yard.specs.Numbers.{Numbers}
use Rattle.blob_yard.specs.Places.{AreBelow}
use Rattle.blob_yard.specs.Shown.{AreCounted, numbers_from}
use Rattle.blob_yard.specs.declared.places.Place.{Place}
use Rattle.blob_yard.specs.declared.places.Stand.TheVariants.{Condemned}
use Rattle.blob_yard.proofs.MapLemmas.{AreBelow-changed}
use Rattle.blob_yard.proofs.YardLemmas.{placed, placed_counted, dropped_shown}
use Rattle.blob_yard.proofs.yard.Yard.drop_draft.Goals as goal

pub invariant_of-self : goal.invariant_of-self
invariant_of-self c =
    let y = c.self.inside in
    let h = c.self.invariant in
    let change = c.set_stand.ensures.changed in
    record {
      drawn = subst (λ (es : List (ℕ × Place)). AreBelow y.next_draft es) (sym change) (AreBelow-changed y.next_draft c.args.draft (placed Condemned) y.places h.drawn);
      lent = h.lent;
      counted = subst (λ (es : List (ℕ × Place)). AreCounted es y.leases.entries) (sym change) (placed_counted c.args.draft Condemned y.places y.leases.entries h.counted);
      draft = h.draft;
      lease = h.lease;
      session = h.session;
    }

pub returns-clause-dropped : goal.returns-clause-dropped
returns-clause-dropped c =
    let y = c.self.inside in
    let n = c.args.draft in
    let among = ap (λ (v : Numbers). is_among n v.yard.drafts) c.self.view_is ∙ sym c.is_draft.ensures ∙ c.if-not-is_draft.false in
    ap (λ es. numbers_from es y.leases.entries y.next_draft y.next_lease y.next_session) c.set_stand.ensures.changed
    ∙ dropped_shown n y.places y.leases.entries y.next_draft y.next_lease y.next_session c.set_stand.ensures.rising among
    ∙ ap (λ (v : Numbers). record { yard = condemning n (without_draft n v.yard); kept = v.kept }) c.self.view_is
