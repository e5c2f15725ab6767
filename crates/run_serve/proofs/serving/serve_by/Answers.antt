-- The repository is opened and worked with; or it is not opened.
use Rattle.std.proofs.Common.{ℕ, ◌<◌, ap, refl, subst}
use Rattle.run_serve.specs.Serving.{not_started, started}
use Rattle.run_serve.proofs.Outcomes.{first_set}
use Rattle.run_serve.proofs.serving.serve_by.Goals as goal

pub returns-in-Ok : goal.returns-in-Ok
returns-in-Ok g c = record {
  serves = λ source source'. started c.in-Ok.core _
      (first_set c.args.desks.items c.index_mut.result.now _ _ (subst (λ (n : ℕ). 0 < n) c.args.desks.ok.0 c.requires.desks) c.index_mut.ensures.value (refl, refl, c.in-Ok.ensures.ok))
      (c.serve_core.ensures.serves source');
}

pub returns-in-Err : goal.returns-in-Err
returns-in-Err g c = record {
  serves = λ source source'. not_started c.in-Err.refusal
      (first_set c.args.desks.items c.index_mut.result.now _ _ (subst (λ (n : ℕ). 0 < n) c.args.desks.ok.0 c.requires.desks) c.index_mut.ensures.value (refl, refl, c.in-Err.ensures.err))
      refl (ap g.C.Clock.moments c.in-Err.ensures.clock) c.refuse_start-status.ensures;
}
