-- One request after another is answered and counted.
use Rattle.std.proofs.Common.{◌≡◌, ◌∷◌, ◌++◌, ◌≤◌, ◌+◌, ℕ, [], List, refl, sym, subst, ap, ◌∙◌, arith}
use Rattle.std.proofs.lemmas.Result.{err_from_is_err_and}
use Rattle.demo_requests.specs.Numbers.{next}
use Rattle.repo_course.specs.Serving.{AllTell}
use Rattle.run_desks.specs.Seen.{store_seen}
use Rattle.repo_run.specs.declared.tally.Tally.{Tally}
use Rattle.repo_run.specs.Demo.{Answer}
use Rattle.repo_run.specs.DemoSteps.{Shows, counted, resources, whole}
use Rattle.repo_run.proofs.Shown.{cut-short, none-shown, number-after, one-more}
use Rattle.repo_run.proofs.Tallies.{counted-push, more-below, none-push}
use Rattle.repo_run.proofs.demo.answer_all.Goals as goal

pub loop-answered-init : goal.loop-answered-init
loop-answered-init g c = record {
  settings = c.requires;
  number = omega arith;
  below = omega arith;
  small = (omega arith, omega arith, omega arith);
  shown = (
    [],
    none-shown c.args.settings.now (AllTell g.B.Held.Held.bytes) c.args.from c.args.core.now (resources (store_seen g.B.Blobs c.args.blobs.now) (g.R.Remote.sees c.args.remote.now)),
    refl,
    (refl, tt),
  );
}

pub loop-answered-preserved : goal.loop-answered-preserved
loop-answered-preserved g c =
    let i = c.loop-answered.invariant in
    let step = c.in_ok-answer.ensures.steps in
    let answer : Answer = whole c.in_ok-answer.answer.taken in
    let is = c.next_number-number.ensures.next ∙ ap next i.number in
    let tally = c.loop-answered.tally in
    let more = c.loop-answered.answered + 1 in
    let counts = c.counted-tally.ensures ∙ ap (λ (b : List ℕ). counted b tally) c.bytes.ensures in
    record {
      settings = c.in_ok-answer.ensures.settings ∙ i.settings;
      number = number-after c.args.from c.loop-answered.answered c.next_number-number.result is;
      below = c.next_number-number.ensures.range;
      small = subst (λ (t : Tally). (t.ok ≤ more) × (t.created ≤ more) × (t.missing ≤ more)) (sym counts)
          (more-below _ _ _ i.small.0, more-below _ _ _ i.small.1, more-below _ _ _ i.small.2);
      shown = (
        i.shown.0 ++ answer ∷ [],
        one-more c.args.settings.now (AllTell g.B.Held.Held.bytes) c.args.from c.loop-answered.answered c.next_number-number.result c.args.core.now c.loop-answered.core c.answer_next.new.core
            _ _ _ i.shown.0 answer is i.shown.1 step.0,
        counts ∙ ap (λ (t : Tally). counted answer.bytes t) i.shown.2 ∙ counted-push answer i.shown.0,
        none-push answer i.shown.0 i.shown.3 step.1 refl,
      );
    }

pub returns-in_err-answer : goal.returns-in_err-answer
returns-in_err-answer g c =
    let i = c.loop-answered.invariant in
    let is = c.next_number-number.ensures.next ∙ ap next i.number in
    let fault = err_from_is_err_and c.from_residual.result c.from_residual.ensures.1 in
    rw fault.1 (cut-short c.args.settings.now (AllTell g.B.Held.Held.bytes) c.args.from c.args.requests c.loop-answered.answered c.next_number-number.result c.args.core.now c.loop-answered.core _
    _ _ _ i.shown.0 (omega arith) is i.shown.1 c.in_err-answer.ensures.steps)

pub returns : goal.returns
returns g c =
    let i = c.loop-answered.invariant in
    let all : c.loop-answered.answered ≡ c.args.requests = omega arith in
    let first = resources (store_seen g.B.Blobs c.args.blobs.now) (g.R.Remote.sees c.args.remote.now) in
    let last = resources (store_seen g.B.Blobs c.loop-answered.blobs) (g.R.Remote.sees c.loop-answered.remote) in (
      i.shown.0,
      subst (λ (n : ℕ). Shows c.args.settings.now (AllTell g.B.Held.Held.bytes) c.args.from n c.args.core.now c.loop-answered.core first last i.shown.0) all i.shown.1,
      i.shown.2,
      i.shown.3,
    )
