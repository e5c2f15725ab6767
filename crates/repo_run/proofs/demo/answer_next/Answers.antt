-- It was answered, apart from running out of memory, or not taken whole.
use Rattle.std.proofs.Common.{ℕ, List, inr, subst}
use Rattle.repo_course.specs.Serving.{AllTell}
use Rattle.run_desks.specs.Seen.{store_seen}
use Rattle.repo_run.specs.Demo.{Answer}
use Rattle.repo_run.specs.DemoSteps.{Answers, resources}
use Rattle.repo_run.proofs.demo.answer_next.Goals as goal

pub returns-then-is_starved-clause-steps : goal.returns-then-is_starved-clause-steps
returns-then-is_starved-clause-steps g c =
    let answer : Answer = record { bytes = c.in_ok-answer.answer.taken; ending = c.in_ok-answer.ending } in
    let first = resources (store_seen g.B.Blobs c.args.blobs.now) (g.R.Remote.sees c.args.remote.now) in
    let last = resources (store_seen g.B.Blobs c.answer_to.new.blobs) (g.R.Remote.sees c.answer_to.new.remote) in
    inr (answer, subst (λ (r : List ℕ). Answers c.args.settings.now (AllTell g.B.Held.Held.bytes) r c.args.core.now c.answer_to.new.core first last answer) c.in_ok-text.ensures c.in_ok-answer.ensures.ok)

pub returns-in_default : goal.returns-in_default
returns-in_default g c =
    let answer : Answer = record { bytes = c.in_ok-answer.answer.taken; ending = c.in_ok-answer.ending } in
    let first = resources (store_seen g.B.Blobs c.args.blobs.now) (g.R.Remote.sees c.args.remote.now) in
    let last = resources (store_seen g.B.Blobs c.answer_to.new.blobs) (g.R.Remote.sees c.answer_to.new.remote) in
    record {
      steps = inr (
        answer,
        subst (λ (r : List ℕ). Answers c.args.settings.now (AllTell g.B.Held.Held.bytes) r c.args.core.now c.answer_to.new.core first last answer) c.in_ok-text.ensures c.in_ok-answer.ensures.ok,
      );
      settings = c.in_ok-answer.ensures.settings;
    }
