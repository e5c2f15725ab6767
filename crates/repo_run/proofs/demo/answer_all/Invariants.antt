-- So many requests were answered, none of them because memory ran out.
use Rattle.std.proofs.Common.{◌≡◌, ◌<◌, ◌≤◌, List}
use Rattle.demo_requests.specs.Numbers.{number_at}
use Rattle.repo_course.specs.Serving.{AllTell}
use Rattle.run_desks.specs.Seen.{store_seen}
use Rattle.repo_run.specs.Demo.{Answer, NoneStarved, tally_of}
use Rattle.repo_run.specs.DemoSteps.{Shows, resources}
use Rattle.repo_run.proofs.demo.answer_all.Given as goal

abbrev pub invariant-loop-answered : goal.invariant-loop-answered
invariant-loop-answered g l = record {
  settings : l.core.settings ≡ l.settings;
  number : l.number ≡ number_at l.from l.answered;
  below : l.number < 65537;
  small : (l.tally.ok ≤ l.answered) × (l.tally.created ≤ l.answered) × (l.tally.missing ≤ l.answered);
  shown : (answers : List Answer)
      × Shows l.settings (AllTell g.B.Held.Held.bytes) l.from l.answered l.fn.core l.core
      (resources (store_seen g.B.Blobs l.fn.blobs) (g.R.Remote.sees l.fn.remote)) (resources (store_seen g.B.Blobs l.blobs) (g.R.Remote.sees l.remote)) answers
      × (l.tally ≡ tally_of answers) × NoneStarved answers;
}
