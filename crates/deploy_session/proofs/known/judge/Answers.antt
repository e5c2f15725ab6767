use Rattle.std.proofs.Common.{◌≤◌, length, Option, sym, ap, ◌∙◌, arith}
use Rattle.std.proofs.lemmas.List.{length-map}
use Rattle.repo_model.specs.Data as plain
use Rattle.repo_model.specs.State.{most_staged}
use Rattle.repo_model.specs.Turn.{stage_in}
use Rattle.deploy_session.specs.Shown.{shown_file, shown_session}
use Rattle.deploy_session.proofs.SessionLaws.{free_so, full_turn}
use Rattle.deploy_session.proofs.known.judge.Goals as goal

pub returns-then-len-ge-MOST_STAGED : goal.returns-then-len-ge-MOST_STAGED
returns-then-len-ge-MOST_STAGED g c n blob print =
    let s = c.in-Some.session.now in
    let one : plain.Session = shown_session (c.args.number, s) in
    let none = free_so c.args.sent _ c.in-Free.ensures in
    let full : most_staged ≤ length one.staged = omega (arith, length-map s.files.entries shown_file, c.len.ensures.len) in
    sym (ap (λ (o : Option plain.Session). stage_in c.args.path.now n blob o) c.in-Some.ensures)
    ∙ full_turn one c.args.path.now n blob none full
