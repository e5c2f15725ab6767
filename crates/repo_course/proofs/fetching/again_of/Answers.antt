use Rattle.std.proofs.Common.{◌-◌, arith, rules}
use Rattle.repo_course.specs.declared.act.Again.{Again}
use Rattle.repo_course.proofs.Looking.{looks-last, looks-more}
use Rattle.repo_course.proofs.fetching.again_of.Goals as goal

pub returns-then-rounds-eq0-clause-looks : goal.returns-then-rounds-eq0-clause-looks
returns-then-rounds-eq0-clause-looks c = λ mode so_far.
    looks-last mode so_far c.args.rounds c.args.repo.now c.args.path.now c.args.tried.now c.if-rounds-eq0.true

pub returns-clause-looks : goal.returns-clause-looks
returns-clause-looks c = λ mode so_far.
    let again : Again = record { repo = c.in_ok-repo.repo; path = c.in_ok-path.path; tried = c.from_vec-tried.result; more = c.args.rounds - 1 } in
    looks-more mode so_far c.args.rounds c.args.repo.now c.args.path.now c.args.tried.now again (search rules) (search rules) (search rules)
    (omega (arith, c.if-rounds-eq0.false))
