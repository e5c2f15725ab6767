use Rattle.std.proofs.Common.{rules, arith, ◌≡◌, ◌++◌, ◌∷◌, [], length, ◌+◌}
use Rattle.std.proofs.lemmas.Slice.Zip.{all_zipped_more}
use Rattle.thread_jobs.proofs.jobs.+fn-run_all-join+arg3+run_all.Goals as goal

pub push_reserved-requires : goal.push_reserved-requires
push_reserved-requires g t c =
    let s = c.join-out.ensures.second in
    let p = c.pop.ensures.len in
    let some : length c.pop.new.self.items + 1 ≡ length c.args.jobs.items = search rules in
    let len = s.2 in
    let cap = s.3 in
    let room = c.requires.room.1 in
    omega arith

pub returns-clause-gives : goal.returns-clause-gives
returns-clause-gives g t c =
    let items : c.args.jobs.items ≡ c.pop.new.self.items ++ c.in-Some.job ∷ [] = search rules in
    rw (items, c.push_reserved.ensures.items) (all_zipped_more g.A.Job.gives c.pop.new.self.items c.join-out.result.1.0.items c.in-Some.job c.join-out.result.0 c.join-out.ensures.second.0 c.join-out.ensures.first)
