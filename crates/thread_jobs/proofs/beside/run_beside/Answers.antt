use Rattle.std.proofs.Common.{rules, ◌≡◌, ◌++◌, ◌∷◌, []}
use Rattle.std.proofs.lemmas.Slice.Zip.{all_zipped_more}
use Rattle.thread_jobs.proofs.beside.run_beside.Goals as goal

pub returns-clause-gives : goal.returns-clause-gives
returns-clause-gives g c =
    let items : c.args.jobs.items ≡ c.pop.new.self.items ++ c.in-Some.last ∷ [] = search rules in
    rw (items, c.push_reserved.ensures.items) (all_zipped_more g.A.Job.gives c.pop.new.self.items c.join-end.result.1.0.items c.in-Some.last c.join-end.result.1.1 c.join-end.ensures.second.0 c.join-end.ensures.second.1)
