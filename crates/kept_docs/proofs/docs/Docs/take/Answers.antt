use Rattle.std.proofs.Common.{cond, bytes_eq, rules, ap, ◌∙◌}
use Rattle.kept_docs.specs.Kept.{document_in, kept_at}
use Rattle.kept_docs.proofs.PageLemmas.{kept-place, set-place}
use Rattle.kept_docs.proofs.docs.Docs.take.Goals as goal

pub returns-in-Some-clause-rest : goal.returns-in-Some-clause-rest
returns-in-Some-clause-rest c = λ text.
    set-place c.args.path.now c.args.self.now.map (c.get_mut.follows.lender c.take.new.dest) c.take.new.dest ((c.get_mut.follows.holds c.take.new.dest).3 (search rules)) text
    ∙ ap (λ o. cond (bytes_eq text c.args.path.now) (document_in o) (kept_at text c.args.self.now)) c.take.ensures.after

pub returns-in-Some-clause-places : goal.returns-in-Some-clause-places
returns-in-Some-clause-places c =
    kept-place c.args.path.now c.args.self.now.map (c.get_mut.follows.lender c.take.new.dest) c.take.new.dest ((c.get_mut.follows.holds c.take.new.dest).3 (search rules))
