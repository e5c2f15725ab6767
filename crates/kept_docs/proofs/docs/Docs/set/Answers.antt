use Rattle.std.proofs.Common.{rules}
use Rattle.kept_docs.proofs.PageLemmas.{kept-place, set-place}
use Rattle.kept_docs.proofs.docs.Docs.set.Goals as goal

pub returns-in-Some-clause-set : goal.returns-in-Some-clause-set
returns-in-Some-clause-set c =
    set-place c.args.path.now c.args.self.now.map (c.get_mut.follows.lender c.args.kept) c.args.kept ((c.get_mut.follows.holds c.args.kept).3 (search rules))

pub returns-in-Some-clause-places : goal.returns-in-Some-clause-places
returns-in-Some-clause-places c =
    kept-place c.args.path.now c.args.self.now.map (c.get_mut.follows.lender c.args.kept) c.args.kept ((c.get_mut.follows.holds c.args.kept).3 (search rules))
