use Rattle.std.proofs.Common.{subst}
use Rattle.ordered_rows.proofs.Rising.{AreRising, rising-shown}
use Rattle.kept_docs.proofs.KeptLemmas.{again_of, same_of, undone_of}
use Rattle.hosted_repo.proofs.storing.relist.Goals as goal

pub returns-in_err-described-clause-docs : goal.returns-in_err-described-clause-docs
returns-in_err-described-clause-docs g c = same_of c.args.docs.now c.add_row.new.docs c.args.rows.now c.in_err-described.ensures.err c.requires.docs

pub returns-in-Err-clause-docs : goal.returns-in-Err-clause-docs
returns-in-Err-clause-docs g c =
    undone_of c.args.docs.now c.add_row.new.docs c.undo_row.new.docs c.in_ok-described.described c.args.rows.now c.in_ok-described.ensures.undo c.undo_row.ensures c.requires.docs

pub returns-clause-docs : goal.returns-clause-docs
returns-clause-docs g c =
    let rising = subst AreRising c.map.ensures (rising-shown c.map.result.now.entries c.len-len.ensures.ordered) in
    let (row, since, found, fades) = c.requires.faded in
    again_of c.args.docs.now c.add_row.new.docs c.args.path.now c.args.accepted since row c.args.rows.now c.list_again.new.self c.requires.docs c.in_ok-described.ensures.more rising found fades c.list_again.ensures
