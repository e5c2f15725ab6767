use Rattle.std.proofs.Common.{inr}
use Rattle.row_tables.specs.Items.{change_bytes}
use Rattle.record_journal.proofs.Added.{nothing_first, nothing_then, undone_first, then_added}
use Rattle.record_journal.proofs.committing.commit_change.Goals as goal

pub returns-in-Err-clause-crash : goal.returns-in-Err-clause-crash
returns-in-Err-clause-crash g c = undone_first _ _ _ _ _ c.args.change.now c.requires.ready.standing c.take_back.ensures.crash

pub returns-clause-crash : goal.returns-clause-crash
returns-clause-crash g c = then_added _ _ _ _ _ _ _ c.args.change.now c.requires.ready.standing c.in-Ok.ensures.ok c.take_back.ensures.same c.take_back.ensures.crash c.append_change.ensures.crash

pub returns-then-is_empty-clause-crash : goal.returns-then-is_empty-clause-crash
returns-then-is_empty-clause-crash g c = undone_first _ _ _ _ _ c.args.change.now c.requires.ready.standing c.take_back.ensures.crash

pub returns-in-Err-clause-nothing : goal.returns-in-Err-clause-nothing
returns-in-Err-clause-nothing g c = inr (nothing_first _ _ _ _ _ c.requires.ready.standing c.take_back.ensures.crash)

pub returns-clause-nothing : goal.returns-clause-nothing
returns-clause-nothing g c = nothing_then c.append_change.result c.args.log.now c.take_back.new.log c.append_change.new.log (change_bytes c.args.change.now) (nothing_first _ _ _ _ _ c.requires.ready.standing c.take_back.ensures.crash) c.append_change.ensures.nothing
