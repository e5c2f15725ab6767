use Rattle.record_journal.proofs.Undone.{less_by, undoes_kept, undoes_steady, undoes_ready, undoes_tables, undoes_reads}
use Rattle.record_journal.proofs.undoing.take_back.Goals as goal

pub returns-clause-crash : goal.returns-clause-crash
returns-clause-crash g c =
    undoes_kept _ _ (record { less = less_by _ _ _ c.undo.ensures.ok c.undo.ensures.err; moments = c.undo.ensures.moments; stays = c.undo.ensures.same; none = λ n. (c.undo.ensures.none n).1; gate = c.undo.ensures.stays }) c.requires

pub returns-clause-steady : goal.returns-clause-steady
returns-clause-steady g c =
    undoes_steady _ _ (record { less = less_by _ _ _ c.undo.ensures.ok c.undo.ensures.err; moments = c.undo.ensures.moments; stays = c.undo.ensures.same; none = λ n. (c.undo.ensures.none n).1; gate = c.undo.ensures.stays }) c.requires

pub returns-clause-ready : goal.returns-clause-ready
returns-clause-ready g c =
    undoes_ready _ _ (record { less = less_by _ _ _ c.undo.ensures.ok c.undo.ensures.err; moments = c.undo.ensures.moments; stays = c.undo.ensures.same; none = λ n. (c.undo.ensures.none n).1; gate = c.undo.ensures.stays })

pub returns-clause-same : goal.returns-clause-same
returns-clause-same g c =
    undoes_tables _ _ (record { less = less_by _ _ _ c.undo.ensures.ok c.undo.ensures.err; moments = c.undo.ensures.moments; stays = c.undo.ensures.same; none = λ n. (c.undo.ensures.none n).1; gate = c.undo.ensures.stays }) c.requires

pub returns-clause-reads : goal.returns-clause-reads
returns-clause-reads g c =
    undoes_reads _ _ (record { less = less_by _ _ _ c.undo.ensures.ok c.undo.ensures.err; moments = c.undo.ensures.moments; stays = c.undo.ensures.same; none = λ n. (c.undo.ensures.none n).1; gate = c.undo.ensures.stays }) c.requires
