use Rattle.std.proofs.Common.{◌∙◌, ap, None, arith, slice_index_or}
use Rattle.std.specs.List.{list_all}
use Rattle.row_tables.specs.declared.sessions.SessionRow.{SessionRow}
use Rattle.deploy_session.specs.Known.{is_drawn}
use Rattle.deploy_session.proofs.RestartLemmas.{below_at}
use Rattle.deploy_session.proofs.restart.ended_of.Goals as goal

pub add_ended-requires : goal.add_ended-requires
add_ended-requires g c =
    let none : SessionRow = record { number = 0; result = None } in
    let i = c.loop-row.row-index in
    ap (list_all (is_drawn (slice_index_or c.args.rows.now i none).number)) c.loop-row.invariant
    ∙ below_at c.args.rows.now i none (omega arith) c.requires.rising c.requires.numbers
