use Rattle.std.proofs.Common.{◌-◌, ◌<◌, length, arith}
use Rattle.row_tables.proofs.Rising.{first_found}
use Rattle.row_tables.proofs.sessions.place_of.Goals as goal

pub returns-then-sessions-place : goal.returns-then-sessions-place
returns-then-sessions-place c =
    let within : c.loop-place.place - 1 < length c.args.sessions.now = omega (arith, c.loop-place-test.true, c.loop-place.auto.place) in
    (within, c.if-sessions-place.true, first_found c.args.number c.args.sessions.now (c.loop-place.place - 1) _ c.requires within c.if-sessions-place.true)
