use denote.RattleType.{RattleType}
use denote.Ref.{NamedLft}
use denote.Struct.Field as Field
use denote.Struct.Declared.{shape}
use denote.Param.Send.{IsSend, struct_send, recorded_send, shr_send, sendable}
use Rattle.atomic_table.proofs.shared.Seat.TheSendSync.{the_send as seat_send}
use Rattle.turn_lock.specs.declared.thing.Thing.{Ghosts}
use Rattle.turn_lock.proofs.Crosses.{slot_crosses, token_crosses, turns_shared}
use Rattle.turn_lock.specs.contracts.turns.Turns as Turns
use Rattle.lock_bench.specs.contracts.behind_turns.Caller as Caller
use Rattle.lock_bench.proofs.behind_turns.all_call.Goals as goal

-- a caller may go to another thread where the object may
caller_crosses : (κ : NamedLft) (T : RattleType) (g : Ghosts T.Denot (Field.u64-field).Value (Field.u64-field).Value) → IsSend T → IsSend (Caller.the_row κ T g)
caller_crosses κ T g thing =
    let number : RattleType = (Field.u64-field).row in
    let turns : IsSend (denote.Ref.ShrRef κ.mir κ.lft (Turns.the_row T number number g)) = shr_send _ _ _ (turns_shared T number number g thing) in
    let fields : IsSend (Caller.the_field κ T g).row =
    struct_send (shape (Caller.the_type κ T g)) (turns, (search (sendable, seat_send, slot_crosses) depth 30, (search sendable, tt))) in
    recorded_send (Caller.the_field κ T g).row _ _ (Caller.the_type κ T g).to_one fields

pub run_all-seat-requires-send-A : goal.run_all-seat-requires-send-A
run_all-seat-requires-send-A g c κs within = let t = c.type_bounds.send-T in search (sendable, caller_crosses) depth 40

pub run_all-seat-requires-send-A-Out : goal.run_all-seat-requires-send-A-Out
run_all-seat-requires-send-A-Out g c κs within = let t = c.type_bounds.send-T in search (sendable, token_crosses) depth 40
