-- A seat may go to another thread where the object may, and so may a note. Turns may then be shared.
use denote.RattleType.{RattleType}
use denote.Param.Send.{IsSend, IsSync, struct_send, struct_sync, recorded_send, recorded_sync, sendable}
use denote.Struct.Declared.{shape}
use Rattle.std.proofs.Crossing.{crosses}
use Rattle.atomic_table.proofs.shared.Seat.TheSendSync.{the_send as seat_send}
use Rattle.atomic_table.proofs.owned.Table.TheSendSync.{the_field_send as table_send, the_field_sync as table_sync}
use Rattle.turn_lock.specs.declared.thing.Thing.{Ghosts}
use Rattle.turn_lock.specs.contracts.turns.Turns as Turns
use Rattle.std.specs.contracts.snapshot.Snapshot as Snapshot
use Rattle.std.specs.contracts.alloc.Global as Global
use Rattle.std.specs.contracts.impls.GlobalAllocator.TheImpl as Allocator
use Rattle.turn_lock.specs.contracts.law.Law as Law
use Rattle.turn_lock.specs.contracts.law.LawTableRuleSlotCallReplyViewCallReplySnapshot.TheImpl as LawRule
use Rattle.turn_lock.specs.contracts.view.Slot as Slot
use Rattle.turn_lock.specs.contracts.view.View as View
use Rattle.turn_lock.specs.contracts.seat.SeatToken as SeatToken
use Rattle.turn_lock.specs.contracts.seat.NoteToken as NoteToken

pub slot_crosses : (C R T : RattleType) → IsSend T → IsSend (Slot.the_row C R T)
slot_crosses C R T t = search (sendable, crosses) depth 30

pub token_crosses : (C R T : RattleType) → IsSend T → IsSend (SeatToken.the_row C R T)
token_crosses C R T t = search (sendable, seat_send, slot_crosses) depth 30

pub note_crosses : (C R T : RattleType) → IsSend T → IsSend (NoteToken.the_row C R T)
note_crosses C R T t = search (sendable, seat_send, slot_crosses) depth 30

pub turns_shared : (T C R : RattleType) (g : Ghosts T.Denot C.Denot R.Denot) → IsSend T → IsSync (Turns.the_row T C R g)
turns_shared T C R g t =
    let fields : IsSync (Turns.the_field T C R g).row =
    struct_sync (shape (Turns.the_type T C R g)) (table_sync (Slot.the_row C R T) (View.the_row C R T) (Snapshot.the_row T) (Law.the_row T) Global.the_row (LawRule.ghosts T C R g LawRule.no_dict) Allocator.ghosts (slot_crosses C R T t) (search (sendable, crosses) depth 20) (search (sendable, crosses) depth 20) (search (sendable, crosses) depth 20), (search (sendable, crosses) depth 20, tt)) in
    recorded_sync (Turns.the_field T C R g).row _ _ (Turns.the_type T C R g).to_one fields

pub turns_cross : (T C R : RattleType) (g : Ghosts T.Denot C.Denot R.Denot) → IsSend T → IsSend (Turns.the_row T C R g)
turns_cross T C R g t =
    let fields : IsSend (Turns.the_field T C R g).row =
    struct_send (shape (Turns.the_type T C R g)) (table_send (Slot.the_row C R T) (View.the_row C R T) (Snapshot.the_row T) (Law.the_row T) Global.the_row (LawRule.ghosts T C R g LawRule.no_dict) Allocator.ghosts (slot_crosses C R T t) (search (sendable, crosses) depth 20) (search (sendable, crosses) depth 20), (search (sendable, crosses) depth 20, tt)) in
    recorded_send (Turns.the_field T C R g).row _ _ (Turns.the_type T C R g).to_one fields
