-- What threads share: settings, and the turns of a repository beside them. A desk with its seat may go to another thread.
use denote.RattleType.{RattleType}
use denote.Ref.{NamedLft}
use denote.Struct.Declared.{shape}
use denote.Param.Send.{IsSend, IsSync, struct_send, struct_sync, recorded_send, recorded_sync, shr_send, sendable}
use Rattle.std.proofs.Crossing.{crosses}
use Rattle.atomic_table.proofs.shared.Seat.TheSendSync.{the_send as seat_send}
use Rattle.atomic_table.proofs.owned.Table.TheSendSync.{the_field_sync as table_sync}
use Rattle.std.specs.contracts.snapshot.Snapshot as Snapshot
use Rattle.std.specs.contracts.alloc.Global as Global
use Rattle.std.specs.contracts.impls.GlobalAllocator.TheImpl as Allocator
use Rattle.texts.specs.contracts.Text as Text
use Rattle.path_patterns.specs.contracts.patterns.Patterns as Patterns
use Rattle.repo_config.specs.contracts.settings.Settings as Settings
use Rattle.repo_config.specs.contracts.parts.Parts as Parts
use Rattle.repo_config.specs.contracts.rules.HostedRule as HostedRule
use Rattle.repo_config.specs.contracts.rules.ProxyRule as ProxyRule
use Rattle.repo_config.specs.contracts.rules.GroupRule as GroupRule
use Rattle.turn_lock.specs.declared.thing.Thing.{Ghosts}
use Rattle.turn_lock.specs.contracts.turns.Turns as Turns
use Rattle.turn_lock.specs.contracts.law.Law as Law
use Rattle.turn_lock.specs.contracts.law.LawTableRuleSlotCallReplyViewCallReplySnapshot.TheImpl as LawRule
use Rattle.turn_lock.specs.contracts.view.Slot as Slot
use Rattle.turn_lock.specs.contracts.view.View as View
use Rattle.turn_lock.proofs.Crosses.{slot_crosses}
use Rattle.desk_work.specs.contracts.jobs.CleanerJob as CleanerJob
use Rattle.desk_work.specs.contracts.jobs.DeskJob as DeskJob
use Rattle.desk_work.specs.contracts.jobs.House as House

text_shared : IsSync Text.the_field.row
text_shared = search (sendable, crosses) depth 60

patterns_shared : IsSync Patterns.the_field.row
patterns_shared = search (sendable, crosses) depth 60 fits 20000

hosted_shared : IsSync HostedRule.the_field.row
hosted_shared = search (sendable, crosses, text_shared) depth 60 fits 20000

group_shared : IsSync GroupRule.the_field.row
group_shared = search (sendable, crosses, text_shared) depth 60 fits 20000

proxy_shared : IsSync ProxyRule.the_field.row
proxy_shared = search (sendable, crosses, text_shared, patterns_shared) depth 60 fits 20000

parts_shared : IsSync Parts.the_field.row
parts_shared = search (sendable, crosses, hosted_shared, group_shared, proxy_shared) depth 60 fits 20000

settings_shared : IsSync Settings.the_field.row
settings_shared = search (sendable, crosses, parts_shared) depth 60 fits 20000

turns_shared : (T C R : RattleType) (g : Ghosts T.Denot C.Denot R.Denot) → IsSend T → IsSync (Turns.the_field T C R g).row
turns_shared T C R g t =
    struct_sync (shape (Turns.the_type T C R g)) (table_sync (Slot.the_row C R T) (View.the_row C R T) (Snapshot.the_row T) (Law.the_row T) Global.the_row (LawRule.ghosts T C R g LawRule.no_dict) Allocator.ghosts (slot_crosses C R T t) (search (sendable, crosses) depth 20) (search (sendable, crosses) depth 20) (search (sendable, crosses) depth 20), (search (sendable, crosses) depth 20, tt))

-- a house may be shared where its repository may go to another thread
house_shared : (T C R : RattleType) (g : Ghosts T.Denot C.Denot R.Denot) → IsSend T → IsSync (House.the_row T C R g)
house_shared T C R g t =
    let fields : IsSync (House.the_field T C R g).row = struct_sync (shape (House.the_type T C R g)) (turns_shared T C R g t, (settings_shared, tt)) in
    recorded_sync (House.the_field T C R g).row _ _ (House.the_type T C R g).to_one fields

pub job_crosses : (κ : NamedLft) (P B M T L H N C R : RattleType) (g : Ghosts T.Denot C.Denot R.Denot) → IsSend P → IsSend B → IsSend M → IsSend T → IsSend (DeskJob.the_row κ P B M T L H N C R g)
job_crosses κ P B M T L H N C R g p b m t =
    let house : IsSend (denote.Ref.ShrRef κ.mir κ.lft (House.the_row T C R g)) = shr_send _ _ _ (house_shared T C R g t) in
    let fields : IsSend (DeskJob.the_field κ P B M T L H N C R g).row =
    struct_send (shape (DeskJob.the_type κ P B M T L H N C R g)) (house, (search (sendable, seat_send, slot_crosses) depth 30, (search sendable depth 30, (search (sendable, crosses) depth 30, tt)))) in
    recorded_send (DeskJob.the_field κ P B M T L H N C R g).row _ _ (DeskJob.the_type κ P B M T L H N C R g).to_one fields

pub cleaner_crosses : (κ : NamedLft) (B Q T H N C R : RattleType) (g : Ghosts T.Denot C.Denot R.Denot) → IsSend B → IsSend Q → IsSend T → IsSend (CleanerJob.the_row κ B Q T H N C R g)
cleaner_crosses κ B Q T H N C R g b q t =
    let house : IsSend (denote.Ref.ShrRef κ.mir κ.lft (House.the_row T C R g)) = shr_send _ _ _ (house_shared T C R g t) in
    let fields : IsSend (CleanerJob.the_field κ B Q T H N C R g).row =
    struct_send (shape (CleanerJob.the_type κ B Q T H N C R g)) (house, (search (sendable, seat_send, slot_crosses) depth 30, (search sendable depth 30, tt))) in
    recorded_send (CleanerJob.the_field κ B Q T H N C R g).row _ _ (CleanerJob.the_type κ B Q T H N C R g).to_one fields
