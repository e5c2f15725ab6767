-- Calls of a repository that was opened outlast crashes, whether it is ever given back.
use Rattle.std.proofs.Common.{List, [], ◌∷◌, Option, refl}
use Rattle.outside.specs.Moments.{Moments}
use Rattle.repo_model.specs.Settings.{Settings}
use Rattle.row_tables.specs.Crashes.{Rests}
use Rattle.repo_core.specs.CoreTurn.{CoreTurn}
use Rattle.repo_core.specs.Whole.{Whole}
use Rattle.repo_course.specs.Cleaning.{Store}
use Rattle.store_check.specs.Checking.{Recorded}
use Rattle.repo_run.specs.Begun.{Begins, HoldsRecords}
use Rattle.turn_lock.specs.declared.view.Entry.{Entry as Call}
use Rattle.turn_lock.specs.History.{Legal, end_of}
use Rattle.turn_seats.specs.Seated.{Sight, entry_of}
use Rattle.served_laws.specs.Crashed.{calls_made}
use Rattle.served_laws.proofs.Runs.{begun-outlasts}
use Rattle.served_laws.proofs.Crashed.{calls-go-on}
use Rattle.running_laws.proofs.Longer.{begun-longer}
use Rattle.running_laws.specs.Seen.{CallsOutlast}
use Rattle.running_laws.specs.Spared.{CallsSpare}

module _ {C R : Type 0} (sight : Sight Whole C R) (steps : Whole → C → R → Whole → Type 0)
    (is_turn : (before after : Whole) (call : C) (reply : R) → steps before call reply after
    → CoreTurn before.settings before (entry_of sight (record { by = 0; call = call; reply = reply; after = after })) after) where
  -- after the last call a crash leaves the tables then, or these with what is pending
  rests-so : (log : List (Call C R Whole)) (x : Whole) → Legal steps x log → Rests x.tables x.unsettled → Rests (end_of x log).tables (end_of x log).unsettled
  rests-so [] x legal rests = rests
  rests-so (call ∷ log) x legal rests = rests-so log call.after legal.1 (is_turn x call.after call.call call.reply legal.0).crashes.rests

  module _ (settings : Settings) (records : Recorded) (old new : Store) (clock : Option Moments) where
    pub calls-outlast : (x : Whole) (log : List (Call C R Whole)) → Begins settings records old new clock x → Legal steps x log → CallsOutlast sight settings records x log
    calls-outlast x log begins legal before told_so =
        let now : Whole = end_of x log in
        let as_records : Recorded = record { tables = now.tables; loading = records.loading; faults = now.state.faults; unsettled = now.unsettled } in
        let holds : HoldsRecords now as_records = (refl, refl, refl, rests-so log x legal begins.rests) in
        let run =
        begun-outlasts settings records old new clock x begins as_records now (calls_made sight log)
        (λ t told_core. calls-go-on settings sight steps is_turn log x t legal begins.settings_are told_core) holds before told_so in
        record {
          whole = run.whole;
          told_core = run.told_core;
          completes = run.completes;
          settled = run.settled;
          outlasts = run.outlasts;
          told_now = run.told_back;
          unsettled_now = run.unsettled_back;
          found_now = run.found_back;
        }

    -- and each file up to the first call that takes it away
    pub calls-spare : (x : Whole) (log : List (Call C R Whole)) → Begins settings records old new clock x → Legal steps x log → CallsSpare sight settings records x log
    calls-spare x log begins legal =
        begun-longer settings records old new clock x begins (end_of x log) (calls_made sight log)
        (λ t told_core. calls-go-on settings sight steps is_turn log x t legal begins.settings_are told_core)
