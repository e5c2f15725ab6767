-- When the records are asked, and the reply that says that they failed.
use Rattle.std.specs.Prelude.{◌≡◌, ◌⊎◌, Bool, true, false, []}
use Rattle.repo_model.specs.Settings.{Settings}
use Rattle.repo_model.specs.State.{State}
use Rattle.repo_model.specs.Effect.{recorded}
use Rattle.repo_model.specs.Command.{collect}
use Rattle.repo_model.specs.Reply.{Reply, store_fault}
use Rattle.repo_model.specs.Turn.{turn}
use Rattle.repo_model.specs.History.{Entry}

abbrev pub is_store_fault : Reply → Bool
is_store_fault store_fault = true
is_store_fault reply = false

-- the records are asked to commit: by Collect always, and by any other command where its turn records something
abbrev pub AsksRecords : Settings → State → Entry → Type 0
AsksRecords settings old e = (e.command ≡ collect) ⊎ (recorded (turn settings old e.moment e.command).effects ≡ [] → ⊥)
