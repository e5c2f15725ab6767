-- A run for whose words memory ran out.
use Rattle.std.proofs.Common.{◌≡◌, ℕ, List, Option, Some, None, Err, refl, inr}
use Rattle.repo_config.specs.Source.{IsReadFrom}
use Rattle.repo_config.specs.declared.faults.SettingsFault.TheVariants.{NoMemory}
use Rattle.repo_config.specs.declared.source.SourceFault.TheVariants.{Refused}
use Rattle.run_lines.specs.Lines.{memory_line}
use Rattle.run_lines.specs.Printing.{Output, Prints}
use Rattle.run_lines.specs.Reading.{File, Reads}
use Rattle.store_check.specs.Checking as checking
use Rattle.repo_run.specs.declared.actions.Action.{Action}
use Rattle.repo_run.specs.declared.actions.Action.TheVariants.{Replay, Check, Clean, Serve, Demo, Nothing}
use Rattle.repo_run.specs.Clean as clean
use Rattle.repo_run.specs.Demo as demo
use Rattle.repo_run.specs.Replay.{refused}
use Rattle.repo_run.specs.Running.{Acts}
use Rattle.repo_run.specs.Surroundings.{View}
use Rattle.repo_run.proofs.NotBegun.{not-begun}
use Rattle.repo_core.specs.declared.faults.StartFault.TheVariants as start
use Rattle.run_desks.specs.Seen.{RunResources, Looks}

-- running out of memory says nothing of a source
unread : (told : Option (List ℕ)) → IsReadFrom told (Err (Refused NoMemory))
unread None = tt
unread (Some text) = tt

-- so it stands for settings of which none was read
pub unread-source : (source : File) (out out' : Output) (status : ℕ) → Prints memory_line out out' → status ≡ 8 → Reads source source out out' (Err status)
unread-source source out out' status prints is = inr (NoMemory, refl, unread source.left, inr (prints, is))

pub starved-run : {L P D : Type 0} (looks : Looks L P D) (command : Action) (old : View (RunResources D)) (out' : Output) (status : ℕ)
    → Prints memory_line old.out out' → status ≡ 8 → Acts looks command old (record old { out = out' }) status
starved-run looks Replay old out' status prints is = (refused (unread-source old.source old.out out' status prints is) refl (refl, refl) refl, refl)
starved-run looks Check old out' status prints is =
    ((checking.refused (unread-source old.source old.out out' status prints is) refl refl, refl, refl, refl), refl)
starved-run looks Clean old out' status prints is = (clean.refused (unread-source old.source old.out out' status prints is) refl (refl, refl) refl, refl, refl)
starved-run looks (Demo from calls) old out' status prints is =
    (demo.not_started start.NoMemory _ (not-begun old.records _) refl refl (prints, is), refl, refl)
starved-run looks Serve old out' status prints is = (inr (prints, is), refl, refl, (refl, refl), refl)
starved-run looks Nothing old out' status prints is = (inr (prints, is), refl, refl, (refl, refl), refl)
