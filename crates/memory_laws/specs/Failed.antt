-- Why a replay may end with another status than 0: memory ran out, or something has failed or was refused.
use Rattle.std.specs.Prelude.{◌≡◌, ◌⊎◌, ℕ, Bool, true, false, List, [], ◌∷◌, Option, Some, Err, IsTrue}
use Rattle.outside.specs.declared.tells.Tells.{Ghosts as Telling}
use Rattle.outside.specs.Faults.{Rose}
use Rattle.outside.specs.Told.{behind, in_front}
use Rattle.repo_config.specs.Source.{IsReadFrom}
use Rattle.repo_config.specs.declared.source.SourceFault.TheVariants.{Refused}
use Rattle.repo_config.specs.declared.faults.SettingsFault.{SettingsFault}
use Rattle.repo_core.specs.declared.faults.StartFault.{StartFault}
use Rattle.repo_core.specs.declared.faults.StartFault.TheVariants.{NotOurs, Row, Damaged}
use Rattle.run_lines.specs.Lines.{memory_line, refusal_line}
use Rattle.run_lines.specs.Printing.{Output, Prints}
use Rattle.repo_run.specs.Begun.{RefusesStart, StartFails}
use Rattle.repo_run.specs.Surroundings.{DeskState, View}

-- memory ran out: 8, with its line, or a front of it where the output failed
abbrev pub IsStarved : Output → Output → ℕ → Type 0
IsStarved old new status = Prints memory_line old new × (status ≡ 8)

-- what a start finds that stands against it: records that are another's or do not read, or a damaged file
abbrev pub is_found : StartFault → Bool
is_found NotOurs = true
is_found (Row frame at) = true
is_found (Damaged damage) = true
is_found fault = false

-- the first connection that the port had left, and as it was given back
abbrev pub IsGivenBack : {X : Type 0} → DeskState X → DeskState X → X → X → Type 0
IsGivenBack {X} old new link link' =
    ((left : Option (List X)) × (old.left ≡ in_front (link ∷ []) left)) × (new.given_back ≡ behind old.given_back (link' ∷ []))

-- The status by what has failed: a count of faults rose, the settings were refused, or the start found something, which a line tells.
pub data HasFailed {X : Type 0} (links : Telling X) (old new : View (DeskState X)) (status : ℕ) : Type 0 where
  settings_failed : Rose old.source.faults new.source.faults → status ≡ 6 → HasFailed links old new status
  settings_refused : (refusal : SettingsFault) (line : List ℕ) → IsReadFrom old.source.left (Err (Refused refusal)) → refusal_line refusal ≡ Some line → Prints line old.out new.out
      → status ≡ 3 → HasFailed links old new status
  records_failed : Rose old.records.faults new.records.faults → status ≡ 4 → HasFailed links old new status
  blobs_failed : Rose old.place.resources.blobs.faults new.place.resources.blobs.faults → status ≡ 4 → HasFailed links old new status
  start_refused : (fault : StartFault) → IsTrue (is_found fault) → StartFails old.records new.records old.place.resources.blobs new.place.resources.blobs fault → RefusesStart fault old.out new.out status
      → (status ≡ 4) ⊎ (status ≡ 5) → HasFailed links old new status
  port_failed : Rose old.place.port_faults new.place.port_faults → status ≡ 6 → HasFailed links old new status
  source_failed : (link link' : X) → IsGivenBack old.place new.place link link' → Rose (links.read_faults link) (links.read_faults link') → status ≡ 6 → HasFailed links old new status
  sink_failed : (link link' : X) → IsGivenBack old.place new.place link link' → Rose (links.write_faults link) (links.write_faults link') → status ≡ 7 → HasFailed links old new status
  out_failed : Rose old.out.faults new.out.faults → status ≡ 7 → HasFailed links old new status
