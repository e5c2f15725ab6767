-- A course has an answer for each reply that its commands can get, and for all that its I/O actions may come to.
use Rattle.std.specs.Prelude.{◌≡◌, ◌≢◌}
use Rattle.repo_model.specs.History.{Entry, Fits}
use Rattle.repo_model.specs.Reply.{no_memory}
use Rattle.repo_model.specs.Settings.{Settings}
use Rattle.repo_model.specs.State.{State}
use Rattle.repo_laws.specs.Sound.{Sound}
use Rattle.repo_course.specs.Course.{Course, IoAction, Outcome, asks, does, says, stops}
use Rattle.repo_course.specs.Meets.{Gives}
use Rattle.repo_course.specs.declared.response.Response.{Response}
use Rattle.repo_course.specs.declared.response.Response.TheVariants.{NoMemory}
use Rattle.repo_course.specs.IoActions.{Sequel, ends_by, speaks, sequel}

-- it does not say that memory ran out
abbrev pub IsAnswer : Response → Type 0
IsAnswer NoMemory = ⊥
IsAnswer said = Unit {0}

-- memory was not wanted for the I/O action, since its outcome is not followed by that
abbrev pub HadRoomBy : Sequel → Type 0
HadRoomBy (ends_by (speaks said)) = IsAnswer said
HadRoomBy next = Unit {0}

abbrev pub HadRoom : (io_action : IoAction) → Outcome io_action → Type 0
HadRoom io_action outcome = HadRoomBy (sequel io_action outcome)

-- Unless memory ran out, the course does not end out of memory: not for any reply that a command gets in any state in order in
-- which it may be asked, and not for any outcome of its I/O actions.
abbrev pub IsComplete : Settings → Course → Type 0
IsComplete settings (asks command next) =
    (s : State) (e : Entry) → Sound settings s → Fits settings s e → e.command ≡ command → e.reply ≢ no_memory → IsComplete settings (next e.reply)
IsComplete settings (does io_action next) = (outcome : Outcome io_action) → HadRoom io_action outcome → Gives io_action outcome → IsComplete settings (next outcome)
IsComplete settings (says said mode) = IsAnswer said
IsComplete settings (stops end) = Unit {0}
