-- The steps of a course as it is followed: the commands that it asked, and the I/O actions that it did, each with what came of it.
use Rattle.std.specs.Prelude.{◌≡◌, ℕ, List, [], ◌∷◌, ◌++◌, Option}
use Rattle.repo_model.specs.History.{Entry}
use Rattle.repo_model.specs.Reply.{Reply}
use Rattle.repo_course.specs.Course.{Close, Course, IoAction, Outcome, asks, does}
use Rattle.repo_course.specs.Serving.{Does, Outside}
use Rattle.course_laws.specs.Duties.{Duty, MayAsk, MayDo, Rounds, Stand, due_after, due_done, rounds_after, stand_after, stand_done}

-- a command by its entry; or an I/O action, its outcome, the entries of the commands that it asked, and what is seen after it
pub data Step : Type 0 where
  asked : Entry → Step
  did : (io_action : IoAction) → Outcome io_action → List Entry → Outside → Step

-- the entries that these steps made
abbrev pub made : List Step → List Entry
made [] = []
made (asked e ∷ steps) = e ∷ made steps
made (did io_action outcome mine seen ∷ steps) = mine ++ made steps

-- what a look may still come to after a step, and after several
abbrev pub rounds_by : Step → Rounds → Rounds
rounds_by (asked e) r = rounds_after e.command r
rounds_by (did io_action outcome mine seen) r = r

abbrev pub rounds_behind : List Step → Rounds → Rounds
rounds_behind [] r = r
rounds_behind (step ∷ steps) r = rounds_behind steps (rounds_by step r)

-- what is due after a step, where this was due before it
abbrev pub due_by : (List ℕ → Option Close) → Rounds → Step → Option Close → Option Close
due_by by_text r (asked e) due = due_after r e.command e.reply due
due_by by_text r (did io_action outcome mine seen) due = due_done by_text io_action outcome due

-- These are steps of a course, one after another: each is its next one and may be made where it stands, and an I/O action did what is seen
-- after it. They lead from a course, where it stands and what is seen to these.
abbrev pub Leads : Type 0 → Duty → List Step → Course → Stand → Outside → Course → Stand → Outside → Type 0
Leads tells duty [] c s old d t new = (d ≡ c) × (t ≡ s) × (new ≡ old)
Leads tells duty (asked e ∷ steps) c s old d t new =
    (next : Reply → Course) × (c ≡ asks e.command next) × MayAsk e.command s
    × Leads tells duty steps (next e.reply) (stand_after e.command e.reply s) old d t new
Leads tells duty (did io_action outcome mine seen ∷ steps) c s old d t new =
    (next : Outcome io_action → Course) × (c ≡ does io_action next) × MayDo duty.mode io_action s × Does tells io_action outcome mine old seen
    × Leads tells duty steps (next outcome) (stand_done duty.by_text io_action outcome s) seen d t new
