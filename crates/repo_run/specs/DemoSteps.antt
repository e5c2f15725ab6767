-- The steps of a demonstration: a request that is answered, all of them, and what is told of them.
use Rattle.std.specs.Prelude.{◌≡◌, ◌⊎◌, ℕ, ◌+◌, ◌≤◌, Bool, false, if◌then◌else◌, List, Option, Some, None, Result, Ok, Err, codes}
use Rattle.outside_memory.specs.Memory.{SinkState}
use Rattle.outside_remote.specs.Exchanges.{Sees}
use Rattle.repo_core.specs.CoreTurn.{CoreTurn}
use Rattle.repo_core.specs.Whole.{Whole}
use Rattle.repo_course.specs.Cleaning.{Store}
use Rattle.repo_course.specs.declared.outcomes.End.TheVariants.{Closed}
use Rattle.repo_model.specs.declared.question.Finding.TheVariants.{Counts}
use Rattle.repo_model.specs.declared.question.Question.TheVariants.{Status}
use Rattle.repo_model.specs.Command.{ask}
use Rattle.repo_model.specs.History.{Entry}
use Rattle.repo_model.specs.Reply.{finds}
use Rattle.repo_model.specs.Settings.{Settings}
use Rattle.run_desks.specs.Seen.{DeskResources}
use Rattle.run_lines.specs.Lines.{memory_line}
use Rattle.run_lines.specs.Printing.{Output, Prints}
use Rattle.repo_run.specs.declared.tally.Files.{Files}
use Rattle.repo_run.specs.declared.tally.Tally.{Tally}
use Rattle.repo_run.specs.Demo.{Answer, AreAnswered, IsAnswered, NoneStarved, TellsSummary, has_status, summary, tally_of}
use Rattle.repo_run.specs.FirstConnection.{Makes}

abbrev pub resources : Store → Sees → DeskResources
resources blobs remote = record { blobs = blobs; remote = remote }

abbrev pub more : Bool → ℕ → ℕ
more has count = count + (if has then 1 else 0)

-- one more answer
abbrev pub counted : List ℕ → Tally → Tally
counted answer tally = record {
  ok = more (has_status (codes "200") answer) tally.ok;
  created = more (has_status (codes "201") answer) tally.created;
  missing = more (has_status (codes "404") answer) tally.missing;
}

-- a request is answered by these turns of the repository
abbrev pub Answers : Settings → Type 0 → List ℕ → Whole → Whole → DeskResources → DeskResources → Answer → Type 0
Answers settings tells request core core' old new answer =
    (entries : List Entry) × Makes core entries core' × IsAnswered settings tells request entries old new answer

-- memory ran out before it or after it, or room for its answer
abbrev pub IsCutShort : Settings → Type 0 → List ℕ → Whole → Whole → DeskResources → DeskResources → Type 0
IsCutShort settings tells request core core' old new =
    ((core' ≡ core) × (new ≡ old)) ⊎ ((answer : Answer) × Answers settings tells request core core' old new answer)

-- an answer that was taken to its end
abbrev pub whole : List ℕ → Answer
whole bytes = record { bytes = bytes; ending = Closed }

-- it is answered, to its end and not because memory ran out; or memory ran out
abbrev pub Steps : {E : Type 0} → Settings → Type 0 → List ℕ → Whole → Whole → DeskResources → DeskResources → Result SinkState E → Type 0
Steps settings tells request core core' old new (Ok sink) =
    Answers settings tells request core core' old new (whole sink.taken) × (has_status (codes "507") sink.taken ≡ false)
Steps settings tells request core core' old new (Err fault) = IsCutShort settings tells request core core' old new

-- the first n requests are
abbrev pub Shows : Settings → Type 0 → (from n : ℕ) → Whole → Whole → DeskResources → DeskResources → List Answer → Type 0
Shows settings tells from n core core' old new answers =
    (entries : List Entry) × Makes core entries core' × AreAnswered settings tells from n entries old new answers

-- some of them are
abbrev pub ShowsSome : Settings → Type 0 → (from requests : ℕ) → Whole → Whole → DeskResources → DeskResources → Type 0
ShowsSome settings tells from requests core core' old new =
    (n : ℕ) × (n ≤ requests) × (answers : List Answer) × Shows settings tells from n core core' old new answers

-- all are, and none because memory ran out; or some of them
abbrev pub ShowsAll : {E : Type 0} → Settings → Type 0 → (from requests : ℕ) → Whole → Whole → DeskResources → DeskResources → Result Tally E → Type 0
ShowsAll settings tells from requests core core' old new (Ok tally) =
    (answers : List Answer) × Shows settings tells from requests core core' old new answers × (tally ≡ tally_of answers) × NoneStarved answers
ShowsAll settings tells from requests core core' old new (Err fault) = ShowsSome settings tells from requests core core' old new

-- the repository says how many files it has; or memory ran out
abbrev pub AsksFiles : Whole → Whole → Option Files → Type 0
AsksFiles core core' (Some found) =
    (asked : Entry) × CoreTurn core.settings core asked core' × (asked.command ≡ ask Status)
    × ((cached documents sessions : ℕ) × (asked.reply ≡ finds (Counts found.files found.fading cached documents sessions)))
AsksFiles core core' None = (asked : Entry) × CoreTurn core.settings core asked core' × (asked.command ≡ ask Status)

-- the repository says it and the lines are printed; or the line of running out of memory is
abbrev pub TellsAll : ℕ → Tally → Whole → Whole → Output → Output → ℕ → Type 0
TellsAll requests tally core core' old new ends =
    (asked : Entry) × CoreTurn core.settings core asked core' × (asked.command ≡ ask Status)
    × (((files fading cached documents sessions : ℕ) × (asked.reply ≡ finds (Counts files fading cached documents sessions))
    × TellsSummary (summary requests tally core'.calls files fading) old new ends)
    ⊎ (Prints memory_line old new × (ends ≡ 8)))

abbrev pub TellsShown : {E : Type 0} → ℕ → Result Tally E → Whole → Whole → Output → Output → ℕ → Type 0
TellsShown requests (Ok tally) core core' old new ends = TellsAll requests tally core core' old new ends
TellsShown requests (Err fault) core core' old new ends = (core' ≡ core) × Prints memory_line old new × (ends ≡ 8)
