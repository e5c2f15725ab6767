-- A demonstration: a repository is opened over what is recorded and stored and answers requests that are made of numbers, each over a connection of its own; lines tell how many were answered how.
use Rattle.std.specs.Prelude.{◌≡◌, ◌⊎◌, ℕ, zero, suc, ◌≤◌, Bool, nat_eq, List, [], ◌∷◌, ◌++◌, length, count_by, Some, codes}
use Rattle.std.specs.Fmt.{decimal}
use Rattle.std.specs.List.{AllByRecursion, starts_with}
use Rattle.demo_requests.specs.Numbers.{number_at}
use Rattle.demo_requests.specs.Requests.{request}
use Rattle.demo_requests.specs.Settings as demo
use Rattle.repo_core.specs.Whole.{Whole}
use Rattle.repo_core.specs.declared.faults.StartFault.{StartFault}
use Rattle.repo_course.specs.Cleaning.{Store}
use Rattle.repo_course.specs.declared.outcomes.End.{End}
use Rattle.repo_course.specs.declared.outcomes.End.TheVariants.{Closed}
use Rattle.repo_course.specs.Serving.{ServesStream}
use Rattle.repo_model.specs.declared.question.Finding.TheVariants.{Counts}
use Rattle.repo_model.specs.declared.question.Question.TheVariants.{Status}
use Rattle.repo_model.specs.Command.{ask}
use Rattle.repo_model.specs.History.{Entry}
use Rattle.repo_model.specs.Reply.{finds}
use Rattle.repo_model.specs.Settings.{Settings}
use Rattle.run_desks.specs.Seen.{DeskResources, with_blobs}
use Rattle.run_lines.specs.Lines.{line, memory_line}
use Rattle.run_lines.specs.Printing.{Output, Prints, PrintsPart, PrintsWhole}
use Rattle.repo_run.specs.declared.tally.Tally.{Tally}
use Rattle.repo_run.specs.Begun.{Begins, HoldsRecords, RefusesStart, StartFails}
use Rattle.repo_run.specs.FirstConnection.{Makes}
use Rattle.repo_run.specs.Surroundings.{Connection, DeskState, View, outside_of, outside_with, served}

-- a connection that gives these bytes and has taken none
abbrev pub giving : List ℕ → Connection
giving request = record { left = Some request; taken = Some []; read_faults = 0; write_faults = 0 }

-- what a connection has taken, and how its stream ended
pub record Answer : Type 0 where
  pub bytes : List ℕ
  pub ending : End

-- a request is served over a connection of its own, by a desk's things, and the connection has taken this answer
pub record IsAnswered (settings : Settings) (tells : Type 0) (request : List ℕ) (entries : List Entry) (old new : DeskResources) (answer : Answer) : Type 0 where
  pub connection : Connection
  pub taken : connection.taken ≡ Some answer.bytes
  pub held : List ℕ
  pub serves : ServesStream settings tells 1000 entries (outside_of (served (giving request) old)) (outside_with held (served connection new)) answer.ending

-- the first so many requests are answered, one after another, and these are the commands of all and their answers
abbrev pub AreAnswered : Settings → Type 0 → ℕ → ℕ → List Entry → DeskResources → DeskResources → List Answer → Type 0
AreAnswered settings tells from zero entries old new answers = (entries ≡ []) × (new ≡ old) × (answers ≡ [])
AreAnswered settings tells from (suc n) entries old new answers =
    (first last : List Entry) × (mid : DeskResources) × (before : List Answer) × (answer : Answer) × (entries ≡ first ++ last) × (answers ≡ before ++ answer ∷ [])
    × AreAnswered settings tells from n first old mid before
    × IsAnswered settings tells (request (number_at from (suc n)) (suc n)) last mid new answer

-- an answer with this status (RFC 9112 4), and how many there are among answers
abbrev pub has_status : List ℕ → List ℕ → Bool
has_status code answer = starts_with nat_eq answer (codes "HTTP/1.1 " ++ code)

abbrev pub with_status : List ℕ → List Answer → ℕ
with_status code answers = count_by (λ (a : Answer). has_status code a.bytes) answers

abbrev pub tally_of : List Answer → Tally
tally_of answers = record {
  ok = with_status (codes "200") answers;
  created = with_status (codes "201") answers;
  missing = with_status (codes "404") answers;
}

-- memory ran out for none of the answers, and each was taken to its end, after which its stream was closed
abbrev pub NoneStarved : List Answer → Type 0
NoneStarved answers = (with_status (codes "507") answers ≡ 0) × AllByRecursion (λ (a : Answer). a.ending ≡ Closed) answers

-- a line with a name and a number
abbrev pub figure : List ℕ → ℕ → List ℕ
figure name n = line (name ++ codes " " ++ decimal n)

abbrev pub answers_text : ℕ → Tally → List ℕ
answers_text requests tally = figure (codes "requests") requests ++ figure (codes "ok") tally.ok ++ figure (codes "created") tally.created ++ figure (codes "missing") tally.missing

abbrev pub rows_text : (calls files fading : ℕ) → List ℕ
rows_text calls files fading = figure (codes "calls") calls ++ figure (codes "files") files ++ figure (codes "fading") fading

abbrev pub summary : ℕ → Tally → (calls files fading : ℕ) → List ℕ
summary requests tally calls files fading = answers_text requests tally ++ rows_text calls files fading

-- the lines are printed, or a front of them, or there was no memory for them
abbrev pub TellsSummary : List ℕ → Output → Output → ℕ → Type 0
TellsSummary text old new ends =
    (PrintsWhole text old new × (ends ≡ 0)) ⊎ (PrintsPart text old new × (ends ≡ 7)) ⊎ (Prints memory_line old new × (ends ≡ 8))

-- A repository that begins over what is recorded and stored has answered the first n requests, and then made these entries. All are
-- one history, each entry once, in order, and no other.
pub record IsShown {X : Type 0} (tells : Type 0) (from n : ℕ) (old new : View (DeskState X)) (answers : List Answer) (last : List Entry) (calls : ℕ) : Type 0 where
  pub begun : Whole
  pub core : Whole
  -- the store as the start leaves it, and the desk's things in the end
  pub cleared : Store
  pub resources : DeskResources
  pub entries : List Entry
  pub begins : Begins demo.settings old.records old.place.resources.blobs cleared old.clock begun
  pub answered : AreAnswered demo.settings tells from n entries (with_blobs cleared old.place.resources) resources answers
  pub made : Makes begun (entries ++ last) core
  pub counted : calls ≡ length (entries ++ last)
  pub place : new.place ≡ record old.place { resources = resources }
  pub holds : HoldsRecords core new.records
  pub clock : new.clock ≡ core.state.clock

-- The repository was not opened; or memory ran out after some of the requests, or room for the answer to the last of them; or
-- all were answered whole, none because memory ran out, and then the repository said how many files it has.
pub data Demonstrates {X : Type 0} (tells : Type 0) (from requests : ℕ) (old new : View (DeskState X)) (ends : ℕ) : Type 0 where
  not_started : (fault : StartFault) (blobs : Store) → StartFails old.records new.records old.place.resources.blobs blobs fault
      → new.place ≡ record old.place { resources = with_blobs blobs old.place.resources } → new.clock ≡ old.clock → RefusesStart fault old.out new.out ends
      → Demonstrates tells from requests old new ends
  starved : (n : ℕ) (answers : List Answer) (last : List Entry) (calls : ℕ) → n ≤ requests → IsShown tells from n old new answers last calls
      → Prints memory_line old.out new.out → ends ≡ 8 → Demonstrates tells from requests old new ends
  told : (answers : List Answer) (asked : Entry) (calls files fading cached documents sessions : ℕ) → IsShown tells from requests old new answers (asked ∷ []) calls
      → NoneStarved answers → asked.command ≡ ask Status → asked.reply ≡ finds (Counts files fading cached documents sessions)
      → TellsSummary (summary requests (tally_of answers) calls files fading) old.out new.out ends → Demonstrates tells from requests old new ends
