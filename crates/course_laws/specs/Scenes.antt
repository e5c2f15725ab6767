-- What commands and bodies come to where nothing fails.
use Rattle.std.specs.Prelude.{ℕ, max, min, length, if◌then◌else◌, List, [], ◌∷◌, ◌++◌, Some, Ok, Err, unwrap_or, nat_lt, map, sum_by, take}
use Rattle.std.specs.Option.{option_map_or}
use Rattle.fetch_plan.specs.declared.Outcome.TheVariants as came
use Rattle.repo_model.specs.Command.{Command, unlist, collect}
use Rattle.repo_model.specs.Data.{Blob}
use Rattle.repo_model.specs.Reply.{Reply, unlisted, collected}
use Rattle.repo_model.specs.Settings.{Settings}
use Rattle.repo_course.specs.Answers.{file_answer}
use Rattle.repo_course.specs.Course.{Fetch, Body, Stored}
use Rattle.repo_course.specs.declared.mode.ResponseMode.{ResponseMode}
use Rattle.http_wire.specs.Answer.{shown}
use Rattle.outside.specs.Moments.{Moments}
use Rattle.outside.specs.Faults.{last_count}
use Rattle.repo_model.specs.History.{Entry, after, latest_moment}
use Rattle.repo_model.specs.State.{State}
use Rattle.repo_model.specs.Turn.{turn}
use Rattle.repo_course.specs.declared.outcomes.Cleaned.{Cleaned}
use Rattle.repo_course.specs.declared.outcomes.Took.TheVariants.{Torn}
use Rattle.repo_course.specs.Serving.{print_of}

-- the machine's state, the bytes not yet used, and what the fetches to come will come to, in their order
pub record Scene : Type 0 where
  pub state : State
  pub input : List ℕ
  pub fetched : List Fetch

-- the moment of the next turn, where the clock tells it
abbrev pub moment_now : State → ℕ
moment_now s = option_map_or (λ (clock : Moments). max s.last (min latest_moment clock.next)) s.clock s.last

-- the entry of a command where nothing fails
abbrev pub due_entry : Settings → State → Command → Entry
due_entry settings s command = record {
  command = command;
  moment = moment_now s;
  reply = (turn settings s (moment_now s) command).reply;
  faults = s.faults;
}

-- the bytes of a body, or that it is torn
abbrev pub body_of : ℕ → List ℕ → Body
body_of count input = if nat_lt (length input) count then Err Torn else Ok (take count input)

-- the body as a blob
abbrev pub blob_of : ℕ → List ℕ → Blob
blob_of draft body = record { number = draft; bytes = Some body; print = print_of body }

abbrev pub taken_body : ℕ → ℕ → List ℕ → Stored
taken_body draft count input = if nat_lt (length input) count then Err Torn else Ok (blob_of draft (take count input))

-- the entries of commands, one after another, where nothing fails
abbrev pub due_entries : Settings → State → List Command → List Entry
due_entries settings s [] = []
due_entries settings s (command ∷ commands) =
    let e = due_entry settings s command in e ∷ due_entries settings (after settings s e) commands

-- how many rows a reply says were unlisted, and how many blobs it gives out to be removed
abbrev pub unlisted_by : Reply → ℕ
unlisted_by (unlisted n) = n
unlisted_by reply = 0

abbrev pub garbage_by : Reply → ℕ
garbage_by (collected expired blobs) = length blobs
garbage_by reply = 0

-- a pass of these entries, where nothing fails
abbrev pub done_by : List Entry → Cleaned
done_by entries = record {
  unlisted = min (sum_by (λ (e : Entry). unlisted_by e.reply) entries) last_count;
  removed = sum_by (λ (e : Entry). garbage_by e.reply) entries;
}

-- the entries of a pass over these repositories, where nothing fails
abbrev pub pass_entries : Settings → State → List (List ℕ) → List Entry
pass_entries settings s repos = due_entries settings s (map unlist repos ++ collect ∷ [])

-- what the next fetch comes to, and what those after it do; where nothing more is told the remote fails
abbrev pub next_fetched : List Fetch → Fetch
next_fetched [] = Some came.Fault
next_fetched (outcome ∷ more) = outcome

abbrev pub later_fetched : List Fetch → List Fetch
later_fetched [] = []
later_fetched (outcome ∷ more) = more

-- the bytes of a file's answer
abbrev pub file_bytes : Blob → ResponseMode → List ℕ
file_bytes blob mode = shown (file_answer blob mode) ++ (if mode.head_only then [] else unwrap_or blob.bytes [])
