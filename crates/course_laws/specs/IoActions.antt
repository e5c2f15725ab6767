-- The I/O actions of a course: what each must hold of where the course stands, what it makes of that, and what it comes to where nothing fails.
use Rattle.std.specs.Prelude.{◌≡◌, ℕ, ◌+◌, length, Bool, true, false, List, [], Option, Some, None, IsSome, Ok, Err, drop}
use Rattle.fetch_plan.specs.declared.Outcome.TheVariants as came
use Rattle.remote_fetch.specs.declared.contents.Content.TheVariants as content
use Rattle.repo_model.specs.Data.{Blob}
use Rattle.repo_model.specs.Settings.{Settings}
use Rattle.repo_course.specs.declared.mode.ResponseMode.{ResponseMode}
use Rattle.repo_course.specs.declared.outcomes.Took.TheVariants as took
use Rattle.http_wire.specs.Answer.{continue_bytes}
use Rattle.repo_model.specs.History.{end as state_after}
use Rattle.repo_course.specs.declared.outcomes.Continued.TheVariants.{Written}
use Rattle.repo_course.specs.declared.outcomes.Sent.TheVariants.{Whole as whole}
use Rattle.repo_course.specs.IoActions.{Close, IoAction, Fetch, Outcome, Sequel, invite, take_body, read_body, send_file, clean_all, fetch, store_fetched, goes_on, by_its_text, ends_by, sequel}
use Rattle.course_laws.specs.Stands.{Stand, IsReady, HoldsNothing}
use Rattle.course_laws.specs.Scenes.{Scene, body_of, blob_of, taken_body, done_by, pass_entries, next_fetched, later_fetched, file_bytes}

-- What it must hold for an I/O action beside that no end is due: the body is invited where the client waits for that, and read by its length; the
-- file that was lent is sent in the mode of the request, and under its lease; the pass goes over the repositories that are asked for;
-- and what is planned is fetched once, of which a file is stored under the draft.
abbrev pub IsInPlace : ResponseMode → IoAction → Stand → Type 0
IsInPlace mode invite s = s.waits ≡ true
IsInPlace mode (take_body n count) s = (s.waits ≡ false) × (s.unread ≡ Some count) × (s.draft ≡ Some n)
IsInPlace mode (read_body count) s = (s.waits ≡ false) × (s.unread ≡ Some count)
IsInPlace mode (send_file blob own) s = IsReady s × (s.lent ≡ Some blob) × IsSome s.lease × (own ≡ mode)
IsInPlace mode (clean_all repos) s = (s.unread ≡ None) × (s.to_clean ≡ Some repos) × (s.waits ≡ false) × HoldsNothing s
IsInPlace mode (fetch plan) s = IsReady s × (s.plan ≡ Some plan) × (s.draft ≡ plan.draft) × (s.came ≡ None)
IsInPlace mode (store_fetched n checked) s = IsReady s × (s.draft ≡ Some n) × (s.came ≡ Some (came.Got (content.File checked)))

abbrev pub MayDo : ResponseMode → IoAction → Stand → Type 0
MayDo mode io_action s = (s.due ≡ None) × IsInPlace mode io_action s

-- how many commands it asks at most, and how many may follow it
abbrev pub asked_by : IoAction → ℕ
asked_by (clean_all repos) = length repos + 1
asked_by io_action = 0

abbrev pub left_by : IoAction → ℕ → ℕ
left_by (clean_all repos) n = 0
left_by io_action n = n

-- What an outcome makes of where it stands. What is not named stays: an I/O action changes neither draft nor lease.
abbrev pub stored_done : (io_action : IoAction) → Outcome io_action → Option Blob → Option Blob
stored_done (take_body n count) (Ok blob) held = Some blob
stored_done io_action outcome held = held

-- the body is read, but where some of it is unread after a fault
abbrev pub unread_done : (io_action : IoAction) → Outcome io_action → Option ℕ → Option ℕ
unread_done (take_body n count) (Err (took.BlobFault true)) unread = unread
unread_done (take_body n count) stored unread = None
unread_done (read_body count) body unread = None
unread_done io_action outcome unread = unread

abbrev pub waits_done : IoAction → Bool → Bool
waits_done invite waits = false
waits_done io_action waits = waits

abbrev pub to_clean_done : IoAction → Option (List (List ℕ)) → Option (List (List ℕ))
to_clean_done (clean_all repos) asked = None
to_clean_done io_action asked = asked

abbrev pub came_done : (io_action : IoAction) → Outcome io_action → Fetch → Fetch
came_done (fetch plan) outcome came = outcome
came_done io_action outcome came = came

abbrev pub kept_done : (io_action : IoAction) → Outcome io_action → Option Blob → Option Blob
kept_done (fetch plan) outcome kept = None
kept_done (store_fetched n checked) (Ok blob) kept = Some blob
kept_done io_action outcome kept = kept

-- what follows an outcome is due, by what the bytes of a small body say where they are read
abbrev pub due_behind : (List ℕ → Option Close) → Sequel → Option Close → Option Close
due_behind by_text goes_on due = due
due_behind by_text (by_its_text bytes) due = by_text bytes
due_behind by_text (ends_by close) due = Some close

abbrev pub due_done : (List ℕ → Option Close) → (io_action : IoAction) → Outcome io_action → Option Close → Option Close
due_done by_text io_action outcome due = due_behind by_text (sequel io_action outcome) due

abbrev pub stand_done : (List ℕ → Option Close) → (io_action : IoAction) → Outcome io_action → Stand → Stand
stand_done by_text io_action outcome s = record s {
  stored = stored_done io_action outcome s.stored;
  unread = unread_done io_action outcome s.unread;
  waits = waits_done io_action s.waits;
  to_clean = to_clean_done io_action s.to_clean;
  came = came_done io_action outcome s.came;
  kept = kept_done io_action outcome s.kept;
  due = due_done by_text io_action outcome s.due;
}

-- ---- what is played

-- what an I/O action comes to where nothing fails: its outcome, the bytes that it writes, and the scene after it
abbrev pub done_at : Settings → (io_action : IoAction) → Scene → Outcome io_action × List ℕ × Scene
done_at settings invite scene = (Written, continue_bytes, scene)
done_at settings (take_body n count) scene = (taken_body n count scene.input, [], record scene { input = drop count scene.input })
done_at settings (read_body count) scene = (body_of count scene.input, [], record scene { input = drop count scene.input })
done_at settings (send_file blob mode) scene = (whole, file_bytes blob mode, scene)
done_at settings (clean_all repos) scene =
    let entries = pass_entries settings scene.state repos in
    (Ok (done_by entries), [], record scene { state = state_after settings scene.state entries })
done_at settings (fetch plan) scene = (next_fetched scene.fetched, [], record scene { fetched = later_fetched scene.fetched })
done_at settings (store_fetched n checked) scene = (Ok (blob_of n checked.bytes), [], scene)
