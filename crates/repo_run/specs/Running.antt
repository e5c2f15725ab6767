-- What a run does that serves no more than one connection, by what its words ask for.
use Rattle.std.specs.Prelude.{◌≡◌, ◌⊎◌, ℕ, List}
use Rattle.repo_run.specs.declared.actions.Action.{Action}
use Rattle.repo_run.specs.declared.actions.Action.TheVariants.{Replay, Check, Clean, Serve, Demo, Nothing}
use Rattle.run_desks.specs.Seen.{RunResources, Looks, with_blobs}
use Rattle.run_lines.specs.Lines.{memory_line, words_line}
use Rattle.run_lines.specs.Printing.{Prints}
use Rattle.store_check.specs.Checking.{ChecksBy}
use Rattle.repo_run.specs.Begun.{LeavesRecords}
use Rattle.repo_run.specs.Clean.{CleansBy}
use Rattle.repo_run.specs.Demo.{Demonstrates}
use Rattle.repo_run.specs.Replay.{ReplaysBy}
use Rattle.repo_run.specs.Surroundings.{DeskState, FirstOnly, View, desk_state, placed}

-- a check is made of the store of a desk, of which nothing changed but its count of faults
abbrev pub ChecksDesk : {X : Type 0} → View (DeskState X) → View (DeskState X) → ℕ → Type 0
ChecksDesk old new status =
    let before = old.place.resources.blobs in
    let after = new.place.resources.blobs in
    ChecksBy old.source new.source old.records new.records.faults before.shelf before.faults after.faults old.out new.out status
    × (new.place ≡ record old.place { resources = with_blobs (record before { faults = after.faults }) old.place.resources })
    × (new.records.tables ≡ old.records.tables) × (new.clock ≡ old.clock)

-- the words are refused, or there was no memory for reading them; and nothing is done
abbrev pub RefusesWords : {D : Type 0} → View D → View D → ℕ → Type 0
RefusesWords old new status =
    ((Prints words_line old.out new.out × (status ≡ 2)) ⊎ (Prints memory_line old.out new.out × (status ≡ 8)))
    × (new.source ≡ old.source) × (new.place ≡ old.place) × LeavesRecords old.records new.records × (new.clock ≡ old.clock)

-- What is done with one desk and the cleaner. A server's words are refused too: this run serves no more than one connection.
abbrev pub Acts : {L P D : Type 0} → Looks L P D → Action → View (RunResources D) → View (RunResources D) → ℕ → Type 0
Acts looks Replay old new status =
    ReplaysBy looks.tells looks.link (placed (desk_state looks old.place.desks) old) (placed (desk_state looks new.place.desks) new) status
    × (new.place.cleaner ≡ old.place.cleaner)
Acts looks Check old new status =
    ChecksDesk (placed (desk_state looks old.place.desks) old) (placed (desk_state looks new.place.desks) new) status × (new.place.cleaner ≡ old.place.cleaner)
Acts looks Clean old new status =
    CleansBy (placed old.place.cleaner.blobs old) (placed new.place.cleaner.blobs new) status
    × (new.place.desks ≡ old.place.desks) × (new.place.cleaner.pauses ≡ old.place.cleaner.pauses)
Acts looks (Demo from calls) old new status =
    Demonstrates looks.tells from calls (placed (desk_state looks old.place.desks) old) (placed (desk_state looks new.place.desks) new) status
    × (new.source ≡ old.source) × (new.place.cleaner ≡ old.place.cleaner)
Acts looks Serve old new status = RefusesWords old new status
Acts looks Nothing old new status = RefusesWords old new status

-- one desk of a run, with its cleaner
abbrev pub at_desk : {D E : Type 0} → E → View (RunResources D) → View (RunResources E)
at_desk desk v = placed (record { desks = desk; cleaner = v.place.cleaner }) v

-- it is done with the first of the desks, and the others stay
abbrev pub Runs : {L P D : Type 0} → Looks L P D → Action → View (RunResources (List D)) → View (RunResources (List D)) → ℕ → Type 0
Runs looks command old new status = FirstOnly (λ desk desk'. Acts looks command (at_desk desk old) (at_desk desk' new) status) old.place.desks new.place.desks
