-- Where the files come from that a server's look answers.
use Rattle.std.specs.Prelude.{◌≡◌, ◌⊎◌, ℕ, List, [], ◌∷◌, ◌++◌}
use Rattle.repo_model.specs.Command.{look}
use Rattle.repo_model.specs.Data.{Blob}
use Rattle.repo_model.specs.History.{Entry, end}
use Rattle.repo_model.specs.Reply.{file}
use Rattle.repo_model.specs.Settings.{Settings}
use Rattle.repo_model.specs.State.{State, files_of, rows_of}
use Rattle.repo_laws.specs.Looks.{IsAsked, IsRowOf}
use Rattle.course_laws.specs.Landed.{FileWasFetched}
use Rattle.run_desks.specs.Seen.{Looks}

-- one of these desks fetched the file for a proxy, between what was seen of its remotes first and as it came back
abbrev pub FetchedAtDesks : {L P D : Type 0} → Looks L P D → List D → List D → List ℕ → List ℕ → Blob → Type 0
FetchedAtDesks looks [] backs id path blob = ⊥
FetchedAtDesks looks (desk ∷ desks) [] id path blob = ⊥
FetchedAtDesks looks (desk ∷ desks) (back ∷ backs) id path blob =
    FileWasFetched id path blob (looks.resources desk).remote (looks.resources back).remote ⊎ FetchedAtDesks looks desks backs id path blob

-- Each file that is answered is a row of a hosted repository that was asked; or it is of a proxy that was asked, which kept it at the
-- start, or for which one of the desks fetched it.
abbrev pub AreFilesFetched : {L P D : Type 0} → Looks L P D → Settings → State → List Entry → List D → List D → Type 0
AreFilesFetched looks settings start entries desks backs =
    (before later : List Entry) (e : Entry) (id path tried : List ℕ) (lease : ℕ) (blob : Blob) → entries ≡ before ++ e ∷ later
    → e.command ≡ look id path tried → e.reply ≡ file lease blob
    → (one : List ℕ) × IsAsked settings id one
    × (IsRowOf (rows_of one (end settings start before)) path blob ⊎ IsRowOf (files_of one start) path blob ⊎ FetchedAtDesks looks desks backs one path blob)
