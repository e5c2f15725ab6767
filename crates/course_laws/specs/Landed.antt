-- What a stream lands is what it fetched: each landing is of an exchange with the remote that was made before it.
use Rattle.std.specs.Prelude.{◌≡◌, ◌⊎◌, ◌≤◌, ℕ, List, Option, Some}
use Rattle.std.specs.List.{AllByRecursion}
use Rattle.fetch_plan.specs.declared.Outcome.{Outcome as Came}
use Rattle.fetch_plan.specs.declared.Outcome.TheVariants as came
use Rattle.fetch_plan.specs.declared.Plan.{Plan}
use Rattle.outside.specs.Told.{IsWhereTold, behind}
use Rattle.outside_remote.specs.Exchanges.{Sees}
use Rattle.outside_remote.specs.declared.exchange.Exchange.{Exchange}
use Rattle.remote_fetch.specs.Fetching.{IsFetched}
use Rattle.remote_fetch.specs.Got.{IsAgreed}
use Rattle.remote_fetch.specs.declared.fetching.Checked.{Checked}
use Rattle.remote_fetch.specs.declared.contents.Content.{Content}
use Rattle.remote_fetch.specs.declared.contents.Content.TheVariants as content
use Rattle.repo_model.specs.Command.{Command, land}
use Rattle.repo_model.specs.Data.{Blob}
use Rattle.repo_model.specs.History.{Entry}
use Rattle.repo_model.specs.State.{State, files_of, rows_of}
use Rattle.repo_laws.specs.Looks.{IsRowOf}
use Rattle.repo_course.specs.Serving.{print_of}
use Rattle.course_laws.specs.Duties.{landing_of}

-- between what these two saw exchanges were made, as far as they are told, and the count of faults did not fall
pub record GoesOn (old new : Sees) : Type 0 where
  pub faults : old.faults ≤ new.faults
  pub made : (more : List Exchange) × (new.made ≡ behind old.made more)

-- the stored file has the bytes that were fetched
abbrev pub IsFileOf : Came Content → Option Blob → Type 0
IsFileOf (came.Got (content.File checked)) (Some blob) = (blob.print ≡ print_of checked.bytes) × IsWhereTold blob.bytes checked.bytes
IsFileOf outcome stored = Unit {0}

-- The plan was fetched by exchanges that lie between what was seen of the remote first and now, and this is what came of it: of a
-- file that was stored, with its bytes.
pub record WasFetched (plan : Plan) (outcome : Came Content) (stored : Option Blob) (first now : Sees) : Type 0 where
  pub before : Sees
  pub behind_it : Sees
  pub fetched : IsFetched plan outcome before behind_it
  pub since : GoesOn first before
  pub later : GoesOn behind_it now
  pub file : IsFileOf outcome stored

-- so was what is landed
abbrev pub LandsWhatCame : Sees → Sees → Command → Type 0
LandsWhatCame first now (land plan outcome) =
    (came : Came Content) × (stored : Option Blob) × WasFetched plan came stored first now × (landing_of came stored ≡ Some outcome)
LandsWhatCame first now command = Unit {0}

abbrev pub AllLandWhatCame : Sees → Sees → List Entry → Type 0
AllLandWhatCame first now entries = AllByRecursion (λ (e : Entry). LandsWhatCame first now e.command) entries

-- The file of a proxy's path with this blob was fetched between what was seen of the remote first and now: a side file of the remote said
-- the digest of the bytes, which the blob has.
pub record FileWasFetched (id path : List ℕ) (blob : Blob) (first now : Sees) : Type 0 where
  pub plan : Plan
  pub of_proxy : plan.proxy ≡ id
  pub at : plan.path ≡ path
  pub checked : Checked
  pub before : Sees
  pub behind_it : Sees
  pub agreed : IsAgreed plan checked before behind_it
  pub since : GoesOn first before
  pub later : GoesOn behind_it now
  pub print : blob.print ≡ print_of checked.bytes
  pub bytes : IsWhereTold blob.bytes checked.bytes

-- a row of a hosted repository then, or one that a proxy kept first, or one that was fetched for the proxy since
abbrev pub HasOrigin : State → State → List ℕ → List ℕ → Blob → Sees → Sees → Type 0
HasOrigin start then_is id path blob first now =
    IsRowOf (rows_of id then_is) path blob ⊎ IsRowOf (files_of id start) path blob ⊎ FileWasFetched id path blob first now
