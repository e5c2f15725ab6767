-- A pass over the repositories: each unlists what it does not keep, what has been unlisted for longer than the grace period is collected, and the garbage is removed.
use Rattle.std.specs.Prelude.{◌≡◌, ℕ, false, List, [], ◌∷◌, ◌++◌, length, map, min, sum, Result, Ok, Err}
use Rattle.outside.specs.Blobs.{Shelf, without_blob}
use Rattle.outside.specs.Faults.{Rose, last_count}
use Rattle.repo_model.specs.Command.{Command, unlist, collect}
use Rattle.repo_model.specs.History.{Entry}
use Rattle.repo_model.specs.Reply.{Reply, unlisted, collected, store_fault, is_unlist_reply, is_collect_reply}
use Rattle.repo_model.specs.Settings.{Settings}
use Rattle.repo_routes.specs.Judge.{hosted_ids}
use Rattle.repo_course.specs.declared.outcomes.CleanFault.{CleanFault}
use Rattle.repo_course.specs.declared.outcomes.CleanFault.TheVariants.{StoreFault, BlobFault, NoMemory}
use Rattle.repo_course.specs.declared.outcomes.Cleaned.{Cleaned}

-- what a store of blobs tells, and how often it has failed
pub record Store : Type 0 where
  pub shelf : Shelf
  pub faults : ℕ

abbrev pub store : Shelf → ℕ → Store
store shelf faults = record { shelf = shelf; faults = faults }

-- these blobs are removed, one after another
abbrev pub without_blobs : List ℕ → Shelf → Shelf
without_blobs [] shelf = shelf
without_blobs (blob ∷ blobs) shelf = without_blobs blobs (without_blob blob shelf)

-- what entries ask, and what they are answered
abbrev pub commands_in : List Entry → List Command
commands_in entries = map (λ (e : Entry). e.command) entries

abbrev pub replies_in : List Entry → List Reply
replies_in entries = map (λ (e : Entry). e.reply) entries

-- why a command was not done; any reply that it can't get counts as out of memory
abbrev pub cause_of : Reply → CleanFault
cause_of store_fault = StoreFault
cause_of reply = NoMemory

-- how many rows were unlisted, or why none were
abbrev pub SaysUnlisted : Reply → Result ℕ CleanFault → Type 0
SaysUnlisted reply (Ok count) = reply ≡ unlisted count
SaysUnlisted reply (Err fault) = (is_unlist_reply reply ≡ false) × (fault ≡ cause_of reply)

-- the garbage that is given out, or why none is
abbrev pub SaysCollected : Reply → Result (List ℕ) CleanFault → Type 0
SaysCollected reply (Ok blobs) = (expired : ℕ) × (reply ≡ collected expired blobs)
SaysCollected reply (Err fault) = (is_collect_reply reply ≡ false) × (fault ≡ cause_of reply)

-- Each repository is asked once, in this order, and so many rows were unlisted in all (a count stands still at its type's
-- end); or the last that was asked did not do it, and the rest are not asked.
abbrev pub Unlists : List (List ℕ) → List Entry → Result ℕ CleanFault → Type 0
Unlists repos entries (Ok count) =
    (counts : List ℕ) × (commands_in entries ≡ map unlist repos) × (replies_in entries ≡ map unlisted counts)
    × (count ≡ min (sum counts) last_count)
Unlists repos entries (Err fault) =
    (asked rest : List (List ℕ)) × (counts : List ℕ) × (reply : Reply) × (repos ≡ asked ++ rest)
    × (commands_in entries ≡ map unlist asked) × (replies_in entries ≡ map unlisted counts ++ reply ∷ [])
    × SaysUnlisted reply (Err fault)

-- What is garbage is asked for.
abbrev pub Collects : Entry → Result (List ℕ) CleanFault → Type 0
Collects entry result = (entry.command ≡ collect) × SaysCollected entry.reply result

-- a removal that was not done
abbrev pub FailsBy : CleanFault → Store → Store → Type 0
FailsBy StoreFault old new = ⊥
FailsBy BlobFault old new = (faults : ℕ) × Rose old.faults faults × (new ≡ record old { faults = faults })
FailsBy NoMemory old new = new ≡ old

-- Exactly these blobs are removed, in this order; or those up to the first that is not.
abbrev pub Removes : List ℕ → Store → Store → Result ℕ CleanFault → Type 0
Removes blobs old new (Ok count) = (count ≡ length blobs) × (new ≡ record old { shelf = without_blobs blobs old.shelf })
Removes blobs old new (Err fault) =
    (gone rest : List ℕ) × (blob : ℕ) × (blobs ≡ gone ++ blob ∷ rest)
    × FailsBy fault (record old { shelf = without_blobs gone old.shelf }) new

abbrev pub cleaned : ℕ → Result ℕ CleanFault → Result Cleaned CleanFault
cleaned count (Ok removed) = Ok (record { unlisted = count; removed = removed })
cleaned count (Err fault) = Err fault

-- A pass, by how far it comes: a repository does not unlist, nothing is collected, or what is collected is removed.
pub data Passes (repos : List (List ℕ)) (entries : List Entry) (old new : Store) (result : Result Cleaned CleanFault) : Type 0 where
  not_unlisted : (fault : CleanFault) → Unlists repos entries (Err fault) → new ≡ old → result ≡ Err fault → Passes repos entries old new result
  not_collected : (first : List Entry) (last : Entry) (count : ℕ) (fault : CleanFault) → entries ≡ first ++ last ∷ []
      → Unlists repos first (Ok count) → Collects last (Err fault) → new ≡ old → result ≡ Err fault → Passes repos entries old new result
  removing : (first : List Entry) (last : Entry) (count : ℕ) (blobs : List ℕ) (removed : Result ℕ CleanFault) → entries ≡ first ++ last ∷ []
      → Unlists repos first (Ok count) → Collects last (Ok blobs) → Removes blobs old new removed → result ≡ cleaned count removed
      → Passes repos entries old new result

-- the pass over all hosted repositories, in the order of the settings
abbrev pub PassesAll : Settings → List Entry → Store → Store → Result Cleaned CleanFault → Type 0
PassesAll settings entries old new result = Passes (hosted_ids settings) entries old new result
