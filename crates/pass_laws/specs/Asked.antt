-- What a pass asks first, and where it runs out of memory.
use Rattle.std.specs.Prelude.{◌≡◌, ℕ, List, [], ◌∷◌, ◌++◌, Err}
use Rattle.repo_model.specs.Command.{Command, collect, unlist}
use Rattle.repo_model.specs.History.{Entry}
use Rattle.repo_model.specs.Reply.{collected, no_memory}
use Rattle.repo_laws.specs.Laws.{AnyByRecursion}
use Rattle.repo_course.specs.Cleaning.{Removes, Store}
use Rattle.repo_course.specs.declared.outcomes.CleanFault.TheVariants.{NoMemory}

abbrev pub first_asked : List (List ℕ) → Command
first_asked [] = collect
first_asked (repo ∷ repos) = unlist repo

-- a command of the pass was answered that memory runs out
abbrev pub WantsByCommand : List Entry → Type 0
WantsByCommand entries = AnyByRecursion (λ (e : Entry). e.reply ≡ no_memory) entries

-- Its last command gave blobs out, and memory ran out for the removal of one of these: those before it were removed, and no others.
abbrev pub WantsByRemoval : List Entry → Store → Store → Type 0
WantsByRemoval entries old new =
    (first : List Entry) × (last : Entry) × (expired : ℕ) × (blobs : List ℕ) × (entries ≡ first ++ last ∷ []) × (last.command ≡ collect)
    × (last.reply ≡ collected expired blobs) × Removes blobs old new (Err NoMemory)
