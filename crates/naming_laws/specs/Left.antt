-- Drafts and leases that were given in a history and not given back since.
use Rattle.std.specs.Prelude.{◌≡◌, ◌≢◌, ℕ, false, List, ◌∷◌, ◌++◌}
use Rattle.std.specs.List.{AllByRecursion}
use Rattle.repo_model.specs.Data.{Blob}
use Rattle.repo_model.specs.Command.{done}
use Rattle.repo_model.specs.Reply.{file}
use Rattle.repo_model.specs.History.{Entry}
use Rattle.repo_laws.specs.Replies.{spends, GivesDraft}

-- an entry gave the draft, and none after it put, staged or dropped it
abbrev pub IsDraftLeft : ℕ → List Entry → Type 0
IsDraftLeft n entries =
    (before rest : List Entry) × (e : Entry) × (entries ≡ before ++ e ∷ rest) × GivesDraft n e.reply × AllByRecursion (λ (x : Entry). spends n x ≡ false) rest

-- an entry gave the lease with a file, and none after it gave it back
abbrev pub IsLeaseLeft : ℕ → List Entry → Type 0
IsLeaseLeft n entries =
    (before rest : List Entry) × (e : Entry) × (blob : Blob) × (entries ≡ before ++ e ∷ rest) × (e.reply ≡ file n blob) × AllByRecursion (λ (x : Entry). x.command ≢ done n) rest
