-- Drafts and leases that are given and given back among the entries of one caller.
use Rattle.std.specs.Prelude.{◌≡◌, ℕ, true, List, [], ◌∷◌}
use Rattle.repo_model.specs.Command.{done}
use Rattle.repo_model.specs.Data.{Blob}
use Rattle.repo_model.specs.History.{Entry}
use Rattle.repo_model.specs.Reply.{file}
use Rattle.repo_laws.specs.Laws.{AnyByRecursion}
use Rattle.repo_laws.specs.Replies.{GivesDraft, spends}

-- each draft that one of these entries gives, by itself or with what is to be fetched, is put, staged, landed or dropped by a later one
abbrev pub SpendDrafts : List Entry → Type 0
SpendDrafts [] = Unit {0}
SpendDrafts (e ∷ es) = ((n : ℕ) → GivesDraft n e.reply → AnyByRecursion (λ (x : Entry). spends n x ≡ true) es) × SpendDrafts es

-- each lease that one of them gives with a file is given back by a later one
abbrev pub ReturnLeases : List Entry → Type 0
ReturnLeases [] = Unit {0}
ReturnLeases (e ∷ es) = ((n : ℕ) (blob : Blob) → e.reply ≡ file n blob → AnyByRecursion (λ (x : Entry). x.command ≡ done n) es) × ReturnLeases es

pub record GiveAllBack (entries : List Entry) : Type 0 where
  pub drafts : SpendDrafts entries
  pub leases : ReturnLeases entries
