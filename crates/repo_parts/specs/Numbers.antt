-- The numbers of blobs once a path was looked at, and once a put was over.
use Rattle.std.specs.Prelude.{ℕ, List, Option, Some, None}
use Rattle.repo_model.specs.State.{Yard}
use Rattle.repo_model.specs.Effect.{without_draft, yard_after, draws, lends, drops, with_number}
use Rattle.repo_model.specs.Reply.{Reply, file, fetches, created, no_memory, store_fault}

-- a draft was drawn for what is to be fetched, where it has one
abbrev pub yard_planned : Option ℕ → Yard → Yard
yard_planned None yard = yard
yard_planned (Some n) yard = yard_after draws yard

-- a path was looked at, and that was the reply
abbrev pub yard_looked : Reply → Yard → Yard
yard_looked (file lease blob) yard = yard_after (lends blob.number) yard
yard_looked (fetches plan) yard = yard_planned plan.draft yard
yard_looked _ yard = yard

-- a put was over, and that was the reply: its draft is a row's blob, or still a draft, or garbage
abbrev pub yard_put : ℕ → Reply → Yard → Yard
yard_put draft created yard = without_draft draft yard
yard_put draft no_memory yard = yard
yard_put draft store_fault yard = yard
yard_put draft _ yard = yard_after (drops draft) yard

-- which numbers are in use then
abbrev pub kept_put : ℕ → Reply → List ℕ → List ℕ
kept_put draft created kept = with_number draft kept
kept_put draft _ kept = kept
