-- What contracts see of records, what a call that is to record needs of them, and what it leaves of them.
use Rattle.std.specs.Option.{ForSome}
use Rattle.std.specs.Prelude.{◌≡◌, ℕ, List, Option, Result, Ok, Err}
use Rattle.outside.specs.Faults.{Rose}
use Rattle.repo_model.specs.declared.item.Item.{Item}
use Rattle.repo_model.specs.Reply.{Reply, no_memory, store_fault}
use Rattle.repo_model.specs.Tables.{Tables, applied}
use Rattle.row_tables.specs.Applying.{with_items}
use Rattle.row_tables.specs.Commits.{tables_with}
use Rattle.row_tables.specs.Crashes.{HasNotCommitted, IsCommitted, IsLeftOut, Unsettled}
use Rattle.row_tables.specs.declared.faults.CommitFault.{CommitFault}
use Rattle.row_tables.specs.declared.faults.CommitFault.TheVariants as commit

-- what records show: the tables where they are told, how many calls have failed, what a crash may leave beside the tables, and
-- whether changes may be committed
pub record Shown : Type 1 where
  pub tables : Option Tables
  pub faults : ℕ
  pub unsettled : Unsettled
  pub IsReady : Type 0

-- how a call that was to record ended: all that was due is done, memory ran out, or the records failed
pub data End : Type 0 where
  done : End
  wanting : End
  failing : End

abbrev pub end_of : {T : Type 0} → Result T CommitFault → End
end_of (Ok value) = done
end_of (Err commit.Failed) = failing
end_of (Err commit.NoMemory) = wanting

abbrev pub end_by : Reply → End
end_by store_fault = failing
end_by no_memory = wanting
end_by reply = done

-- items that fit the tables, where these are told
abbrev pub FitWhereTold : Option Tables → List Item → Type 0
FitWhereTold tables items = ForSome tables (λ t. applied t items ≡ Ok (with_items t items))

-- the records are ready, and items fit the tables, where these are told
pub record MayTake (items : List Item) (now : Shown) : Type 0 where
  pub ready : now.IsReady
  pub fits : FitWhereTold now.tables items

-- what is due is recorded, or the tables are as they were
abbrev pub tables_at : End → List Item → Option Tables → Option Tables
tables_at done items told = tables_with items told
tables_at wanting items told = told
tables_at failing items told = told

-- the count has risen where the records failed, and else it stands still
abbrev pub HasCause : End → ℕ → ℕ → Type 0
HasCause done before after = after ≡ before
HasCause wanting before after = after ≡ before
HasCause failing before after = Rose before after

-- Nothing is pending where items were committed; else what was pending is so still, or was undone, or these are pending where the
-- records failed. A crash at any moment of the call leaves what one before it or after it leaves.
abbrev pub HasCrash : End → List Item → Option Tables → Unsettled → Unsettled → Type 0
HasCrash done items told old new = IsCommitted items told old new
HasCrash wanting items told old new = IsLeftOut told old new
HasCrash failing items told old new = HasNotCommitted items told old new

-- what a call that was to record items leaves of the records
pub record Leaves (items : List Item) (how : End) (old new : Shown) : Type 0 where
  pub tables : new.tables ≡ tables_at how items old.tables
  pub cause : HasCause how old.faults new.faults
  pub crashes : HasCrash how items old.tables old.unsettled new.unsettled
  pub ready : new.IsReady
