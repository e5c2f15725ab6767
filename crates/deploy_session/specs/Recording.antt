-- What calls that record answer where that fails.
use Rattle.repo_model.specs.Reply.{Reply, no_memory, store_fault}
use Rattle.row_tables.specs.declared.faults.CommitFault.{CommitFault}
use Rattle.row_tables.specs.declared.faults.CommitFault.TheVariants as commit

-- why nothing was recorded
abbrev pub failed_by : CommitFault → Reply
failed_by commit.Failed = store_fault
failed_by commit.NoMemory = no_memory
