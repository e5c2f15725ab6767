-- What a disk that says its cuts shows: what the disk below it shows.
use Rattle.std.specs.Prelude.{ℕ, Option}
use Rattle.record_disk.specs.Disk.{Trace}

-- the trace, where it is told, and how many calls have failed
pub record DiskState : Type 0 where
  pub trace : Option Trace
  pub faults : ℕ
