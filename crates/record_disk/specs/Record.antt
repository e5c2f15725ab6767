-- The trace that the record of a disk in memory tells.
use Rattle.std.specs.Prelude.{◌≡◌, ℕ, ◌+◌, List, [], ◌∷◌, length, take, drop}
use Rattle.record_disk.specs.Disk as disk
use Rattle.record_disk.specs.declared.record.DiskCall.{DiskCall}
use Rattle.record_disk.specs.declared.record.DiskCall.TheVariants.{Write, Cut, Sync}

abbrev pub call_of : DiskCall → disk.Call
call_of (Write at size put) = disk.Write at size
call_of (Cut size) = disk.Cut size
call_of Sync = disk.Sync

-- how many bytes a call put into the file
abbrev pub put_of : DiskCall → ℕ
put_of (Write at size put) = put
put_of (Cut size) = 0
put_of Sync = 0

-- the file after a call that put these bytes
abbrev pub file_after : DiskCall → List ℕ → List ℕ → List ℕ
file_after (Write at size put) bytes file = disk.written file at bytes
file_after (Cut size) bytes file = take size file
file_after Sync bytes file = file

-- the trace goes on by these calls, the first of them first; their bytes stand one after the other
abbrev pub told_by : disk.Trace → List DiskCall → List ℕ → disk.Trace
told_by trace [] bytes = trace
told_by trace (call ∷ calls) bytes =
    told_by (disk.After (call_of call) (file_after call (take (put_of call) bytes) (disk.content trace)) trace) calls (drop (put_of call) bytes)

abbrev pub put_in_all : List DiskCall → ℕ
put_in_all [] = 0
put_in_all (call ∷ calls) = put_of call + put_in_all calls

-- a read gives these bytes, they are one of the images, and all bytes that calls put are there
pub record IsRecorded (first : List ℕ) (calls : List DiskCall) (put bytes : List ℕ) : Type 0 where
  pub reads : disk.content (told_by (disk.Opened first) calls put) ≡ bytes
  pub image : disk.IsImage (told_by (disk.Opened first) calls put) bytes
  pub all : put_in_all calls ≡ length put
