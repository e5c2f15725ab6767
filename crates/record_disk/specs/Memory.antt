-- What a disk in memory shows: its trace, its room and which of its calls fail.
use Rattle.std.specs.Prelude.{◌≡◌, ◌⊎◌, ◌<◌, ◌+◌, ℕ, List, length, refl, Contains}
use Rattle.std.specs.Coded.{Coded, code_by, coded_ℕ, coded_list, coded×}
use Rattle.outside_memory.specs.Script.{Script}
use Rattle.record_disk.specs.Disk.{Trace, content}
use Rattle.record_disk.specs.Codes.{trace_code}

-- the trace; how many bytes the file may have, how many more may be written in all and how many more calls may change it;
-- which calls fail
pub record MemState : Type 0 where
  pub trace : Trace
  pub room : ℕ
  pub bytes_left : ℕ
  pub calls_left : ℕ
  pub script : Script

abbrev pub mem_code : Coded MemState
mem_code =
    code_by (Trace × (ℕ × (ℕ × (ℕ × (List ℕ × (ℕ × ℕ)))))) (coded× trace_code (coded× coded_ℕ (coded× coded_ℕ (coded× coded_ℕ (coded× (coded_list coded_ℕ) (coded× coded_ℕ coded_ℕ)))))) (λ m. (m.trace, (m.room, (m.bytes_left, (m.calls_left, (m.script.failing, (m.script.calls, m.script.faults))))))) (λ p. record { trace = p.0; room = p.1.0; bytes_left = p.1.1.0; calls_left = p.1.1.1.0; script = record { failing = p.1.1.1.1.0; calls = p.1.1.1.1.1.0; faults = p.1.1.1.1.1.1 } }) (λ _. refl)

-- the next call is one of those that are to fail
abbrev pub IsDue : MemState → Type 0
IsDue disk = Contains disk.script.failing disk.script.calls

-- a write of n bytes at this place finds no room, or would leave a gap
abbrev pub FindsNoRoom : ℕ → ℕ → MemState → Type 0
FindsNoRoom at n disk = (length (content disk.trace) < at) ⊎ (disk.room < at + n) ⊎ (disk.bytes_left < n) ⊎ (disk.calls_left ≡ 0)
