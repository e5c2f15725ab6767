-- Refusals of files of cases.
use Rattle.std.specs.Prelude.{◌<◌, ◌≢◌}
use Rattle.case_texts.specs.declared.reading.CaseFault.TheVariants.{OutOfMemory}
use Rattle.case_texts.specs.declared.reading.Refusal.{Refusal}

-- a file that is refused for another cause than running out of memory is refused at a line of its own
abbrev pub IsPlaced : Refusal → Type 0
IsPlaced refusal = refusal.fault ≢ OutOfMemory → 0 < refusal.line
