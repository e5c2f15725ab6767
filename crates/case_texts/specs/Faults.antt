-- Refusals that name a line.
use Rattle.std.specs.Prelude.{◌<◌}
use Rattle.case_texts.specs.declared.entries.EntriesFault.{EntriesFault}
use Rattle.case_texts.specs.declared.entries.EntriesFault.TheVariants.{OutOfMemory, NoEntry}

-- a text that is refused has a line at which it is
abbrev pub HasLine : EntriesFault → Type 0
HasLine OutOfMemory = Unit {0}
HasLine (NoEntry line) = 0 < line
