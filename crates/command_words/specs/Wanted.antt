-- What the words of a command line ask for.
use Rattle.std.specs.Prelude.{◌≡◌, ◌≢◌, ℕ, ◌^◌, ◌-◌, nat_lt, Bool, true, false, if◌then◌else◌, List, [], ◌∷◌, Option, Some, None, codes}
use Rattle.std.specs.Option.{option_map_or, option_and_then}
use Rattle.std.specs.Str.{bytes_eq}
use Rattle.std.specs.Str.Parse.{digits_value, without_leading_plus}
use Rattle.clap.specs.ValueTests.{is_unsigned_in}
use Rattle.clap.specs.Words.{Kinds, Row, Text, fault_of, first_of, subcommand_of}
use Rattle.clap.specs.declared.error.ErrorKind.{ErrorKind}
use Rattle.clap.specs.declared.error.ErrorKind.TheVariants.{OutOfMemory}
use Rattle.command_words.specs.Program.{program}
use Rattle.command_words.specs.declared.wanted.Wanted.{Wanted}
use Rattle.command_words.specs.declared.wanted.Wanted.TheVariants.{Replay, Check, Clean, Serve, Demo}
use Rattle.command_words.specs.declared.wanted.WordsFault.{WordsFault}
use Rattle.command_words.specs.declared.wanted.WordsFault.TheVariants.{Refused, NoMemory}

-- the number that a text writes in decimal digits, `+` before them passed over
abbrev pub number_of : Text → ℕ
number_of text = if is_unsigned_in 0 (2 ^ 64 - 1) text then digits_value 10 (without_leading_plus text) else 0

-- the value of an option, or 0 where it is left out
abbrev pub number_at : Text → List Row → ℕ
number_at id rows = option_map_or number_of (first_of id rows) 0

abbrev pub text_at : Text → List Row → Text
text_at id rows = option_map_or (λ text. text) (first_of id rows) []

abbrev pub replay_in : List Row → Wanted
replay_in rows = Replay (text_at (codes "settings") rows) (number_at (codes "at") rows) (number_at (codes "step") rows)

abbrev pub check_in : List Row → Wanted
check_in rows = Check (text_at (codes "settings") rows) (text_at (codes "data") rows)

abbrev pub clean_in : List Row → Wanted
clean_in rows = Clean (text_at (codes "settings") rows) (text_at (codes "data") rows)

-- a number of 16 bits, or of 32; no option has a greater one
abbrev pub small_of : ℕ → ℕ
small_of n = if nat_lt n (2 ^ 16) then n else 0

abbrev pub count_of : ℕ → ℕ
count_of n = if nat_lt n (2 ^ 32) then n else 0

abbrev pub serve_in : List Row → Wanted
serve_in rows = Serve (text_at (codes "settings") rows) (text_at (codes "data") rows) (small_of (number_at (codes "port") rows))

abbrev pub demo_in : List Row → Wanted
demo_in rows = Demo (small_of (number_at (codes "from") rows)) (count_of (number_at (codes "calls") rows))

abbrev pub wanted_by : Text × List Row → Option Wanted
wanted_by (name, rows) =
    if bytes_eq name (codes "replay") then Some (replay_in rows)
    else if bytes_eq name (codes "check") then Some (check_in rows)
    else if bytes_eq name (codes "clean") then Some (clean_in rows)
    else if bytes_eq name (codes "serve") then Some (serve_in rows)
    else if bytes_eq name (codes "demo") then Some (demo_in rows)
    else None

abbrev pub is_none_of : Kinds → Bool
is_none_of [] = true
is_none_of (kind ∷ kinds) = false

-- the words are those of the program, and this is what its subcommand asks for
abbrev pub wanted_of : List Text → Option Wanted
wanted_of words =
    if is_none_of (fault_of program words) then option_and_then wanted_by (subcommand_of program words) else None

-- the words ask for nothing, unless memory ran out
abbrev pub IsFault : Option Wanted → WordsFault → Type 0
IsFault wanted Refused = wanted ≡ None
IsFault wanted NoMemory = Unit {0}

-- an error of this kind is a refusal, unless memory ran out
abbrev pub IsKind : ErrorKind → WordsFault → Type 0
IsKind kind Refused = kind ≢ OutOfMemory
IsKind kind NoMemory = Unit {0}
