-- The program's words as a command of `clap`: its subcommands and their arguments.
use Rattle.std.specs.Prelude.{ℕ, true, List, Some, codes}
use Rattle.clap.specs.Words.{App, Rule, new_app, new_rule, with_rule, with_subcommand}
use Rattle.clap.specs.declared.builder.value_parser.ValueParser.TheVariants.{Unsigned}

-- a command without words for help and its version
abbrev pub without_help : App → App
without_help a = record a { top = record a.top { disable_help_flag = true; disable_version_flag = true } }

-- an option with a whole number up to a limit
abbrev pub number : List ℕ → ℕ → Rule
number name most = record (new_rule name) { long = Some name; parser = Some (Unsigned 0 most) }

-- `replay SETTINGS [--at T] [--step S]`
abbrev pub replay : App
replay =
    with_rule (with_rule (with_rule (without_help (new_app (codes "replay")))
    (record (new_rule (codes "settings")) { required = true }))
    (number (codes "at") 253402207200))
    (number (codes "step") 86400)

-- `NAME SETTINGS DATA`
abbrev pub over_data : List ℕ → App
over_data name =
    with_rule (with_rule (without_help (new_app name))
    (record (new_rule (codes "settings")) { required = true }))
    (record (new_rule (codes "data")) { required = true })

-- `serve SETTINGS DATA PORT`
abbrev pub serve : App
serve = with_rule (over_data (codes "serve")) (record (new_rule (codes "port")) { required = true; parser = Some (Unsigned 1 65535) })

-- an option with a whole number up to a limit, which is not left out
abbrev pub required_number : List ℕ → ℕ → Rule
required_number name most = record (number name most) { required = true }

-- `demo --from N --calls M`
abbrev pub demo : App
demo = with_rule (with_rule (without_help (new_app (codes "demo"))) (required_number (codes "from") 65535)) (required_number (codes "calls") 100000)

abbrev pub bare : App
bare = without_help (new_app (codes "mvnrepod"))

-- the program without what changes a folder
abbrev pub looking : App
looking =
    with_subcommand (with_subcommand (record bare { top = record bare.top { no_binary_name = true; disable_help_subcommand = true; subcommand_required = true } })
    replay.top)
    (over_data (codes "check")).top

abbrev pub program : App
program = with_subcommand (with_subcommand (with_subcommand looking (over_data (codes "clean")).top) serve.top) demo.top
