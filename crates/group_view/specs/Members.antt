-- Which member of a group answers a path, or is asked for it, by what each would do.
use Rattle.std.specs.Prelude.{ℕ, Bool, true, false, nat_lt, if◌then◌else◌, List, position, Option, Some, None}
use Rattle.group_view.specs.declared.stances.Stance.{Stance}
use Rattle.group_view.specs.declared.stances.Stance.TheVariants.{Serve, Fetch, Pass}
use Rattle.group_view.specs.declared.stances.Turn.{Turn}
use Rattle.group_view.specs.declared.stances.Turn.TheVariants as turn

abbrev pub serves : Stance → Bool
serves Serve = true
serves Fetch = false
serves Pass = false

abbrev pub fetches : Stance → Bool
fetches Serve = false
fetches Fetch = true
fetches Pass = false

-- the earlier of two members decides, of which one serves and the other fetches
abbrev pub earlier : Option ℕ → Option ℕ → Turn
earlier None None = turn.Nothing
earlier (Some serving) None = turn.Serve serving
earlier None (Some fetching) = turn.Ask fetching
earlier (Some serving) (Some fetching) = if nat_lt serving fetching then turn.Serve serving else turn.Ask fetching

-- Of a file the first that serves or fetches decides. Of a document the first that fetches is asked, and none serves alone.
abbrev pub next : Bool → List Stance → Turn
next false stances = earlier (position serves stances) (position fetches stances)
next true stances = earlier None (position fetches stances)
