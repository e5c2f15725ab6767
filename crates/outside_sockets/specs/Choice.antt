-- Which connection goes first where one has to be closed.
use Rattle.std.specs.Prelude.{◌≡◌, ◌⊎◌, ◌≤◌, ◌<◌, ℕ, List, [], Option, None, Some, Contains, All}
use Rattle.outside_sockets.specs.declared.choice.Rank.{Rank}
use Rattle.outside_sockets.specs.declared.choice.Rank.TheVariants.{Silent, Heard, Closing}
use Rattle.outside_sockets.specs.declared.choice.Standing.{Standing}

-- the silent ones are first, and those that are closing last
abbrev pub place_of : Rank → ℕ
place_of Silent = 0
place_of Heard = 1
place_of Closing = 2

-- it goes no later than the other: its rank comes first, or they have the same and it has been in its state as long
abbrev pub GoesNoLater : Standing → Standing → Type 0
GoesNoLater one other = (place_of one.rank < place_of other.rank) ⊎ ((place_of one.rank ≡ place_of other.rank) × (one.since ≤ other.since))

-- of all these it goes first: it is one of them and goes no later than any; of none there is none
abbrev pub GoesFirst : List Standing → Option Standing → Type 0
GoesFirst all None = all ≡ []
GoesFirst all (Some one) = Contains all one × All (GoesNoLater one) all
