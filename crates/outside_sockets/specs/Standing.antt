-- How a connection stands that no desk has, where one has to be closed.
use Rattle.std.specs.Prelude.{◌≡◌, ◌⊎◌}
use Rattle.outside_sockets.specs.declared.choice.Rank.{Rank}
use Rattle.outside_sockets.specs.declared.choice.Rank.TheVariants.{Silent, Heard, Closing as Last}
use Rattle.outside_sockets.specs.declared.room.State.{State}
use Rattle.outside_sockets.specs.declared.room.State.TheVariants.{New, Heading, Idle, Closing}

-- a new one may be silent, or bytes of it may lie unread
abbrev pub StandsAs : State → Rank → Type 0
StandsAs New rank = (rank ≡ Silent) ⊎ (rank ≡ Heard)
StandsAs Heading rank = rank ≡ Heard
StandsAs Idle rank = rank ≡ Heard
StandsAs (Closing dropped) rank = rank ≡ Last
