-- What a remote tells that counts its faults and nothing else.
use Rattle.std.specs.Prelude.{ℕ, None}
use Rattle.outside_remote.specs.Exchanges.{Sees}

abbrev pub untold : ℕ → Sees
untold faults = record { left = None; made = None; faults = faults }
