use Rattle.std.proofs.Common.{◌≡◌, take}
use Rattle.blob_yard.specs.Places.{without}
use Rattle.blob_yard.proofs.places.take_out.Given as goal

abbrev pub invariant-loop-number : goal.invariant-loop-number
invariant-loop-number l = l.places ≡ without (take l.number-index l.numbers) l.fn.places
