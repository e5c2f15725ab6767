use Rattle.std.proofs.Common.{◌≡◌, ℕ, take}
use Rattle.std.specs.Map.{keys_of}
use Rattle.repo_model.specs.State.{is_among}
use Rattle.blob_yard.specs.Places.{AreBelow, AreKept}
use Rattle.blob_yard.proofs.places.keep_all.Given as goal

abbrev pub invariant-loop-number : goal.invariant-loop-number
invariant-loop-number l = record {
  below : AreBelow l.next l.map.entries;
  kept : AreKept l.map.entries;
  numbers : (n : ℕ) → is_among n (keys_of l.map.entries) ≡ is_among n (take l.number-index l.numbers);
}
