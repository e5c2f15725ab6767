use Rattle.std.proofs.Common.{◌≡◌, ◌<◌, ◌^◌, take}
use Rattle.mvn_coords.specs.Civil.{decimal}
use Rattle.mvn_coords.proofs.stamp.decimal.Given as goal

abbrev pub invariant-loop-digit : goal.invariant-loop-digit
invariant-loop-digit l = record {
  told : l.number ≡ decimal (take l.digit-index l.digits);
  small : l.number < 10 ^ l.digit-index;
}
