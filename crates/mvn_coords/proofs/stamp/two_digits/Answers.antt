use Rattle.std.proofs.Common.{◌+◌, ◌-◌, drop}
use Rattle.mvn_coords.proofs.Digits.{are_digits-take, are_digits-drop}
use Rattle.mvn_coords.proofs.stamp.two_digits.Goals as goal

pub decimal-requires-clause-digits : goal.decimal-requires-clause-digits
decimal-requires-clause-digits c =
    are_digits-take (c.args.at + 2 - c.args.at) (drop c.args.at c.args.digits.now) (are_digits-drop c.args.at c.args.digits.now c.requires.digits)
