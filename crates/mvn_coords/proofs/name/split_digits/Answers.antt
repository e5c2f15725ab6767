use Rattle.mvn_coords.proofs.Names.{digits_boundary}
use Rattle.mvn_coords.proofs.name.split_digits.Goals as goal

pub split_at-requires : goal.split_at-requires
split_at-requires c = rw c.digit_count.ensures (digits_boundary c.args.text.now c.utf8.text)
