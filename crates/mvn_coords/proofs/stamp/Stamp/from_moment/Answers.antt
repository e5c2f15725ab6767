use Rattle.std.proofs.Common.{◌≡◌, ◌∙◌, ◌*◌, sym, arith, pos}
use Rattle.std.proofs.lemmas.Int.{ints}
use Rattle.jiff_core.specs.DateTime.{civil_nanos}
use Rattle.mvn_coords.specs.Calendar.{civil_of}
use Rattle.mvn_coords.specs.Civil.{shown}
use Rattle.mvn_coords.proofs.Moments.{civil_moment, one_time, seconds_of_moment}
use Rattle.mvn_coords.proofs.Times.{shown_is_civil, year_since_epoch, seconds_shown}
use Rattle.mvn_coords.proofs.stamp.Stamp.from_moment.Goals.{After-to_datetime}
use Rattle.mvn_coords.proofs.stamp.Stamp.from_moment.Goals as goal

-- the instant's nanoseconds
nanos : (c : After-to_datetime) → civil_nanos c.to_datetime.result ≡ pos (c.args.moment * 1_000_000_000)
nanos c =
    let instant : c.in-Ok.instant.nanosecond ≡ pos (c.args.moment * 1_000_000_000) = omega (arith, ints, c.in-Ok.ensures.value) in
    omega (arith, ints, c.to_datetime.ensures, instant)

pub from_civil-requires : goal.from_civil-requires
from_civil-requires c = year_since_epoch c.to_datetime.result (c.args.moment * 1_000_000_000) (nanos (goal.at.from_civil-requires c).After-to_datetime)

pub returns : goal.returns
returns c =
    let n = nanos (goal.at.returns c).After-to_datetime in
    let late = year_since_epoch c.to_datetime.result (c.args.moment * 1_000_000_000) n in
    let seconds = seconds_shown c.to_datetime.result c.args.moment n late in
    c.from_civil.ensures
    ∙ one_time (shown c.to_datetime.result) (civil_of c.args.moment) (shown_is_civil c.to_datetime.result late) (civil_moment c.args.moment (omega arith))
    (seconds ∙ sym (seconds_of_moment c.args.moment (omega arith)))
