-- Civil times by the words of the calendar.
use Rattle.std.proofs.Common.{◌≡◌, ℕ, ◌*◌, ◌<◌, ◌≤◌, true, ◌&&◌, nat_le, refl, sym, subst, ◌∙◌, arith, ℤ, pos, negsuc, ◌+ℤ◌, ◌*ℤ◌, ◌≤ℤ◌, ◌<ℤ◌, unsigned_abs}
use Rattle.std.proofs.lemmas.Bool.{and_from, and_parts, le-leb, leb-true}
use Rattle.std.proofs.lemmas.Int.{ints}
use Rattle.jiff_core.specs.Calendar.{day_count, days_in_month}
use Rattle.jiff_core.specs.Time.{time_seconds}
use Rattle.jiff_core.specs.Date.{epoch_day}
use Rattle.jiff_core.specs.DateTime.{civil_nanos, civil_seconds}
use Rattle.jiff_core.specs.declared.civil.datetime.DateTime.{DateTime}
use Rattle.jiff_core.proofs.SignedLemmas.{signed_arith}
use Rattle.jiff_core.proofs.CalendarLemmas.{day_count-lt_year, days_from_civil-day_count, day_count-epoch}
use Rattle.jiff_core.proofs.DateLemmas.{civil}
use Rattle.jiff_core.proofs.DateTimeLemmas.{civil_nanos-civil_seconds, time_nanos_bound, civil_nanos-parts}
use Rattle.mvn_coords.specs.Civil.{CivilTime, is_civil, seconds_of, shown}

civil_seconds-parts : (c : DateTime) → civil_seconds c ≡ epoch_day c.date *ℤ pos 86_400 +ℤ pos (time_seconds c.time)
unfolding civil_seconds
civil_seconds-parts c = refl

pub record IsOfCalendar (t : CivilTime) : Type 0 where
  pub year : t.year ≤ 9999
  pub month : (1 ≤ t.month) × (t.month ≤ 12)
  pub day : (1 ≤ t.day) × (t.day ≤ days_in_month (pos t.year) t.month)
  pub hour : t.hour ≤ 23
  pub minute : t.minute ≤ 59
  pub second : t.second ≤ 59

pub from_civil : (t : CivilTime) → is_civil t ≡ true → IsOfCalendar t
from_civil t h =
    let a = and_parts _ (nat_le t.hour 23 && nat_le t.minute 59 && nat_le t.second 59) h in
    let b = and_parts _ (nat_le 1 t.day && nat_le t.day (days_in_month (pos t.year) t.month)) a.0 in
    let c = and_parts (nat_le t.year 9999) (nat_le 1 t.month && nat_le t.month 12) b.0 in
    let m = and_parts (nat_le 1 t.month) (nat_le t.month 12) c.1 in
    let d = and_parts (nat_le 1 t.day) (nat_le t.day (days_in_month (pos t.year) t.month)) b.1 in
    let g = and_parts _ (nat_le t.second 59) a.1 in
    let f = and_parts (nat_le t.hour 23) (nat_le t.minute 59) g.0 in
    record {
      year = leb-true t.year 9999 c.0;
      month = (leb-true 1 t.month m.0, leb-true t.month 12 m.1);
      day = (leb-true 1 t.day d.0, leb-true t.day (days_in_month (pos t.year) t.month) d.1);
      hour = leb-true t.hour 23 f.0;
      minute = leb-true t.minute 59 f.1;
      second = leb-true t.second 59 g.1;
    }

pub to_civil : (t : CivilTime) → IsOfCalendar t → is_civil t ≡ true
to_civil t c =
    and_from _ _
    (and_from _ _
    (and_from _ _ (le-leb t.year 9999 c.year) (and_from _ _ (le-leb 1 t.month c.month.0) (le-leb t.month 12 c.month.1)))
    (and_from _ _ (le-leb 1 t.day c.day.0) (le-leb t.day (days_in_month (pos t.year) t.month) c.day.1)))
    (and_from _ _ (and_from _ _ (le-leb t.hour 23 c.hour) (le-leb t.minute 59 c.minute)) (le-leb t.second 59 c.second))

-- a moment since 1970 has a year from 0 on
late_day : (c : DateTime) (n : ℕ) → civil_nanos c ≡ pos n → c.date.year <ℤ pos 0 → ⊥
late_day c n e h =
    let d = civil c.date in
    let before : day_count c.date.year c.date.month c.date.day < day_count (pos 1970) 1 1 = day_count-lt_year c.date.year c.date.month c.date.day (pos 1970) 1 1 d (omega arith) (omega (arith, ints)) in
    let day = days_from_civil-day_count c.date.year c.date.month c.date.day in
    let parts = civil_nanos-parts c in
    let bound = time_nanos_bound c.time in
    omega (arith, signed_arith, before, day_count-epoch, day, parts, bound)

not_below : (z : ℤ) → (z <ℤ pos 0 → ⊥) → pos 0 ≤ℤ z
not_below (pos n) h = omega (arith, ints)
not_below (negsuc n) h = absurd (h (omega (arith, ints)))

pub year_since_epoch : (c : DateTime) (n : ℕ) → civil_nanos c ≡ pos n → pos 0 ≤ℤ c.date.year
year_since_epoch c n e = not_below c.date.year (late_day c n e)

pub seconds_shown : (c : DateTime) (n : ℕ) → civil_nanos c ≡ pos (n * 1_000_000_000) → pos 0 ≤ℤ c.date.year → seconds_of (shown c) ≡ pos n
seconds_shown c n e h =
    let year : pos (unsigned_abs c.date.year) ≡ c.date.year = omega (arith, signed_arith, ints) in
    let whole = civil_nanos-civil_seconds c in
    let seconds : civil_seconds c ≡ pos n = omega (arith, signed_arith, whole, c.time.subsec_in) in
    rw year (sym (civil_seconds-parts c) ∙ seconds)

-- a date and time of the calendar from the year 0 on shows a civil time
pub shown_is_civil : (c : DateTime) → pos 0 ≤ℤ c.date.year → is_civil (shown c) ≡ true
shown_is_civil c h =
    let year : pos (unsigned_abs c.date.year) ≡ c.date.year = omega (arith, signed_arith, ints) in
    let d = civil c.date in
    let Fits : ℤ → Type 0 = λ y. c.date.day ≤ days_in_month y c.date.month in
    to_civil (shown c) (record {
      year = omega (arith, signed_arith, d.0);
      month = d.1;
      day = (d.2.0, subst Fits (sym year) d.2.1);
      hour = omega arith;
      minute = omega arith;
      second = omega arith;
    })
