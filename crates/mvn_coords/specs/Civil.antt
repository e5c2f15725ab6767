-- A civil time: a day of the proleptic Gregorian calendar of ISO 8601 and a time of day to the second, and its text `yyyyMMdd.HHmmss`, the timestamp of a unique snapshot in the Maven 2 repository layout.
use Rattle.std.specs.Prelude.{◌≡◌, ◌↔◌, ℕ, zero, suc, ◌+◌, ◌-◌, ◌*◌, ◌/◌, ◌%◌, Bool, true, ◌&&◌, ◌==◌, nat_le, if◌then◌else◌, List, [], ◌∷◌, ◌++◌, length, take, drop, fold, slice_index, slice_range, Option, Some, None, ℤ, pos, ◌+ℤ◌, ◌*ℤ◌, unsigned_abs}
use Rattle.jiff_core.specs.declared.civil.datetime.DateTime.{DateTime}
use Rattle.std.specs.Char.{is_ascii_digit}
use Rattle.std.specs.List.{list_all}
use Rattle.jiff_core.specs.Calendar.{days_in_month, days_from_civil}

pub record CivilTime : Type 0 where
  pub year : ℕ
  pub month : ℕ
  pub day : ℕ
  pub hour : ℕ
  pub minute : ℕ
  pub second : ℕ

-- the calendar has the day, its year is one of 0000 to 9999, and a clock shows the time
abbrev pub is_civil : CivilTime → Bool
is_civil t =
    nat_le t.year 9999 && (nat_le 1 t.month && nat_le t.month 12)
    && (nat_le 1 t.day && nat_le t.day (days_in_month (pos t.year) t.month))
    && (nat_le t.hour 23 && nat_le t.minute 59 && nat_le t.second 59)

-- the seconds from 1970-01-01T00:00:00 to a civil time
abbrev pub seconds_of : CivilTime → ℤ
seconds_of t =
    (days_from_civil (pos t.year) t.month t.day *ℤ pos 86_400)
    +ℤ pos (t.hour * 3600 + t.minute * 60 + t.second)

-- the last n decimal digits of a number, in ASCII
abbrev pub digits : ℕ → ℕ → List ℕ
digits zero x = []
digits (suc n) x = digits n (x / 10) ++ (48 + x % 10) ∷ []

-- the number that ASCII digits write
abbrev pub decimal : List ℕ → ℕ
decimal ds = fold (λ x d. x * 10 + (d - 48)) 0 ds

abbrev pub text_of_time : CivilTime → List ℕ
text_of_time t =
    digits 4 t.year ++ digits 2 t.month ++ digits 2 t.day ++ (46 ∷ [])
    ++ digits 2 t.hour ++ digits 2 t.minute ++ digits 2 t.second

-- eight digits, a dot and six digits
abbrev pub are_digits : List ℕ → Bool
are_digits text = list_all is_ascii_digit text

abbrev pub is_time_form : List ℕ → Bool
is_time_form text =
    (length text == 15) && (slice_index text 8 == 46) && are_digits (take 8 text) && are_digits (drop 9 text)

-- the numbers that the digits of the date and those of the time write
abbrev pub fields_of : List ℕ → List ℕ → CivilTime
fields_of date time = record {
  year = decimal (slice_range date 0 4);
  month = decimal (slice_range date 4 6);
  day = decimal (slice_range date 6 8);
  hour = decimal (slice_range time 0 2);
  minute = decimal (slice_range time 2 4);
  second = decimal (slice_range time 4 6);
}

abbrev pub if_civil : CivilTime → Option CivilTime
if_civil t = if is_civil t then Some t else None

-- the civil time that a text writes
abbrev pub time_of : List ℕ → Option CivilTime
time_of text = if is_time_form text then if_civil (fields_of (take 8 text) (drop 9 text)) else None

-- what a date and time of the calendar shows, its year being 0 or later
abbrev pub shown : DateTime → CivilTime
shown c = record {
  year = unsigned_abs c.date.year;
  month = c.date.month;
  day = c.date.day;
  hour = c.time.hour;
  minute = c.time.minute;
  second = c.time.second;
}

-- a text writes a civil time exactly where it is that time's text
abbrev pub IsExactText : Type 0
IsExactText = (text : List ℕ) (t : CivilTime) → (time_of text ≡ Some t) ↔ ((is_civil t ≡ true) × (text ≡ text_of_time t))
