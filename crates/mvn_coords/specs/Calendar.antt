-- The civil time of a moment in UTC (ISO 8601 calendar, days of 86,400 seconds): from 1970-01-01 whole years are counted off, then whole months.
use Rattle.std.specs.Prelude.{◌≡◌, ◌≤◌, ℕ, zero, suc, ◌-◌, ◌/◌, ◌%◌, true, false, nat_lt, pos}
use Rattle.jiff_core.specs.Calendar.{days_in_month, days_in_year}
use Rattle.mvn_coords.specs.Civil.{CivilTime, is_civil, seconds_of}

-- the year in which the day lies that is so many days after the first of January of a year, and the days of it before that day; at most `left` years on (the cases of `elim` wait, so that only the years that are gone are counted)
unfoldable pub year_from : ℕ → ℕ → ℕ → ℕ × ℕ
year_from zero year days = (year, days)
year_from (suc left) year days =
    elim (nat_lt days (days_in_year (pos year))) [
      | true ↦ (year, days)
      | false ↦ year_from left (suc year) (days - days_in_year (pos year))
    ]

-- the same of the months of a year
unfoldable pub month_from : ℕ → ℕ → ℕ → ℕ → ℕ × ℕ
month_from zero year month days = (month, days)
month_from (suc left) year month days =
    elim (nat_lt days (days_in_month (pos year) month)) [
      | true ↦ (month, days)
      | false ↦ month_from left year (suc month) (days - days_in_month (pos year) month)
    ]

-- the civil time of a year and a month with the days and the seconds of the day that are gone
abbrev pub civil_in : ℕ → ℕ × ℕ → ℕ → CivilTime
civil_in year month rest = record {
  year = year;
  month = month.0;
  day = suc month.1;
  hour = rest / 3600;
  minute = rest / 60 % 60;
  second = rest % 60;
}

abbrev pub civil_by : ℕ × ℕ → ℕ → CivilTime
civil_by year rest = civil_in year.0 (month_from 11 year.0 1 year.1) rest

-- the civil time of a moment, in seconds since 1970-01-01T00:00:00Z, of the years up to 9999
unfoldable pub civil_of : ℕ → CivilTime
civil_of moment = civil_by (year_from 8029 1970 (moment / 86_400)) (moment % 86_400)

-- each moment of those years has one civil time, and it is so many seconds after 1970-01-01T00:00:00
pub record IsCalendar : Type 0 where
  pub civil : (moment : ℕ) → moment ≤ 253_402_300_799 → is_civil (civil_of moment) ≡ true
  pub seconds : (moment : ℕ) → moment ≤ 253_402_300_799 → seconds_of (civil_of moment) ≡ pos moment
  pub one : (t u : CivilTime) → is_civil t ≡ true → is_civil u ≡ true → seconds_of t ≡ seconds_of u → t ≡ u
  pub first : civil_of 0 ≡ record { year = 1970; month = 1; day = 1; hour = 0; minute = 0; second = 0 }
  pub leap_day : civil_of 1_709_208_000 ≡ record { year = 2024; month = 2; day = 29; hour = 12; minute = 0; second = 0 }
  pub last : civil_of 253_402_300_799 ≡ record { year = 9999; month = 12; day = 31; hour = 23; minute = 59; second = 59 }
