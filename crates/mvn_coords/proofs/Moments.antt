-- The civil time of a moment by the words of the calendar: it is civil, and so many seconds after 1970.
use Rattle.std.proofs.Common.{◌≡◌, ℕ, zero, suc, ◌+◌, ◌-◌, ◌*◌, ◌/◌, ◌%◌, ◌<◌, ◌≤◌, inl, inr, true, false, nat_lt, refl, ap, ◌∙◌, arith, pos}
use Rattle.std.proofs.lemmas.Bool.{cases_order}
use Rattle.std.proofs.lemmas.Bool.Decides.{nat_tests}
use Rattle.jiff_core.specs.Calendar.{day_count, days_from_civil, days_in_month, days_in_year, IsCivilDate}
use Rattle.jiff_core.proofs.SignedLemmas.{signed_arith}
use Rattle.jiff_core.proofs.CalendarLemmas.{day_count-day, day_count-day_of_year, day_count-end, day_count-epoch, day_count-lt_month, day_count-lt_year, day_count-next_month, day_count-next_year, days_from_civil-day_count, days_of_months_all}
use Rattle.mvn_coords.specs.Calendar.{year_from, month_from, civil_by, civil_of, IsCalendar}
use Rattle.mvn_coords.specs.Civil.{CivilTime, is_civil, seconds_of}
use Rattle.mvn_coords.proofs.Times.{IsOfCalendar, from_civil, to_civil}

-- the days before a year, and before a month, from the calendar's first day on
abbrev before_year : ℕ → ℕ
before_year year = day_count (pos year) 1 1

abbrev before_month : ℕ → ℕ → ℕ
before_month year month = day_count (pos year) month 1

next_year : (year : ℕ) → before_year (suc year) ≡ before_year year + days_in_year (pos year)
next_year year = day_count-next_year (pos year) (pos (suc year)) (omega (arith, signed_arith)) (omega (arith, signed_arith))

next_month : (year month : ℕ) → 1 ≤ month → before_month year (suc month) ≡ before_month year month + days_in_month (pos year) month
next_month year month h = let e : suc month ≡ month + 1 = omega arith in rw e (day_count-next_month (pos year) month h)

year_end : (year : ℕ) → before_month year 13 ≡ before_year year + days_in_year (pos year)
year_end year = omega (arith, day_count-day_of_year (pos year) 13 1 (omega arith), days_of_months_all (pos year))

-- the year of a day, and the days of it that are gone
record IsYearOf (day last : ℕ) (found : ℕ × ℕ) : Type 0 where
  count : before_year found.0 + found.1 ≡ day
  within : found.1 < days_in_year (pos found.0)
  bound : found.0 ≤ last

year_found : (left year days : ℕ) → before_year year + days < before_year (suc (left + year)) → IsYearOf (before_year year + days) (left + year) (year_from left year days)
unfolding year_from
year_found zero year days h =
    let e : zero + year ≡ year = omega arith in
    let n : before_year year + days < before_year (suc year) = rw e at h in
    record { count = refl; within = omega (arith, next_year year, n); bound = omega arith }
year_found (suc left) year days h =
    let e : suc left + year ≡ left + suc year = omega arith in
    elim (nat_lt days (days_in_year (pos year))) as (λ b. nat_lt days (days_in_year (pos year)) ≡ b → IsYearOf (before_year year + days) (suc left + year) (elim b [ true ↦ (year, days) | false ↦ year_from left (suc year) (days - days_in_year (pos year)) ])) [
      | true ↦ λ t. record { count = refl; within = grind (arith, nat_tests, t); bound = omega arith }
      | false ↦ λ t.
          let gone : days_in_year (pos year) ≤ days = grind (arith, nat_tests, t) in
          let same : before_year (suc year) + (days - days_in_year (pos year)) ≡ before_year year + days = omega (arith, next_year year, gone) in
          let more = year_found left (suc year) (days - days_in_year (pos year)) (rw (same, ← e) h) in
          record { count = more.count ∙ same; within = more.within; bound = omega (arith, more.bound) }
    ] refl

-- the month of a day, and the days of it that are gone
record IsMonthOf (year day last : ℕ) (found : ℕ × ℕ) : Type 0 where
  count : before_month year found.0 + found.1 ≡ day
  within : found.1 < days_in_month (pos year) found.0
  low : 1 ≤ found.0
  bound : found.0 ≤ last

month_found : (left year month days : ℕ) → 1 ≤ month → before_month year month + days < before_month year (suc (left + month)) → IsMonthOf year (before_month year month + days) (left + month) (month_from left year month days)
unfolding month_from
month_found zero year month days low h =
    let e : zero + month ≡ month = omega arith in
    let n : before_month year month + days < before_month year (suc month) = rw e at h in
    record { count = refl; within = omega (arith, next_month year month low, n); low = low; bound = omega arith }
month_found (suc left) year month days low h =
    let e : suc left + month ≡ left + suc month = omega arith in
    elim (nat_lt days (days_in_month (pos year) month)) as (λ b. nat_lt days (days_in_month (pos year) month) ≡ b → IsMonthOf year (before_month year month + days) (suc left + month) (elim b [ true ↦ (month, days) | false ↦ month_from left year (suc month) (days - days_in_month (pos year) month) ])) [
      | true ↦ λ t. record { count = refl; within = grind (arith, nat_tests, t); low = low; bound = omega arith }
      | false ↦ λ t.
          let gone : days_in_month (pos year) month ≤ days = grind (arith, nat_tests, t) in
          let same : before_month year (suc month) + (days - days_in_month (pos year) month) ≡ before_month year month + days = omega (arith, next_month year month low, gone) in
          let more = month_found left year (suc month) (days - days_in_month (pos year) month) (omega arith) (rw (same, ← e) h) in
          record { count = more.count ∙ same; within = more.within; low = more.low; bound = omega (arith, more.bound) }
    ] refl

-- what is known of the civil time of so many days and seconds
record IsTimeOf (days rest : ℕ) (t : CivilTime) : Type 0 where
  calendar : IsOfCalendar t
  count : day_count (pos t.year) t.month t.day ≡ 4_371_953 + days
  time : t.hour * 3600 + t.minute * 60 + t.second ≡ rest

time_by : (days rest : ℕ) (year : ℕ × ℕ) → rest < 86_400 → IsYearOf (4_371_953 + days) 9999 year → IsTimeOf days rest (civil_by year rest)
time_by days rest year h y =
    let month = month_found 11 year.0 1 year.1 (omega arith) (omega (arith, year_end year.0, y.within)) in
    let in_month : day_count (pos year.0) (month_from 11 year.0 1 year.1).0 (suc (month_from 11 year.0 1 year.1).1) ≡ 4_371_953 + days =
    omega (arith, day_count-day (pos year.0) (month_from 11 year.0 1 year.1).0 (suc (month_from 11 year.0 1 year.1).1) 1 (omega arith) (omega arith), month.count, y.count) in
    record {
      calendar = record {
        year = y.bound;
        month = (month.low, month.bound);
        day = (omega arith, omega (arith, month.within));
        hour = omega arith;
        minute = omega arith;
        second = omega arith;
      };
      count = in_month;
      time = omega arith;
    }

time_of_moment : (n : ℕ) → n ≤ 253_402_300_799 → IsTimeOf (n / 86_400) (n % 86_400) (civil_of n)
unfolding civil_of
time_of_moment n h =
    let days = n / 86_400 in
    let start : before_year 1970 + days ≡ 4_371_953 + days = ap (λ d. d + days) day_count-epoch in
    let end : before_year 1970 + days < before_year 10000 = omega (arith, day_count-epoch, day_count-end) in
    time_by days (n % 86_400) (year_from 8029 1970 days) (omega arith)
    (rw start at (year_found 8029 1970 days end))

day_is : (t : CivilTime) (days : ℕ) → day_count (pos t.year) t.month t.day ≡ 4_371_953 + days → days_from_civil (pos t.year) t.month t.day ≡ pos days
day_is t days h = omega (arith, signed_arith, h, days_from_civil-day_count (pos t.year) t.month t.day)

pub civil_moment : (n : ℕ) → n ≤ 253_402_300_799 → is_civil (civil_of n) ≡ true
civil_moment n h = to_civil (civil_of n) (time_of_moment n h).calendar

pub seconds_of_moment : (n : ℕ) → n ≤ 253_402_300_799 → seconds_of (civil_of n) ≡ pos n
seconds_of_moment n h =
    let t = time_of_moment n h in
    rw (day_is (civil_of n) (n / 86_400) t.count, t.time) (omega (arith, signed_arith))

-- of two days of the calendar one is earlier, or they are one
civil_date : (t : CivilTime) → IsOfCalendar t → IsCivilDate (pos t.year) t.month t.day
civil_date t c = ((omega (arith, signed_arith, c.year), omega (arith, signed_arith, c.year)), c.month, c.day)

same_day : (t u : CivilTime) → IsOfCalendar t → IsOfCalendar u → day_count (pos t.year) t.month t.day ≡ day_count (pos u.year) u.month u.day → (t.year ≡ u.year) × (t.month ≡ u.month) × (t.day ≡ u.day)
same_day t u c d e =
    elim (cases_order t.year u.year) [
      | inl year ↦ elim (cases_order t.month u.month) [
        | inl month ↦
            let there : day_count (pos u.year) u.month u.day ≡ day_count (pos t.year) t.month u.day = rw (year, month) refl in
            (year, month, omega (arith, e, there, day_count-day (pos t.year) t.month t.day u.day c.day.0 d.day.0))
        | inr (inl lt) ↦
            let there : day_count (pos u.year) u.month u.day ≡ day_count (pos t.year) u.month u.day = rw year refl in
            absurd (omega (arith, e, there, day_count-lt_month (pos t.year) t.month t.day u.month u.day (civil_date t c) d.day.0 lt))
        | inr (inr gt) ↦
            let there : day_count (pos t.year) t.month t.day ≡ day_count (pos u.year) t.month t.day = rw year refl in
            absurd (omega (arith, e, there, day_count-lt_month (pos u.year) u.month u.day t.month t.day (civil_date u d) c.day.0 gt))
      ]
      | inr (inl lt) ↦ absurd (omega (arith, e, day_count-lt_year (pos t.year) t.month t.day (pos u.year) u.month u.day (civil_date t c) d.day.0 (omega (arith, signed_arith, lt))))
      | inr (inr gt) ↦ absurd (omega (arith, e, day_count-lt_year (pos u.year) u.month u.day (pos t.year) t.month t.day (civil_date u d) c.day.0 (omega (arith, signed_arith, gt))))
    ]

same_parts : (t u : CivilTime) → IsOfCalendar t → IsOfCalendar u → seconds_of t ≡ seconds_of u → (day_count (pos t.year) t.month t.day ≡ day_count (pos u.year) u.month u.day) × (t.hour * 3600 + t.minute * 60 + t.second ≡ u.hour * 3600 + u.minute * 60 + u.second)
same_parts t u c d e =
    let a = days_from_civil-day_count (pos t.year) t.month t.day in
    let b = days_from_civil-day_count (pos u.year) u.month u.day in
    (omega (arith, signed_arith, e, a, b, c.hour, c.minute, c.second, d.hour, d.minute, d.second), omega (arith, signed_arith, e, a, b, c.hour, c.minute, c.second, d.hour, d.minute, d.second))

pub one_time : (t u : CivilTime) → is_civil t ≡ true → is_civil u ≡ true → seconds_of t ≡ seconds_of u → t ≡ u
one_time t u h k e =
    let c = from_civil t h in
    let d = from_civil u k in
    let days = same_parts t u c d e in
    let day = same_day t u c d days.0 in
    let hour : t.hour ≡ u.hour = omega (arith, days.1, c.minute, c.second, d.minute, d.second) in
    let minute : t.minute ≡ u.minute = omega (arith, days.1, hour, c.second, d.second) in
    let second : t.second ≡ u.second = omega (arith, days.1, hour, minute) in
    λ i. record { year = day.0 i; month = day.1 i; day = day.2 i; hour = hour i; minute = minute i; second = second i }

pub calendar : IsCalendar
unfolding civil_of year_from month_from
calendar = record { civil = civil_moment; seconds = seconds_of_moment; one = one_time; first = refl; leap_day = refl; last = refl }
