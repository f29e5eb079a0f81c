-- The Gregorian calendar from 1 January 2000, day 0, to 31 December 2099, day 36,524.
use Rattle.std.specs.Prelude.{◌≡◌, ℕ, zero, suc, ◌+◌, ◌-◌, ◌%◌, ◌<◌, ◌≤◌, Bool, true, false, cond, not, ◌&&◌, ◌||◌, List, [], ◌∷◌, take, Ok, Err, sum, Result, ◌==◌, nat_le, nat_lt, slice_index}
use Rattle.gregorian.specs.declared.kinds.Date.{Date}
use Rattle.gregorian.specs.declared.kinds.CalendarFault.{CalendarFault}
use Rattle.gregorian.specs.declared.kinds.CalendarFault.TheVariants.{NotInCalendar}

-- a leap year: 4 divides it, and 100 does not or 400 does
abbrev pub leap : ℕ → Bool
leap y = y % 4 == 0 && (not (y % 100 == 0) || y % 400 == 0)

-- the days of each month of year y
abbrev pub months : ℕ → List ℕ
months y = 31 ∷ cond (leap y) 29 28 ∷ 31 ∷ 30 ∷ 31 ∷ 30 ∷ 31 ∷ 31 ∷ 30 ∷ 31 ∷ 30 ∷ 31 ∷ []

-- the days of month m of year y; January is month 1
abbrev pub days_in : ℕ → ℕ → ℕ
days_in y m = slice_index (months y) (m - 1)

-- day d of month m of year y is a date of the calendar
abbrev pub valid : ℕ → ℕ → ℕ → Bool
valid y m d = nat_le 2000 y && nat_le y 2099 && nat_le 1 m && nat_le m 12 && nat_le 1 d && nat_le d (days_in y m)

-- the date after a date
abbrev pub tomorrow : Date → Date
tomorrow x =
    cond (nat_lt x.day (days_in x.year x.month)) record { year = x.year; month = x.month; day = x.day + 1 }
    (cond (nat_lt x.month 12) record { year = x.year; month = x.month + 1; day = 1 } record { year = x.year + 1; month = 1; day = 1 })

-- the date of day n: n tomorrows after 1 January 2000
abbrev pub date_of : ℕ → Date
date_of zero = record { year = 2000; month = 1; day = 1 }
date_of (suc n) = tomorrow (date_of n)

-- the days from 1 January 2000 to 1 January of the year 2000 + k
abbrev pub days_before : ℕ → ℕ
days_before zero = 0
days_before (suc k) = days_before k + sum (months (2000 + k))

-- the days of year y before month m
abbrev pub month_start : ℕ → ℕ → ℕ
month_start y m = sum (take (m - 1) (months y))

-- the day number of a date: the days before it, summed by years and months
abbrev pub day_of : ℕ → ℕ → ℕ → ℕ
day_of y m d = days_before (y - 2000) + month_start y m + (d - 1)

-- what is answered of day n: an answer on a day of the calendar, a refusal on any other
abbrev pub in_calendar : {A : Type 0} → ℕ → A → Result A CalendarFault
in_calendar n a = cond (nat_lt n 36525) (Ok a) (Err NotInCalendar)

-- the date that is answered for a day number
abbrev pub dated : ℕ → Result Date CalendarFault
dated n = in_calendar n (date_of n)

-- the day number that is answered for a date
abbrev pub numbered : ℕ → ℕ → ℕ → Result ℕ CalendarFault
numbered y m d = cond (valid y m d) (Ok (day_of y m d)) (Err NotInCalendar)

-- the theorem: each day is the number of its date, and each date is that of its number
abbrev pub NothingLost : Type 0
NothingLost =
    ((n : ℕ) → n < 36525 → numbered (date_of n).year (date_of n).month (date_of n).day ≡ Ok n)
    × ((y m d : ℕ) → valid y m d ≡ true → dated (day_of y m d) ≡ Ok record { year = y; month = m; day = d })

-- the ranges of a date's parts
pub record Ranged (x : Date) : Type 0 where
  pub year_from : 2000 ≤ x.year
  pub year_to : x.year ≤ 2099
  pub month_from : 1 ≤ x.month
  pub month_to : x.month ≤ 12
  pub day_from : 1 ≤ x.day
  pub day_to : x.day ≤ 31

-- the calendar place of a date, from 1 to 366, counted as in a leap year, as 2000 is: 1 March is 61 in every year
abbrev pub place_of : Date → ℕ
place_of x = month_start 2000 x.month + x.day

-- the date stands after day d of month m of its year
abbrev pub after : ℕ → ℕ → Date → Bool
after m d x = nat_lt m x.month || (x.month == m && nat_lt d x.day)

-- the winter season: from 1 December to 15 May
abbrev pub in_season : Date → Bool
in_season x = after 11 30 x || not (after 5 15 x)

-- the year on whose 1 December an ordinary notice takes effect: its own, and after 30 September the next
abbrev pub effective_year : Date → ℕ
effective_year x = cond (after 9 30 x) (x.year + 1) x.year

-- the effective day of an ordinary notice of day n
abbrev pub effective : ℕ → Result ℕ CalendarFault
effective n = cond (nat_lt n 36525) (numbered (effective_year (date_of n)) 12 1) (Err NotInCalendar)

-- worked examples: day numbers, the last day, notices, calendar places, the season, and what is refused
abbrev pub Examples : Type 0
Examples =
    (numbered 2024 12 1 ≡ Ok 9101)
    × (dated 9101 ≡ Ok record { year = 2024; month = 12; day = 1 })
    × (numbered 2025 5 15 ≡ Ok 9266)
    × (dated 36524 ≡ Ok record { year = 2099; month = 12; day = 31 })
    × (numbered 2024 9 30 ≡ Ok 9039)
    × (effective 9039 ≡ numbered 2024 12 1)
    × (numbered 2024 10 1 ≡ Ok 9040)
    × (effective 9040 ≡ numbered 2025 12 1)
    × (dated 36432 ≡ Ok record { year = 2099; month = 9; day = 30 })
    × (effective 36432 ≡ numbered 2099 12 1)
    × (effective 36433 ≡ Err NotInCalendar)
    × (place_of record { year = 2024; month = 2; day = 29 } ≡ 60)
    × (place_of record { year = 2024; month = 3; day = 1 } ≡ 61)
    × (place_of record { year = 2023; month = 3; day = 1 } ≡ 61)
    × (in_season record { year = 2025; month = 5; day = 15 } ≡ true)
    × (in_season record { year = 2025; month = 5; day = 16 } ≡ false)
    × (in_season record { year = 2025; month = 11; day = 30 } ≡ false)
    × (in_season record { year = 2025; month = 12; day = 1 } ≡ true)
    × (numbered 2023 2 29 ≡ Err NotInCalendar)
    × (numbered 2100 2 29 ≡ Err NotInCalendar)
    × (dated 36525 ≡ Err NotInCalendar)
