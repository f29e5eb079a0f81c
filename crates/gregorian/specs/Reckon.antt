-- How the code reckons: dates in closed form, by cycles of 1,461 days. `Calendar` says what is meant; the proofs show that the two agree.
use Rattle.std.specs.Prelude.{ℕ, ◌+◌, ◌-◌, ◌*◌, ◌/◌, ◌%◌, cond, List, [], ◌∷◌, ◌==◌, nat_le, nat_lt, slice_index}
use Rattle.gregorian.specs.declared.kinds.Date.{Date}

-- the days of a leap year before each month, and of the whole year
abbrev pub starts : List ℕ
starts = 0 ∷ 31 ∷ 60 ∷ 91 ∷ 121 ∷ 152 ∷ 182 ∷ 213 ∷ 244 ∷ 274 ∷ 305 ∷ 335 ∷ 366 ∷ []

-- the month, from 0, after e days of a leap year
abbrev pub month_at : ℕ → ℕ
month_at e = cond (nat_le (slice_index starts (e / 32 + 1)) e) (e / 32 + 1) (e / 32)

-- the date after e days of year y, which is counted as a leap year
abbrev pub in_leap_year : ℕ → ℕ → Date
in_leap_year y e = record { year = y; month = month_at e + 1; day = e - slice_index starts (month_at e) + 1 }

-- the date after e days of the common year y
abbrev pub in_common_year : ℕ → ℕ → Date
in_common_year y e = in_leap_year y (cond (nat_lt e 59) e (e + 1))

-- the date after r days of the years 2000 to 2003
abbrev pub in_cycle : ℕ → Date
in_cycle r = cond (nat_lt r 366) (in_leap_year 2000 r) (in_common_year (2001 + (r - 366) / 365) ((r - 366) % 365))

-- the date c cycles later
abbrev pub moved : ℕ → Date → Date
moved c x = record { year = x.year + 4 * c; month = x.month; day = x.day }

-- the date of day n
abbrev pub reckoned_date : ℕ → Date
reckoned_date n = moved (n / 1461) (in_cycle (n % 1461))

-- 1 where month m, from 0, follows a February of 28 days in the year 2000 + k
abbrev pub gap : ℕ → ℕ → ℕ
gap k m = cond (k % 4 == 0) 0 (cond (nat_lt m 2) 0 1)

-- the first day of month m, from 0, of the year 2000 + k
abbrev pub start_of : ℕ → ℕ → ℕ
start_of k m = 365 * k + (k + 3) / 4 + slice_index starts m - gap k m

-- the days of month m, from 0, of the year 2000 + k
abbrev pub length_of : ℕ → ℕ → ℕ
length_of k m = start_of k (m + 1) - start_of k m
