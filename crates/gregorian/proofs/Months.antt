-- Months in closed form: their lengths, their first days, and the table of a leap year.
use Rattle.std.proofs.Common.{◌≡◌, ℕ, ◌+◌, ◌-◌, ◌<◌, ◌≤◌, Bool, true, ◌&&◌, eqb, ltb, leb, get_or, refl, ap, subst, arith}
use Rattle.std.proofs.lemmas.Bool.{and_parts, eqb-true, leb-true, ltb-true}
use Rattle.gregorian.specs.Calendar.{days_in, days_before, month_start, day_of, Ranged}
use Rattle.gregorian.specs.Reckon.{starts, month_at, in_leap_year, start_of, length_of}
use Rattle.gregorian.proofs.Checks.{all_below, passed, three_parts}
use Rattle.gregorian.proofs.Dates.{Valid}

-- each month has the length and the first day that the definition says, and ends in the calendar
abbrev month_test : ℕ → ℕ → Bool
month_test k m =
    eqb (days_in (2000 + k) (m + 1)) (length_of k m)
    && (eqb (days_before k + month_start (2000 + k) (m + 1)) (start_of k m) && leb (start_of k m + length_of k m) 36525)

month_tests : all_below 100 (λ k. all_below 12 (month_test k)) ≡ true
month_tests = refl

month_by : (k m : ℕ) → month_test k m ≡ true
    → (days_in (2000 + k) (m + 1) ≡ length_of k m) × (days_before k + month_start (2000 + k) (m + 1) ≡ start_of k m)
    × (start_of k m + length_of k m ≤ 36525)
month_by k m t =
    let p = three_parts t in (
      eqb-true (days_in (2000 + k) (m + 1)) (length_of k m) p.0,
      eqb-true (days_before k + month_start (2000 + k) (m + 1)) (start_of k m) p.1,
      leb-true (start_of k m + length_of k m) 36525 p.2,
    )

-- the same by the year and by the month from 1
pub record Month (y m : ℕ) : Type 0 where
  pub long : days_in y m ≡ length_of (y - 2000) (m - 1)
  pub start : days_before (y - 2000) + month_start y m ≡ start_of (y - 2000) (m - 1)
  pub room : start_of (y - 2000) (m - 1) + length_of (y - 2000) (m - 1) ≤ 36525

pub month_is : (y m : ℕ) → 2000 ≤ y → y ≤ 2099 → 1 ≤ m → m ≤ 12 → Month y m
month_is y m a b c d =
    let k = y - 2000 in let n = m - 1 in
    let h = month_by k n (passed (month_test k) 12 (passed (λ j. all_below 12 (month_test j)) 100 month_tests k (omega arith)) n (omega arith)) in
    let ey : 2000 + k ≡ y = omega arith in let em : n + 1 ≡ m = omega arith in
    record {
      long = subst (λ (x : ℕ). days_in x m ≡ length_of k n) ey (subst (λ (x : ℕ). days_in (2000 + k) x ≡ length_of k n) em h.0);
      start = subst (λ (x : ℕ). days_before k + month_start x m ≡ start_of k n) ey (subst (λ (x : ℕ). days_before k + month_start (2000 + k) x ≡ start_of k n) em h.1);
      room = h.2;
    }

pub month_of : (y m d : ℕ) → Valid y m d → Month y m
month_of y m d v = month_is y m v.year_from v.year_to v.month_from v.month_to

-- the number of a date, in closed form
pub number_is : (y m d : ℕ) → Valid y m d → day_of y m d ≡ start_of (y - 2000) (m - 1) + (d - 1)
number_is y m d v = ap (λ n. n + (d - 1)) (month_of y m d v).start

pub number_small : (y m d : ℕ) → Valid y m d → day_of y m d < 36525
number_small y m d v =
    let mo = month_of y m d v in omega (arith, number_is y m d v, mo.long, mo.room, v.day_from, v.day_to)

-- the table against the sums over a leap year
abbrev table_test : ℕ → Bool
table_test m = eqb (get_or starts m 0) (month_start 2000 (m + 1)) && leb (get_or starts m 0) 335

table_tests : all_below 12 table_test ≡ true
table_tests = refl

pub table_is : (m : ℕ) → m < 12 → (get_or starts m 0 ≡ month_start 2000 (m + 1)) × (get_or starts m 0 ≤ 335)
table_is m h =
    let t = and_parts (eqb (get_or starts m 0) (month_start 2000 (m + 1))) (leb (get_or starts m 0) 335) (passed table_test 12 table_tests m h) in
    (eqb-true (get_or starts m 0) (month_start 2000 (m + 1)) t.0, leb-true (get_or starts m 0) 335 t.1)

-- each day of a leap year lies in the month that the table gives
abbrev range_test : ℕ → Bool
range_test e = ltb (month_at e) 12 && (leb (get_or starts (month_at e) 0) e && ltb (e - get_or starts (month_at e) 0) 31)

range_tests : all_below 366 range_test ≡ true
range_tests = refl

range_by : (e : ℕ) → range_test e ≡ true → (month_at e < 12) × (e - get_or starts (month_at e) 0 < 31)
range_by e t = let p = three_parts t in (ltb-true (month_at e) 12 p.0, ltb-true (e - get_or starts (month_at e) 0) 31 p.2)

pub ranged : (y e : ℕ) → 2000 ≤ y → y ≤ 2099 → e < 366 → Ranged (in_leap_year y e)
ranged y e a b h =
    let p = range_by e (passed range_test 366 range_tests e h) in
    record { year_from = a; year_to = b; month_from = omega arith; month_to = omega arith; day_from = omega arith; day_to = omega arith }
