-- Day numbers and dates correspond one to one: the proof of the calendar's theorem.
use Rattle.std.proofs.Common.{◌≡◌, ℕ, ◌+◌, ◌-◌, ◌*◌, ◌/◌, ◌%◌, ◌<◌, Bool, true, ◌&&◌, ltb, Ok, Err, sym, refl, ap, ◌∙◌, subst, arith}
use Rattle.std.proofs.lemmas.Bool.{and_parts, ltb-true, cond-true, lt-ltb}
use Rattle.gregorian.specs.declared.kinds.Date.{Date}
use Rattle.gregorian.specs.declared.kinds.CalendarFault.TheVariants.{NotInCalendar}
use Rattle.gregorian.specs.Calendar.{date_of, day_of, numbered, dated, NothingLost}
use Rattle.gregorian.specs.Reckon.{in_cycle, moved, reckoned_date, start_of, length_of}
use Rattle.gregorian.proofs.Checks.{all_below, passed, by_parts, same, same_is}
use Rattle.gregorian.proofs.Dates.{Valid, valid_parts, numbered_at}
use Rattle.gregorian.proofs.Months.{Month, month_of, number_is}
use Rattle.gregorian.proofs.Cycles.{Numbers, numbers, start_moved, reckoned_at, reckoned_is}

-- from a day to its date and back
numbered_by : (x : Date) (n : ℕ) → Numbers x n → numbered x.year x.month x.day ≡ Ok n
numbered_by x n f = numbered_at x.year x.month x.day f.is ∙ ap Ok (number_is x.year x.month x.day f.is ∙ f.at)

pub back_is : (n : ℕ) → n < 36525 → numbered (reckoned_date n).year (reckoned_date n).month (reckoned_date n).day ≡ Ok n
back_is n h = numbered_by (reckoned_date n) n (numbers n h)

pub dated_is : (n : ℕ) → n < 36525 → dated n ≡ Ok (reckoned_date n)
dated_is n h = cond-true (ltb n 36525) (Ok (date_of n)) (Err NotInCalendar) (lt-ltb n 36525 h) ∙ ap Ok (reckoned_is n h)

-- each date of the first cycle is that of its number
abbrev date_test : ℕ → ℕ → ℕ → Bool
date_test k m i = ltb (start_of k m + i) 1461 && same (in_cycle (start_of k m + i)) record { year = 2000 + k; month = m + 1; day = i + 1 }

date_tests : all_below 4 (λ k. all_below 12 (λ m. all_below (length_of k m) (date_test k m))) ≡ true
date_tests = refl

cycle_date : (k c m i : ℕ) → k < 4 → m < 12 → i < length_of k m
    → reckoned_date (1461 * c + (start_of k m + i)) ≡ record { year = 2000 + k + 4 * c; month = m + 1; day = i + 1 }
cycle_date k c m i hk hm hi =
    let r = start_of k m + i in
    let of-year = passed (λ a. all_below 12 (λ j. all_below (length_of a j) (date_test a j))) 4 date_tests k hk in
    let of-month = passed (λ j. all_below (length_of k j) (date_test k j)) 12 of-year m hm in
    let t = passed (date_test k m) (length_of k m) of-month i hi in
    let p = and_parts (ltb r 1461) (same (in_cycle r) record { year = 2000 + k; month = m + 1; day = i + 1 }) t in
    reckoned_at (1461 * c + r) c r (ltb-true r 1461 p.0) refl
    ∙ ap (moved c) (same_is (in_cycle r) record { year = 2000 + k; month = m + 1; day = i + 1 } p.1)

-- from a date to its number and back
date_from : (e n : ℕ) (a b : Date) → e ≡ n → n < 36525 → reckoned_date n ≡ a → a ≡ b → dated e ≡ Ok b
date_from e n a b q h r s = ap dated q ∙ dated_is n h ∙ ap Ok (r ∙ s)

date_by_lem : (y m d k c : ℕ) → y ≡ 2000 + k + 4 * c → k < 4 → Valid y m d → Month y m → dated (day_of y m d) ≡ Ok record { year = y; month = m; day = d }
date_by_lem y m d k c ey hk v mo =
    let n = m - 1 in let i = d - 1 in
    let ek : y - 2000 ≡ k + 4 * c = omega arith in
    let s : start_of (y - 2000) n ≡ start_of k n + 1461 * c = ap (λ a. start_of a n) ek ∙ start_moved k c n in
    let l : start_of (y - 2000) (n + 1) ≡ start_of k (n + 1) + 1461 * c = ap (λ a. start_of a (n + 1)) ek ∙ start_moved k c (n + 1) in
    let lt : i < length_of k n = omega (arith, s, l, mo.long, v.day_to, v.day_from) in
    let e : day_of y m d ≡ 1461 * c + (start_of k n + i) = omega (arith, number_is y m d v, s) in
    let a : Date = record { year = 2000 + k + 4 * c; month = n + 1; day = i + 1 } in
    date_from (day_of y m d) (1461 * c + (start_of k n + i)) a record { year = y; month = m; day = d } e (omega (arith, s, l, lt, mo.room))
    (cycle_date k c n i hk (omega (arith, v.month_from, v.month_to)) lt)
    (by_parts a record { year = y; month = m; day = d } (sym ey) (omega (arith, v.month_from)) (omega (arith, v.day_from)))

pub date_is : (y m d : ℕ) → Valid y m d → dated (day_of y m d) ≡ Ok record { year = y; month = m; day = d }
date_is y m d v = date_by_lem y m d ((y - 2000) % 4) ((y - 2000) / 4) (omega (arith, v.year_from)) (omega arith) v (month_of y m d v)

pub nothing_lost : NothingLost
nothing_lost = (
  λ n h. let P : Date → Type 0 = λ x. numbered x.year x.month x.day ≡ Ok n in subst P (sym (reckoned_is n h)) (back_is n h),
  λ y m d t. date_is y m d (valid_parts y m d t),
)
