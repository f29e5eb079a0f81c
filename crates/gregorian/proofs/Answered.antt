-- What the calendar answers for a day or a date, in the terms in which it is reckoned.
use Rattle.std.proofs.Common.{◌≡◌, ℕ, ◌+◌, ◌-◌, ◌<◌, ◌≤◌, ltb, get_or, Ok, Err, sym, ap, ◌∙◌, arith}
use Rattle.std.proofs.lemmas.Bool.{cond-true}
use Rattle.gregorian.specs.declared.kinds.Date.{Date}
use Rattle.gregorian.specs.declared.kinds.CalendarFault.TheVariants.{NotInCalendar}
use Rattle.gregorian.specs.Calendar.{days_in, date_of, day_of, month_start, numbered, dated, in_calendar, place_of, Ranged}
use Rattle.gregorian.specs.Reckon.{starts, start_of}
use Rattle.gregorian.proofs.Checks.{answer_is}
use Rattle.gregorian.proofs.Dates.{Valid, numbered_at, numbered_not}
use Rattle.gregorian.proofs.Months.{month_is, number_is, number_small, table_is}
use Rattle.gregorian.proofs.RoundTrip.{date_is}

-- a day is one of its month exactly if it comes before the next month
length_is : (y m : ℕ) → 2000 ≤ y → y ≤ 2099 → 1 ≤ m → m ≤ 12 → days_in y m ≡ start_of (y - 2000) m - start_of (y - 2000) (m - 1)
length_is y m a b c e =
    let em : m - 1 + 1 ≡ m = omega arith in
    (month_is y m a b c e).long ∙ ap (λ n. start_of (y - 2000) n - start_of (y - 2000) (m - 1)) em

pub number_refused : (y m d : ℕ) → 2000 ≤ y → y ≤ 2099 → 1 ≤ m → m ≤ 12 → 1 ≤ d
    → start_of (y - 2000) m ≤ start_of (y - 2000) (m - 1) + (d - 1) → Err NotInCalendar ≡ numbered y m d
number_refused y m d a b c e f h = sym (numbered_not y m d (λ v. omega (arith, length_is y m a b c e, v.day_to)))

pub number_valid : (y m d : ℕ) → 2000 ≤ y → y ≤ 2099 → 1 ≤ m → m ≤ 12 → 1 ≤ d
    → start_of (y - 2000) (m - 1) + (d - 1) < start_of (y - 2000) m → Valid y m d
number_valid y m d a b c e f h =
    record { year_from = a; year_to = b; month_from = c; month_to = e; day_from = f; day_to = omega (arith, length_is y m a b c e) }

-- what is known of the number of a date
pub record Number (y m d n : ℕ) : Type 0 where
  pub value : Ok n ≡ numbered y m d
  pub back : dated n ≡ Ok record { year = y; month = m; day = d }
  pub inside : n < 36525

pub number_at : (y m d n : ℕ) → Valid y m d → n ≡ start_of (y - 2000) (m - 1) + (d - 1) → Number y m d n
number_at y m d n v e =
    let q : n ≡ day_of y m d = e ∙ sym (number_is y m d v) in
    record { value = ap Ok q ∙ sym (numbered_at y m d v); back = ap dated q ∙ date_is y m d v; inside = omega (arith, q, number_small y m d v) }

-- the calendar place by the table of a leap year
pub table_small : (x : Date) → Ranged x → get_or starts (x.month - 1) 0 ≤ 335
table_small x r = (table_is (x.month - 1) (omega (arith, r.month_from, r.month_to))).1

pub place_is : (n : ℕ) (x : Date) → Ok x ≡ dated n → Ranged x → Ok (get_or starts (x.month - 1) 0 + x.day) ≡ in_calendar n (place_of (date_of n))
place_is n x e r =
    let p = answer_is (ltb n 36525) x (date_of n) e in
    let t = (table_is (x.month - 1) (omega (arith, r.month_from, r.month_to))).0 in
    let em : x.month - 1 + 1 ≡ x.month = omega (arith, r.month_from) in
    ap (λ a. Ok (a + x.day)) (t ∙ ap (month_start 2000) em) ∙ ap (λ a. Ok (place_of a)) p.1
    ∙ sym (cond-true (ltb n 36525) (Ok (place_of (date_of n))) (Err NotInCalendar) p.0)
