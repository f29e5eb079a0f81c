-- The closed form takes each day to its tomorrow: tests over one cycle of four years, and the move to any other.
use Rattle.std.proofs.Common.{◌≡◌, ℕ, zero, suc, ◌+◌, ◌-◌, ◌*◌, ◌/◌, ◌%◌, ◌<◌, ◌≤◌, Bool, true, false, cond, ◌&&◌, eqb, ltb, leb, sym, refl, ap, ◌∙◌, subst, inl, inr, arith}
use Rattle.std.proofs.lemmas.Bool.{cases_lt, eqb-true, leb-true}
use Rattle.std.proofs.lemmas.Bool.Decides.{nat_tests}
use Rattle.gregorian.specs.declared.kinds.Date.{Date}
use Rattle.gregorian.specs.Calendar.{leap, days_in, tomorrow, date_of, valid}
use Rattle.gregorian.specs.Reckon.{in_cycle, moved, reckoned_date, gap, start_of}
use Rattle.gregorian.proofs.Checks.{all_below, passed, three_parts, same, same_is, alike, alike_is}
use Rattle.gregorian.proofs.Dates.{Valid, valid_parts}

-- x is a date of the calendar, and n its number in closed form
pub record Numbers (x : Date) (n : ℕ) : Type 0 where
  pub is : Valid x.year x.month x.day
  pub at : start_of (x.year - 2000) (x.month - 1) + (x.day - 1) ≡ n

-- each day of the first cycle is the number of its date
abbrev day_test : Date → ℕ → Bool
day_test x r =
    leb x.year 2003 && (valid x.year x.month x.day && eqb (start_of (x.year - 2000) (x.month - 1) + (x.day - 1)) r)

day_tests : all_below 1461 (λ r. day_test (in_cycle r) r) ≡ true
day_tests = refl

first_by : (x : Date) (r : ℕ) → day_test x r ≡ true → (x.year ≤ 2003) × Numbers x r
first_by x r t =
    let p = three_parts t in (
      leb-true x.year 2003 p.0,
      record {
        is = valid_parts x.year x.month x.day p.1;
        at = eqb-true (start_of (x.year - 2000) (x.month - 1) + (x.day - 1)) r p.2;
      },
    )

first_is : (r : ℕ) → r < 1461 → ((in_cycle r).year ≤ 2003) × Numbers (in_cycle r) r
first_is r h = first_by (in_cycle r) r (passed (λ k. day_test (in_cycle k) k) 1461 day_tests r h)

-- months are as long c cycles later
abbrev leap_test : ℕ → ℕ → Bool
leap_test c k = alike (leap (2000 + k + 4 * c)) (leap (2000 + k))

leap_tests : all_below 25 (λ c. all_below 4 (leap_test c)) ≡ true
leap_tests = refl

leap-moved : (y c : ℕ) → 2000 ≤ y → y ≤ 2003 → c < 25 → leap (y + 4 * c) ≡ leap y
leap-moved y c a b h =
    let k = y - 2000 in let ey : 2000 + k ≡ y = omega arith in
    subst (λ (x : ℕ). leap (x + 4 * c) ≡ leap x) ey
    (alike_is (leap (2000 + k + 4 * c)) (leap (2000 + k)) (passed (leap_test c) 4 (passed (λ a. all_below 4 (leap_test a)) 25 leap_tests c h) k (omega arith)))

days_moved : (y c m : ℕ) → 2000 ≤ y → y ≤ 2003 → c < 25 → days_in (y + 4 * c) m ≡ days_in y m
days_moved y c m a b h = rw (leap-moved y c a b h)

-- a month starts 1,461 days later in the next cycle
gap_small : (k m : ℕ) → gap k m ≤ k
gap_small k m = grind (arith, nat_tests)

pub start_moved : (k c m : ℕ) → start_of (k + 4 * c) m ≡ start_of k m + 1461 * c
start_moved k c m =
    let r : (k + 4 * c) % 4 ≡ k % 4 = omega arith in
    let g : gap (k + 4 * c) m ≡ gap k m = ap (λ a. cond (eqb a 0) 0 (cond (ltb m 2) 0 1)) r in omega (arith, g, gap_small k m)

-- each day of the calendar is the number of its date
numbers_moved : (n c r : ℕ) (x : Date) → c < 25 → n ≡ 1461 * c + r → x.year ≤ 2003 → Numbers x r → Numbers (moved c x) n
numbers_moved n c r x hc e h f =
    let y = x.year in let m = x.month in let v = f.is in
    let k : y + 4 * c - 2000 ≡ y - 2000 + 4 * c = omega (arith, v.year_from) in
    let s : start_of (y + 4 * c - 2000) (m - 1) ≡ start_of (y - 2000) (m - 1) + 1461 * c = ap (λ a. start_of a (m - 1)) k ∙ start_moved (y - 2000) c (m - 1) in
    record {
      is =
          record {
            year_from = omega (arith, v.year_from);
            year_to = omega arith;
            month_from = v.month_from;
            month_to = v.month_to;
            day_from = v.day_from;
            day_to = rw (days_moved y c m v.year_from h hc) v.day_to;
          };
      at = omega (arith, s, f.at);
    }

pub numbers : (n : ℕ) → n < 36525 → Numbers (reckoned_date n) n
numbers n h =
    let f = first_is (n % 1461) (omega arith) in
    numbers_moved n (n / 1461) (n % 1461) (in_cycle (n % 1461)) (omega arith) (omega arith) f.0 f.1

-- tomorrow is the same c cycles later
abbrev next : Bool → Bool → Date → Date
next a b x =
    cond a record { year = x.year; month = x.month; day = x.day + 1 }
    (cond b record { year = x.year; month = x.month + 1; day = 1 } record { year = x.year + 1; month = 1; day = 1 })

next-moved : (a b : Bool) (c : ℕ) (x : Date) → next a b (moved c x) ≡ moved c (next a b x)
next-moved true b c x = refl
next-moved false true c x = refl
next-moved false false c x = let e : x.year + 4 * c + 1 ≡ x.year + 1 + 4 * c = omega arith in ap (λ n. record { year = n; month = 1; day = 1 }) e

tomorrow-moved : (c : ℕ) (x : Date) → days_in (x.year + 4 * c) x.month ≡ days_in x.year x.month → tomorrow (moved c x) ≡ moved c (tomorrow x)
tomorrow-moved c x e =
    ap (λ n. next (ltb x.day n) (ltb x.month 12) (moved c x)) e ∙ next-moved (ltb x.day (days_in x.year x.month)) (ltb x.month 12) c x

-- the closed form takes each day to the next
abbrev step_test : ℕ → Bool
step_test r = same (tomorrow (in_cycle r)) (in_cycle (suc r))

step_tests : all_below 1460 step_test ≡ true
step_tests = refl

pub reckoned_at : (n c r : ℕ) → r < 1461 → n ≡ 1461 * c + r → reckoned_date n ≡ moved c (in_cycle r)
reckoned_at n c r h e =
    let q : n / 1461 ≡ c = omega arith in let s : n % 1461 ≡ r = omega arith in
    ap (λ a. moved a (in_cycle (n % 1461))) q ∙ ap (λ a. moved c (in_cycle a)) s

last_step : (c r : ℕ) → r ≡ 1460 → moved c (tomorrow (in_cycle r)) ≡ moved (c + 1) (in_cycle 0)
last_step c r e =
    let y : 2004 + 4 * c ≡ 2000 + 4 * (c + 1) = omega arith in
    ap (λ a. moved c (tomorrow (in_cycle a))) e ∙ ap (λ a. record { year = a; month = 1; day = 1 }) y

step_by : (n c r : ℕ) → c < 25 → r < 1461 → n ≡ 1461 * c + r → tomorrow (moved c (in_cycle r)) ≡ reckoned_date (suc n)
step_by n c r hc hr e =
    let f = first_is r hr in
    tomorrow-moved c (in_cycle r) (days_moved (in_cycle r).year c (in_cycle r).month f.1.is.year_from f.0 hc)
    ∙ elim (cases_lt r 1460) [
      | inl lt ↦
          ap (moved c) (same_is (tomorrow (in_cycle r)) (in_cycle (suc r)) (passed step_test 1460 step_tests r lt))
          ∙ sym (reckoned_at (suc n) c (suc r) (omega arith) (omega arith))
      | inr ge ↦ last_step c r (omega arith) ∙ sym (reckoned_at (suc n) (c + 1) 0 (omega arith) (omega arith))
    ]

-- the date by tomorrows is the date in closed form
pub reckoned_is : (n : ℕ) → n < 36525 → date_of n ≡ reckoned_date n
reckoned_is zero h = refl
reckoned_is (suc n) h = ap tomorrow (reckoned_is n (omega arith)) ∙ step_by n (n / 1461) (n % 1461) (omega arith) (omega arith) (omega arith)
