-- What the test of a date says, and what is answered for a date.
use Rattle.std.proofs.Common.{◌≡◌, ℕ, ◌≤◌, Bool, true, false, ◌&&◌, leb, Ok, Err, refl, inl, inr, arith}
use Rattle.std.proofs.lemmas.Bool.{cases_Bool, leb-true, le-leb, cond-true, cond-false}
use Rattle.gregorian.specs.declared.kinds.CalendarFault.TheVariants.{NotInCalendar}
use Rattle.gregorian.specs.Calendar.{days_in, day_of, valid, numbered}
use Rattle.gregorian.proofs.Checks.{answer_is}

-- day d of month m of year y is a date of the calendar
pub record Valid (y m d : ℕ) : Type 0 where
  pub year_from : 2000 ≤ y
  pub year_to : y ≤ 2099
  pub month_from : 1 ≤ m
  pub month_to : m ≤ 12
  pub day_from : 1 ≤ d
  pub day_to : d ≤ days_in y m

six_parts : (a b c d e f : Bool) → (a && b && c && d && e && f) ≡ true → (a ≡ true) × (b ≡ true) × (c ≡ true) × (d ≡ true) × (e ≡ true) × (f ≡ true)
six_parts true true true true true true t = (refl, refl, refl, refl, refl, refl)
six_parts true true true true true false t = absurd (grind arith)
six_parts true true true true false f t = absurd (grind arith)
six_parts true true true false e f t = absurd (grind arith)
six_parts true true false d e f t = absurd (grind arith)
six_parts true false c d e f t = absurd (grind arith)
six_parts false b c d e f t = absurd (grind arith)

pub valid_parts : (y m d : ℕ) → valid y m d ≡ true → Valid y m d
valid_parts y m d t =
    let p = six_parts (leb 2000 y) (leb y 2099) (leb 1 m) (leb m 12) (leb 1 d) (leb d (days_in y m)) t in
    record {
      year_from = leb-true 2000 y p.0;
      year_to = leb-true y 2099 p.1;
      month_from = leb-true 1 m p.2;
      month_to = leb-true m 12 p.3;
      day_from = leb-true 1 d p.4;
      day_to = leb-true d (days_in y m) p.5;
    }

pub valid_from : (y m d : ℕ) → Valid y m d → valid y m d ≡ true
valid_from y m d v =
    rw (
      le-leb 2000 y v.year_from,
      le-leb y 2099 v.year_to,
      le-leb 1 m v.month_from,
      le-leb m 12 v.month_to,
      le-leb 1 d v.day_from,
      le-leb d (days_in y m) v.day_to,
    )

pub valid_not : (y m d : ℕ) → (Valid y m d → ⊥) → valid y m d ≡ false
valid_not y m d no' = elim (cases_Bool (valid y m d)) [ inl t ↦ absurd (no' (valid_parts y m d t)) | inr f ↦ f ]

-- a date has its number, anything else is refused
pub numbered_at : (y m d : ℕ) → Valid y m d → numbered y m d ≡ Ok (day_of y m d)
numbered_at y m d v = cond-true (valid y m d) (Ok (day_of y m d)) (Err NotInCalendar) (valid_from y m d v)

pub numbered_not : (y m d : ℕ) → (Valid y m d → ⊥) → numbered y m d ≡ Err NotInCalendar
numbered_not y m d no' = cond-false (valid y m d) (Ok (day_of y m d)) (Err NotInCalendar) (valid_not y m d no')

pub numbered_ok : (y m d n : ℕ) → Ok n ≡ numbered y m d → Valid y m d × (n ≡ day_of y m d)
numbered_ok y m d n e = let p = answer_is (valid y m d) n (day_of y m d) e in (valid_parts y m d p.0, p.1)
