-- The effective day of a notice: up to which day there is one, and that it comes after the notice.
use Rattle.std.proofs.Common.{◌≡◌, ℕ, ◌+◌, ◌-◌, ◌<◌, ◌≤◌, Bool, true, cond, ◌&&◌, ltb, leb, is_ok, IfOk, Ok, Err, Result, sym, refl, ap, ◌∙◌, subst, inl, inr, arith}
use Rattle.std.proofs.lemmas.Bool.{cases_eq, cases_lt, cond-true, cond-false, lt-ltb, le-ltb, le-leb, lt-leb}
use Rattle.std.proofs.lemmas.Bool.Decides.{nat_tests}
use Rattle.gregorian.specs.declared.kinds.Date.{Date}
use Rattle.gregorian.specs.declared.kinds.CalendarFault.{CalendarFault}
use Rattle.gregorian.specs.declared.kinds.CalendarFault.TheVariants.{NotInCalendar}
use Rattle.gregorian.specs.Calendar.{days_in, date_of, numbered, after, effective_year, effective}
use Rattle.gregorian.specs.Reckon.{reckoned_date, start_of}
use Rattle.gregorian.proofs.Checks.{all_below, passed}
use Rattle.gregorian.proofs.Dates.{Valid, numbered_at, numbered_not, numbered_ok}
use Rattle.gregorian.proofs.Months.{month_of, number_is, number_small}
use Rattle.gregorian.proofs.Cycles.{Numbers, numbers, reckoned_is}

-- a month of the year 2000 + k, from day s to the day before t, where a and b are 1 December of that year and of the next:
-- before October it ends before a, and by day 36,432; a later one ends before b, and by day 36,432 exactly if k is below 99
record Ends (k m s t a b : ℕ) : Type 0 where
  this_year : m < 9 → t ≤ a
  early : m < 9 → t ≤ 36433
  next_year : 9 ≤ m → t ≤ b
  middle : 9 ≤ m → k < 99 → t ≤ 36433
  late : 9 ≤ m → 99 ≤ k → 36433 ≤ s

abbrev ends_test : ℕ → ℕ → ℕ → ℕ → ℕ → ℕ → Bool
ends_test k m s t a b = cond (ltb m 9) (leb t a && leb t 36433) (leb t b && cond (ltb k 99) (leb t 36433) (leb 36433 s))

ends_by : (k m s t a b : ℕ) → ends_test k m s t a b ≡ true → Ends k m s t a b
ends_by k m s t a b e =
    record {
      this_year = λ h. grind (arith, nat_tests);
      early = λ h. grind (arith, nat_tests);
      next_year = λ h. grind (arith, nat_tests);
      middle = λ h i. grind (arith, nat_tests);
      late = λ h i. grind (arith, nat_tests);
    }

abbrev notice_test : ℕ → ℕ → Bool
notice_test k m = ends_test k m (start_of k m) (start_of k (m + 1)) (start_of k 11) (start_of (k + 1) 11)

notice_tests : all_below 100 (λ k. all_below 12 (notice_test k)) ≡ true
notice_tests = refl

ends : (k m : ℕ) → k < 100 → m < 12 → Ends k m (start_of k m) (start_of k (m + 1)) (start_of k 11) (start_of (k + 1) 11)
ends k m hk hm =
    ends_by k m (start_of k m) (start_of k (m + 1)) (start_of k 11) (start_of (k + 1) 11)
    (passed (notice_test k) 12 (passed (λ j. all_below 12 (notice_test j)) 100 notice_tests k hk) m hm)

-- September has 30 days, so what comes after it is in a later month
after_september : (x : Date) → Valid x.year x.month x.day → after 9 30 x ≡ ltb 9 x.month
after_september x v =
    elim (cases_eq x.month 9) [
      | inl e ↦ let d : x.day ≤ 30 = subst (λ (m : ℕ). x.day ≤ days_in x.year m) e v.day_to in grind (arith, nat_tests)
      | inr ne ↦ grind (arith, nat_tests)
    ]

-- 1 December of a year is in the calendar up to 2099
december : (y : ℕ) → 2000 ≤ y → is_ok (numbered y 12 1) ≡ leb y 2099
december y h =
    elim (cases_lt 2099 y) [
      | inl far ↦ ap is_ok (numbered_not y 12 1 (λ v. omega (arith, v.year_to))) ∙ sym (lt-leb y 2099 far)
      | inr near ↦
          let v : Valid y 12 1 =
          record { year_from = h; year_to = near; month_from = omega arith; month_to = omega arith; day_from = omega arith; day_to = omega arith } in
          ap is_ok (numbered_at y 12 1 v) ∙ sym (le-leb y 2099 near)
    ]

same_leb : (a b c d : ℕ) → (a ≤ b → c ≤ d) → (b < a → d < c) → leb a b ≡ leb c d
same_leb a b c d f g =
    elim (cases_lt b a) [ inl lt ↦ lt-leb a b lt ∙ sym (lt-leb c d (g lt)) | inr le ↦ le-leb a b le ∙ sym (le-leb c d (f le)) ]

-- the year y is the effective year of a notice of day n
record Effective (n y : ℕ) : Type 0 where
  from : 2000 ≤ y
  until : leb y 2099 ≡ leb n 36432
  later : n < start_of (y - 2000) 11

effective_by : (x : Date) (n : ℕ) → Numbers x n → Effective n (effective_year x)
effective_by x n f =
    let v = f.is in let y = x.year in let k = y - 2000 in let m = x.month - 1 in
    let e = ends k m (omega (arith, v.year_from, v.year_to)) (omega (arith, v.month_from, v.month_to)) in
    let lt : n < start_of k (m + 1) = omega (arith, f.at, (month_of y x.month x.day v).long, v.day_from, v.day_to) in
    let is : effective_year x ≡ cond (ltb 9 x.month) (y + 1) y = ap (λ b. cond b (y + 1) y) (after_september x v) in
    elim (cases_lt 9 x.month) [
      | inl after' ↦
          let c : 9 ≤ m = omega arith in
          let k' : k + 1 ≡ y + 1 - 2000 = omega (arith, v.year_from) in
          let s : start_of (k + 1) 11 ≡ start_of (y + 1 - 2000) 11 = ap (λ a. start_of a 11) k' in
          subst (λ (a : ℕ). Effective n a) (sym (is ∙ cond-true (ltb 9 x.month) (y + 1) y (lt-ltb 9 x.month after')))
          record {
            from = omega (arith, v.year_from);
            until =
                same_leb (y + 1) 2099 n 36432 (λ h. omega (arith, lt, e.middle c (omega (arith, v.year_from))))
                (λ h. omega (arith, f.at, e.late c (omega (arith, v.year_from))));
            later = omega (arith, s, lt, e.next_year c);
          }
      | inr before' ↦
          let c : m < 9 = omega (arith, v.month_from) in
          subst (λ (a : ℕ). Effective n a) (sym (is ∙ cond-false (ltb 9 x.month) (y + 1) y (le-ltb 9 x.month before')))
          record {
            from = v.year_from;
            until = le-leb y 2099 v.year_to ∙ sym (le-leb n 36432 (omega (arith, lt, e.early c)));
            later = omega (arith, lt, e.this_year c);
          }
    ]

effective_is : (n : ℕ) → n < 36525 → Effective n (effective_year (date_of n))
effective_is n h = subst (λ (x : Date). Effective n (effective_year x)) (sym (reckoned_is n h)) (effective_by (reckoned_date n) n (numbers n h))

-- a notice has an effective day exactly up to 30 September 2099
pub effective_until : (n : ℕ) → is_ok (effective n) ≡ leb n 36432
effective_until n =
    let y = effective_year (date_of n) in
    elim (cases_lt n 36525) [
      | inl h ↦
          let e = effective_is n h in
          ap is_ok (cond-true (ltb n 36525) (numbered y 12 1) (Err NotInCalendar) (lt-ltb n 36525 h)) ∙ december y e.from ∙ e.until
      | inr far ↦ ap is_ok (cond-false (ltb n 36525) (numbered y 12 1) (Err NotInCalendar) (le-ltb n 36525 far)) ∙ sym (lt-leb n 36432 (omega arith))
    ]

-- and it is a day of the calendar after the notice
later_by : (n d : ℕ) → n < 36525 → Ok d ≡ numbered (effective_year (date_of n)) 12 1 → (n < d) × (d < 36525)
later_by n d h e =
    let y = effective_year (date_of n) in let p = numbered_ok y 12 1 d e in
    (omega (arith, (effective_is n h).later, p.1, number_is y 12 1 p.0), omega (arith, p.1, number_small y 12 1 p.0))

pub effective_later : (n : ℕ) (r : Result ℕ CalendarFault) → r ≡ effective n → IfOk r (λ d. (n < d) × (d < 36525))
effective_later n (Err f) e = tt
effective_later n (Ok d) e =
    let y = effective_year (date_of n) in
    elim (cases_lt n 36525) [
      | inl h ↦ later_by n d h (e ∙ cond-true (ltb n 36525) (numbered y 12 1) (Err NotInCalendar) (lt-ltb n 36525 h))
      | inr far ↦
          let q = e ∙ cond-false (ltb n 36525) (numbered y 12 1) (Err NotInCalendar) (le-ltb n 36525 far) in
          let z : ◌≡◌ {A = ℕ} 0 1 = cc in absurd (omega arith)
    ]
