-- Tests that are computed at every number below a bound, and what they tell.
use Rattle.std.proofs.Common.{◌≡◌, ℕ, zero, suc, ◌<◌, Bool, true, false, cond, not, ◌&&◌, eqb, Ok, Err, sym, refl, ap, ◌∙◌, inl, inr, arith}
use Rattle.std.proofs.lemmas.Bool.{and_parts, cases_eq, eqb-true}
use Rattle.gregorian.specs.declared.kinds.Date.{Date}
use Rattle.gregorian.specs.declared.kinds.CalendarFault.TheVariants.{NotInCalendar}

-- the test passes at every number below n
abbrev pub all_below : ℕ → (ℕ → Bool) → Bool
all_below zero f = true
all_below (suc n) f = f n && all_below n f

pub passed : (f : ℕ → Bool) (n : ℕ) → all_below n f ≡ true → (k : ℕ) → k < n → f k ≡ true
passed f zero t k h = absurd (omega arith)
passed f (suc n) t k h =
    let parts = and_parts (f n) (all_below n f) t in
    elim (cases_eq k n) [ inl e ↦ rw e parts.0 | inr ne ↦ passed f n parts.1 k (omega arith) ]

-- the parts of a test
pub three_parts : {a b c : Bool} → (a && (b && c)) ≡ true → (a ≡ true) × (b ≡ true) × (c ≡ true)
three_parts {a} {b} {c} t =
    let p = and_parts a (b && c) t in let q = and_parts b c p.1 in
    (p.0, q.0, q.1)

-- an answer comes where the test passes
pub answer_is : {A : Type 0} (b : Bool) (x y : A) → Ok x ≡ cond b (Ok y) (Err NotInCalendar) → (b ≡ true) × (x ≡ y)
answer_is true x y e = (refl, cc)
answer_is false x y e = let z : ◌≡◌ {A = ℕ} 0 1 = cc in absurd (omega arith)

-- dates are equal if their parts are
pub by_parts : (a b : Date) → a.year ≡ b.year → a.month ≡ b.month → a.day ≡ b.day → a ≡ b
by_parts a b y m d =
    ap (λ n. record { year = n; month = a.month; day = a.day }) y
    ∙ ap (λ n. record { year = b.year; month = n; day = a.day }) m
    ∙ ap (λ n. record { year = b.year; month = b.month; day = n }) d

-- the two dates are equal
abbrev pub same : Date → Date → Bool
same a b = eqb a.year b.year && (eqb a.month b.month && eqb a.day b.day)

pub same_is : (a b : Date) → same a b ≡ true → a ≡ b
same_is a b t =
    let p = three_parts t in
    by_parts a b (eqb-true a.year b.year p.0) (eqb-true a.month b.month p.1) (eqb-true a.day b.day p.2)

-- the two tests say the same
abbrev pub alike : Bool → Bool → Bool
alike true b = b
alike false b = not b

pub alike_is : (a b : Bool) → alike a b ≡ true → a ≡ b
alike_is true true t = refl
alike_is true false t = sym t
alike_is false true t = t
alike_is false false t = refl
