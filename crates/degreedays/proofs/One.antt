-- A period has one sum, or one first unknown day.
use Rattle.std.proofs.Common.{◌≡◌, ℕ, zero, suc, ◌+◌, ◌-◌, ◌<◌, ◌≤◌, true, ℤ, ◌+ℤ◌, is_some, Some, None, Ok, Err, Option, Result, sym, refl, ap, ◌∙◌, inl, inr, arith}
use Rattle.std.proofs.lemmas.Bool.{cases_lt}
use Rattle.degreedays.specs.DegreeDays.{summed}
use Rattle.degreedays.specs.Sums.{OneSum, Sums, total}
use Rattle.degreedays.proofs.Days.{sums}

total-same : (g h : ℕ → ℤ) (last n : ℕ) → ((day : ℕ) → last < day → day ≤ last + n → g day ≡ h day) → total g last n ≡ total h last n
total-same g h last zero e = refl
total-same g h last (suc n) e =
    ap (λ s. s +ℤ g (last + suc n)) (total-same g h last n (λ day a b. e day a (omega arith))) ∙ ap (λ m. total h last n +ℤ m) (e (last + suc n) (omega arith) (omega arith))

-- a day is not both known and unknown
clash : (o : Option ℤ) → is_some o ≡ true → o ≡ None → ⊥
clash None p q = cc
clash (Some m) p q = cc

pub one_sum : OneSum
one_sum f last read (Ok v) (Ok w) a b =
    ap Ok (a.is ∙ total-same a.each b.each last (read - last) (λ day p q. let l = a.known day p (omega arith) in let r = b.known day p (omega arith) in cc) ∙ sym b.is)
one_sum f last read (Ok v) (Err e) a b = let known = a.known e b.after b.until in let unknown = b.unknown in absurd (cc)
one_sum f last read (Err d) (Ok w) a b = let known = b.known d a.after a.until in let unknown = a.unknown in absurd (cc)
one_sum f last read (Err d) (Err e) a b =
    elim (cases_lt d e) [
      | inl less ↦ absurd (clash (f d) (b.known d a.after less) a.unknown)
      | inr least ↦
          elim (cases_lt e d) [ inl less ↦ absurd (clash (f e) (a.known e b.after less) b.unknown) | inr most ↦ ap Err (omega arith) ]
    ]

-- so whatever meets the relation is the sum from day to day
pub sums_value : (f : ℕ → Option ℤ) (last read : ℕ) (r : Result ℤ ℕ) → last ≤ read → Sums f last read r → summed f last (read - last) ≡ r
sums_value f last read r h s = one_sum f last read (summed f last (read - last)) r (sums f last read (summed f last (read - last)) h refl) s
