-- Sums over the days of a period: one day more, the first unknown day, and what a sum says.
use Rattle.std.proofs.Common.{◌≡◌, ℕ, zero, suc, ◌+◌, ◌-◌, ◌*◌, ◌<◌, ◌≤◌, ◌⊎◌, ℤ, pos, ◌+ℤ◌, ◌-ℤ◌, nat_abs, ◌≤ℤ◌, is_some, unwrap_or, Some, None, Ok, Err, Option, Result, sym, refl, ap, ◌∙◌, inl, inr, ⊎_elim, mul-le-mul, eq-or-lt_of_le, mul-one, mul-add, arith, w32, to_z, of_z}
use Rattle.std.proofs.lemmas.Int.{ints}
use Rattle.degreedays.specs.DegreeDays.{one_more, summed}
use Rattle.degreedays.specs.Sums.{FirstUnknown, Sums, total}

-- the sum of the days before `next`, all known, which come after `last`, and how large it can be
pub record SoFar (f : ℕ → Option ℤ) (last next limit : ℕ) (s : ℤ) : Type 0 where
  pub after : last < next
  pub sum : summed f last (next - 1 - last) ≡ Ok s
  pub small : nat_abs s ≤ limit * (next - 1 - last)

-- one known day more
sum_more : (f : ℕ → Option ℤ) (last day : ℕ) (s m : ℤ) → last < day → summed f last (day - 1 - last) ≡ Ok s → f day ≡ Some m → summed f last (day - last) ≡ Ok (s +ℤ m)
sum_more f last day s m h e d =
    let n : day - last ≡ suc (day - 1 - last) = omega arith in let at : last + suc (day - 1 - last) ≡ day = omega arith in
    rw n (rw (e, at, d) refl)

grows : (s m : ℤ) (b k n : ℕ) → nat_abs s ≤ b * k → nat_abs m ≤ b → n ≡ k + 1 → nat_abs (s +ℤ m) ≤ b * n
grows s m b k n p q e = rw e (omega (arith, ints, mul-add b k 1, mul-one b))

pub so_far_more : {f : ℕ → Option ℤ} {last day next limit : ℕ} {s m v : ℤ} → SoFar f last day limit s → f day ≡ Some m → nat_abs m ≤ limit → next ≡ day + 1 → v ≡ s +ℤ m → SoFar f last next limit v
so_far_more {f} {last} {day} {next} {limit} {s} {m} {v} so_far known small on is =
    let after = so_far.after in let n : next - 1 - last ≡ day - last = omega arith in
    record {
      after = omega arith;
      sum = rw (n, is) (sum_more f last day s m after so_far.sum known);
      small = rw is (grows s m limit (day - 1 - last) (next - 1 - last) so_far.small small (omega arith));
    }

-- a day that is unknown after known ones ends the sum
sum_stops : (f : ℕ → Option ℤ) (last day n : ℕ) (s : ℤ) → last < day → day ≤ last + n → summed f last (day - 1 - last) ≡ Ok s → f day ≡ None → summed f last n ≡ Err day
sum_stops f last day zero s h t e d = absurd (omega arith)
sum_stops f last day (suc n) s h t e d =
    ⊎_elim (λ here. let k : n ≡ day - 1 - last = omega arith in let at : last + suc (day - 1 - last) ≡ day = omega arith in rw k (rw (e, at, d) refl))
    (λ before. rw (sum_stops f last day n s h (omega arith) e d) refl) (eq-or-lt_of_le t)

pub so_far_stops : {f : ℕ → Option ℤ} {last day limit : ℕ} {s : ℤ} (read : ℕ) → SoFar f last day limit s → day ≤ read → f day ≡ None → summed f last (read - last) ≡ Err day
so_far_stops {f} {last} {day} {limit} {s} read so_far until unknown =
    let after = so_far.after in sum_stops f last day (read - last) s after (omega arith) so_far.sum unknown

-- what one day more was made of
more_ok : (r : Result ℤ ℕ) (day : ℕ) (o : Option ℤ) (v : ℤ) → one_more r day o ≡ Ok v → (s : ℤ) × (m : ℤ) × (r ≡ Ok s) × (o ≡ Some m) × (v ≡ s +ℤ m)
more_ok (Err first) day o v e = absurd (cc)
more_ok (Ok s) day None v e = absurd (cc)
more_ok (Ok s) day (Some m) v e = (s, m, refl, refl, cc)

more_err : (r : Result ℤ ℕ) (day : ℕ) (o : Option ℤ) (at : ℕ) → one_more r day o ≡ Err at → (r ≡ Err at) ⊎ ((s : ℤ) × (r ≡ Ok s) × (o ≡ None) × (day ≡ at))
more_err (Err first) day o at e = inl e
more_err (Ok s) day None at e = inr (s, refl, refl, cc)
more_err (Ok s) day (Some m) at e = absurd (cc)

value_is : (o : Option ℤ) (m : ℤ) → o ≡ Some m → m ≡ unwrap_or o (pos 0)
value_is o m e = rw e refl

-- where there is a sum, each day is known and it is the total
pub record Summed (f : ℕ → Option ℤ) (last n : ℕ) (v : ℤ) : Type 0 where
  pub known : (day : ℕ) → last < day → day ≤ last + n → f day ≡ Some (unwrap_or (f day) (pos 0))
  pub is : v ≡ total (λ d. unwrap_or (f d) (pos 0)) last n

pub summed_ok : (f : ℕ → Option ℤ) (last n : ℕ) (v : ℤ) → summed f last n ≡ Ok v → Summed f last n v
summed_ok f last zero v e = record { known = λ day a b. absurd (omega arith); is = cc }
summed_ok f last (suc n) v e =
    let p = more_ok (summed f last n) (last + suc n) (f (last + suc n)) v e in
    let i = summed_ok f last n p.0 p.2 in
    let here = value_is (f (last + suc n)) p.1 p.3 in
    record {
      known = λ day a b.
          ⊎_elim (λ same. rw same (p.3 ∙ ap Some here)) (λ less. i.known day a (omega arith)) (eq-or-lt_of_le b);
      is = p.4 ∙ ap (λ s. s +ℤ p.1) i.is ∙ ap (λ m. total (λ d. unwrap_or (f d) (pos 0)) last n +ℤ m) here;
    }

-- where there is none, the day is the first that is unknown
pub summed_err : (f : ℕ → Option ℤ) (last n day : ℕ) → summed f last n ≡ Err day → FirstUnknown f last (last + n) day
summed_err f last zero day e = absurd (cc)
summed_err f last (suc n) day e =
    ⊎_elim (λ old. let i = summed_err f last n day old in record { after = i.after; until = omega (arith, i.until); unknown = i.unknown; known = i.known })
    (λ new.
    let k = summed_ok f last n new.0 new.1 in let at : last + suc n ≡ day = new.3 in
    record {
      after = omega arith;
      until = omega arith;
      unknown = ap f (sym at) ∙ new.2;
      known = λ d a b. ap is_some (k.known d a (omega arith));
    })
    (more_err (summed f last n) (last + suc n) (f (last + suc n)) day e)

-- the sum over a period as the relation has it
pub sums : (f : ℕ → Option ℤ) (last read : ℕ) (r : Result ℤ ℕ) → last ≤ read → summed f last (read - last) ≡ r → Sums f last read r
sums f last read (Ok v) h e =
    let s = summed_ok f last (read - last) v e in
    record { each = λ d. unwrap_or (f d) (pos 0); known = λ day a b. s.known day a (omega arith); is = s.is }
sums f last read (Err day) h e =
    let s = summed_err f last (read - last) day e in
    record { after = s.after; until = omega (arith, s.until); unknown = s.unknown; known = s.known }

-- how large a difference can be, and a sum
pub apart : (n a : ℤ) (b : ℕ) → pos 0 ≤ℤ n → n ≤ℤ pos b → pos 0 ≤ℤ a → a ≤ℤ pos b → nat_abs (n -ℤ a) ≤ b
apart n a b p q r s = omega (arith, ints)

pub bounded : (s : ℤ) (sp k : ℕ) → nat_abs s ≤ (sp + 1000) * k → sp < 65536 → k ≤ 62 → nat_abs s ≤ 4125170
bounded s sp k h p q = let c : sp + 1000 ≤ 66535 = omega arith in let m : (sp + 1000) * k ≤ 66535 * 62 = mul-le-mul c q in omega arith

-- a sum and a difference that are passed by their bits
pub stepped : (s n t : ℤ) (b : ℕ) → nat_abs s ≤ 4125170 → b ≤ 66535 → pos 0 ≤ℤ n → n ≤ℤ pos b → pos 0 ≤ℤ t → t ≤ℤ pos b → to_z w32 (of_z w32 (s +ℤ to_z w32 (of_z w32 (to_z w32 (of_z w32 n) -ℤ to_z w32 (of_z w32 t))))) ≡ s +ℤ (n -ℤ t)
stepped s n t b h l p q u v = omega (arith, ints)
