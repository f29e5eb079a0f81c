-- The lines and the sums of days, one by one.
use Rattle.std.proofs.Common.{◌≡◌, ℕ, suc, ◌+◌, ◌-◌, ◌*◌, ◌<◌, ◌≤◌, List, ◌++◌, ℤ, pos, ◌+ℤ◌, nat_abs, Some, codes, Option, sym, ap, ◌∙◌, arith}
use Rattle.std.proofs.lemmas.Int.{ints}
use Rattle.std.proofs.lemmas.List.{append_assoc, append-nil}
use Rattle.degreedays.specs.Sums.{total}
use Rattle.degreedays.specs.declared.kinds.DayDegrees.{DayDegrees}
use Rattle.degreereport.specs.declared.kinds.Figures.{Figures}
use Rattle.degreereport.specs.Counts.{day_figures, day_line, day_lines, figures_text, known_line}
use Rattle.logreport.specs.declared.kinds.Day.TheVariants.{Dated}
use Rattle.logreport.specs.Words.{day_text, newline}

-- a walk over the days after `last` up to `read` that stands before the day `next`
pub record IsWalk (last read next end : ℕ) : Type 0 where
  pub after : last < next
  pub until : end ≡ read + 1
  pub within : next ≤ end

-- no days have no lines, and one day more has its line
pub lines_none : (f : ℕ → Option DayDegrees) (last n : ℕ) (bs : List ℕ) → n ≡ 0 → bs ≡ bs ++ day_lines f last n
unfolding day_lines
lines_none f last n bs e = rw e (sym (append-nil bs))

pub lines_more : (f : ℕ → Option DayDegrees) (last day next : ℕ) (bs xs ys : List ℕ) → last < day → next ≡ day + 1 → xs ≡ bs ++ day_lines f last (day - 1 - last) → ys ≡ xs ++ day_line day (f day) → ys ≡ bs ++ day_lines f last (next - 1 - last)
unfolding day_lines
lines_more f last day next bs xs ys h e p q =
    let n : next - 1 - last ≡ suc (day - 1 - last) = omega arith in let at : last + suc (day - 1 - last) ≡ day = omega arith in
    rw n (rw at (q ∙ ap (λ zs. zs ++ day_line day (f day)) p ∙ append_assoc bs (day_lines f last (day - 1 - last)) (day_line day (f day))))

-- the line of a day that is known
pub line_known : (f : ℕ → Option DayDegrees) (day n : ℕ) (d : DayDegrees) (x : Figures) → n ≡ day → x ≡ day_figures d → Some d ≡ f day → day_text (Dated n) ++ (codes ": " ++ (figures_text x ++ newline)) ≡ day_line day (f day)
unfolding known_line
line_known f day n d x a b e = rw (a, b, ← e)

-- the sum of the n days after `last`, of which each is at most 66,535 either way
pub record Sum (g : ℕ → ℤ) (last n : ℕ) (x : ℤ) : Type 0 where
  pub is : x ≡ total g last n
  pub small : nat_abs x ≤ 66535 * n

-- no days, one day more, and one that adds nothing
pub sum_none : (g : ℕ → ℤ) (last n : ℕ) → n ≡ 0 → Sum g last n (pos 0)
sum_none g last n e = record { is = rw e; small = omega (arith, ints) }

pub sum_more : (g : ℕ → ℤ) (last day next : ℕ) (x m y : ℤ) → Sum g last (day - 1 - last) x → last < day → next ≡ day + 1 → m ≡ g day → nat_abs m ≤ 66535 → y ≡ x +ℤ m → Sum g last (next - 1 - last) y
sum_more g last day next x m y s h i q a e =
    let n : next - 1 - last ≡ suc (day - 1 - last) = omega arith in let at : last + suc (day - 1 - last) ≡ day = omega arith in
    let b = s.small in
    record {
      is = rw n (rw at (e ∙ ap (λ z. z +ℤ m) s.is ∙ ap (λ z. total g last (day - 1 - last) +ℤ z) q));
      small = rw e (omega (arith, ints));
    }

pub sum_still : (g : ℕ → ℤ) (last day next : ℕ) (x : ℤ) → Sum g last (day - 1 - last) x → last < day → next ≡ day + 1 → pos 0 ≡ g day → Sum g last (next - 1 - last) x
sum_still g last day next x s h i q = sum_more g last day next x (pos 0) x s h i q (omega (arith, ints)) (omega (arith, ints))
