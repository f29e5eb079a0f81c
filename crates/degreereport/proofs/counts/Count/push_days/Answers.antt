-- The days of a period have their lines one after the other.
use Rattle.std.proofs.Common.{◌≡◌, ℕ, ◌+◌, ◌++◌, string_bytes, Option, sym, ap, ◌∙◌, append-nil, arith}
use Rattle.degreedays.specs.declared.kinds.DayDegrees.{DayDegrees}
use Rattle.degreereport.specs.Counts.{day_line}
use Rattle.degreereport.specs.Views.{degrees_of}
use Rattle.degreereport.proofs.Days.{line_known, lines_more, lines_none}
use Rattle.degreereport.proofs.counts.Count.push_days.Goals as goal

pub loop-day-init : goal.loop-day-init
loop-day-init g c =
    let start : c.into_iter-day-iterator.result.start ≡ c.args.self.now.period.last_read + 1 = grind arith in
    let end : c.into_iter-day-iterator.result.end ≡ c.args.self.now.period.read_day + 1 = grind arith in
    record { can_next = tt; is_finite = tt; days = omega arith; written = lines_none _ _ _ _ (omega arith) }

pub loop-day-preserved-in-Continue-1 : goal.loop-day-preserved-in-Continue-1
loop-day-preserved-in-Continue-1 g c =
    let F : ℕ → Option DayDegrees = degrees_of g.W.Source c.args.self.now in let day = c.loop-day.day-iterator.start in
    let i = c.loop-day.invariant in let steps = c.in-Some.ensures.steps in
    let at : c.in-Some.day ≡ day = omega (arith, steps) in
    let line = line_known F day _ _ _ (c.from.ensures ∙ at) c.from-in-Some-degrees.ensures (c.in-Some-degrees.ensures.value ∙ ap F at) in
    record {
      can_next = tt;
      is_finite = tt;
      days = omega (arith, steps);
      written = lines_more F _ day _ _ _ _ i.days.after (omega (arith, steps)) i.written (c.in_ok-writeln.ensures.bytes ∙ ap (λ l. string_bytes c.loop-day.out ++ l) line);
    }

pub loop-day-preserved : goal.loop-day-preserved
loop-day-preserved g c =
    let F : ℕ → Option DayDegrees = degrees_of g.W.Source c.args.self.now in let day = c.loop-day.day-iterator.start in
    let i = c.loop-day.invariant in let steps = c.in-Some.ensures.steps in
    let at : c.in-Some.day ≡ day = omega (arith, steps) in
    let unknown = ap (day_line day) (c.in_default.ensures.value ∙ ap F at) in
    record {
      can_next = tt;
      is_finite = tt;
      days = omega (arith, steps);
      written = lines_more F _ day _ _ _ _ i.days.after (omega (arith, steps)) i.written (sym (append-nil (string_bytes c.loop-day.out)) ∙ ap (λ l. string_bytes c.loop-day.out ++ l) unknown);
    }
