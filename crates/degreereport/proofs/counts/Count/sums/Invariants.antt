-- The sums of the days before the next one.
use Rattle.std.proofs.Common.{◌-◌}
use Rattle.degreereport.specs.Counts.{actual_of, normal_of}
use Rattle.degreereport.specs.Views.{degrees_of}
use Rattle.degreereport.proofs.Days.{IsWalk, Sum}
use Rattle.degreereport.proofs.counts.Count.sums.Given as goal

abbrev pub invariant-loop-day : goal.invariant-loop-day
invariant-loop-day g l =
    let last = l.self.period.last_read in let next = l.day-iterator.start in let f = degrees_of g.W.Source l.self in
    record {
      can_next : (goal.iterator-loop-day g).can_next l.day-iterator;
      is_finite : (goal.iterator-loop-day g).is_finite l.day-iterator;
      days : IsWalk last l.self.period.read_day next l.day-iterator.end;
      normal : Sum (λ day. normal_of (f day)) last (next - 1 - last) l.normal;
      actual : Sum (λ day. actual_of (f day)) last (next - 1 - last) l.actual;
    }
