-- The lines of the days before the next one.
use Rattle.std.proofs.Common.{◌≡◌, ◌-◌, ◌++◌, string_bytes}
use Rattle.degreereport.specs.Counts.{day_lines}
use Rattle.degreereport.specs.Views.{degrees_of}
use Rattle.degreereport.proofs.Days.{IsWalk}
use Rattle.degreereport.proofs.counts.Count.push_days.Given as goal

abbrev pub invariant-loop-day : goal.invariant-loop-day
invariant-loop-day g l =
    let last = l.self.period.last_read in let next = l.day-iterator.start in
    record {
      can_next : (goal.iterator-loop-day g).can_next l.day-iterator;
      is_finite : (goal.iterator-loop-day g).is_finite l.day-iterator;
      days : IsWalk last l.self.period.read_day next l.day-iterator.end;
      written : string_bytes l.out ≡ string_bytes l.initial.out ++ day_lines (degrees_of g.W.Source l.self) last (next - 1 - last);
    }
