-- The sum of the days before the next one.
use Rattle.std.proofs.Common.{◌≡◌, ◌+◌, ◌≤◌}
use Rattle.degreedays.specs.Zones.{differences_of}
use Rattle.degreedays.proofs.Days.{SoFar}
use Rattle.degreedays.proofs.zone.ZoneWeather.variance.Given as goal

abbrev pub invariant-loop-day : goal.invariant-loop-day
invariant-loop-day g l =
    let last = l.fn.period.last_read in let next = l.day-iterator.start in
    (goal.iterator-loop-day g).can_next l.day-iterator × (goal.iterator-loop-day g).is_finite l.day-iterator
    × record {
      until : l.day-iterator.end ≡ l.fn.period.read_day + 1;
      within : next ≤ l.day-iterator.end;
      so_far : SoFar (differences_of g.W.Source l.self l.set_point) last next (l.set_point + 1000) l.sum;
    }
