-- The sums of the days, one by one.
use Rattle.std.proofs.Common.{◌≡◌, ℕ, Option, Fits, w16, ap, ◌∙◌, arith, rules}
use Rattle.std.proofs.lemmas.Int.{ints}
use Rattle.degreedays.specs.declared.kinds.DayDegrees.{DayDegrees}
use Rattle.degreereport.specs.Counts.{actual_of, normal_of}
use Rattle.degreereport.specs.Views.{degrees_of}
use Rattle.degreereport.proofs.Days.{sum_more, sum_still}
use Rattle.degreereport.proofs.counts.Count.sums.Goals as goal

pub loop-day-preserved-in-Some-degrees : goal.loop-day-preserved-in-Some-degrees
loop-day-preserved-in-Some-degrees g c =
    let F : ℕ → Option DayDegrees = degrees_of g.W.Source c.args.self.now in let day = c.loop-day.day-iterator.start in
    let i = c.loop-day.invariant in let steps = c.in-Some.ensures.steps in
    let at : c.in-Some.day ≡ day = omega (arith, steps) in
    let known = c.in-Some-degrees.ensures.value ∙ ap F at in let r = c.in-Some-degrees.ensures.range in
    let narrow : Fits w16 c.args.self.now.set_point = search rules in
    record {
      can_next = tt;
      is_finite = tt;
      days = omega (arith, steps);
      normal = sum_more (λ d. normal_of (F d)) _ day _ _ c.in-Some-degrees.degrees.normal _ i.normal i.days.after (omega (arith, steps)) (ap normal_of known) (omega (arith, ints, r.0, r.1)) (omega (arith, ints, r.0, r.1, i.normal.small));
      actual = sum_more (λ d. actual_of (F d)) _ day _ _ c.in-Some-degrees.degrees.actual _ i.actual i.days.after (omega (arith, steps)) (ap actual_of known) (omega (arith, ints, r.2, r.3)) (omega (arith, ints, r.2, r.3, i.actual.small));
    }

pub loop-day-preserved : goal.loop-day-preserved
loop-day-preserved g c =
    let F : ℕ → Option DayDegrees = degrees_of g.W.Source c.args.self.now in let day = c.loop-day.day-iterator.start in
    let i = c.loop-day.invariant in let steps = c.in-Some.ensures.steps in
    let at : c.in-Some.day ≡ day = omega (arith, steps) in
    let unknown = c.in_default.ensures.value ∙ ap F at in
    record {
      can_next = tt;
      is_finite = tt;
      days = omega (arith, steps);
      normal = sum_still (λ d. normal_of (F d)) _ day _ _ i.normal i.days.after (omega (arith, steps)) (ap normal_of unknown);
      actual = sum_still (λ d. actual_of (F d)) _ day _ _ i.actual i.days.after (omega (arith, steps)) (ap actual_of unknown);
    }
