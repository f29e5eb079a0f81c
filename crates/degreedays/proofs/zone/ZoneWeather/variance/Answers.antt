-- The variance is the sum over the days, and ends at the first unknown one.
use Rattle.std.proofs.Common.{◌≡◌, ℕ, ◌+◌, ◌-◌, ℤ, ◌-ℤ◌, Ok, Err, None, Some, Option, Result, sym, refl, ap, ◌∙◌, subst, arith, to_z, w32}
use Rattle.std.proofs.lemmas.Int.{ints}
use Rattle.weather.specs.declared.kinds.WeatherFault.{WeatherFault}
use Rattle.degreedays.specs.DegreeDays.{faulted, summed}
use Rattle.degreedays.specs.Sums.{Tells, Within}
use Rattle.degreedays.specs.Zones.{differences_of}
use Rattle.degreedays.proofs.Days.{apart, bounded, stepped, so_far_more, so_far_stops, sums}
use Rattle.degreedays.proofs.zone.ZoneWeather.variance.Goals as goal

pub returns-in_err-degrees : goal.returns-in_err-degrees
returns-in_err-degrees g c =
    let last = c.args.period.last_read in let read = c.args.period.read_day in let day = c.loop-day.day-iterator.start in
    let F : ℕ → Option ℤ = differences_of g.W.Source c.args.self.now c.args.set_point in
    let zone = c.args.self.now.zone in
    let i = c.loop-day.invariant.2 in
    let at : c.in-Some.day ≡ day = omega (arith, c.in-Some.ensures.steps) in
    let none : c.degrees.result ≡ None = grind arith in
    let unknown : F day ≡ None = grind arith in
    let stops = so_far_stops {f = F} read i.so_far (omega (arith, c.in-Some.ensures.steps)) unknown in
    let is : c.from_residual.result ≡ faulted zone (Err day) = grind arith in
    record {
      value = is ∙ sym (ap (faulted zone) stops);
      meaning = subst (λ (r : Result ℤ WeatherFault). Tells zone F last read r) (sym is) (day, refl, sums F last read (Err day) (omega arith) stops);
      small = grind arith;
    }

pub overflow_add-sum : goal.overflow_add-sum
overflow_add-sum g c =
    let limit = c.args.set_point + 1000 in let last = c.args.period.last_read in
    let i = c.loop-day.invariant.2 in
    let known : c.degrees.result ≡ Some c.in_ok-degrees.degrees = grind arith in
    let r = subst (Within limit) known c.degrees.ensures.range in
    let most = bounded (to_z w32 c.loop-day.sum-bits) c.args.set_point (c.loop-day.day-iterator.start - 1 - last) i.so_far.small (omega arith) (omega (arith, c.in-Some.ensures.steps)) in
    let far = apart c.in_ok-degrees.degrees.normal c.in_ok-degrees.degrees.actual limit r.0 r.1 r.2 r.3 in
    omega (arith, ints)

pub loop-day-preserved : goal.loop-day-preserved
loop-day-preserved g c =
    let limit = c.args.set_point + 1000 in let last = c.args.period.last_read in let day = c.loop-day.day-iterator.start in
    let F : ℕ → Option ℤ = differences_of g.W.Source c.args.self.now c.args.set_point in
    let i = c.loop-day.invariant.2 in let d = c.in_ok-degrees.degrees in let s = to_z w32 c.loop-day.sum-bits in
    let at : c.in-Some.day ≡ day = omega (arith, c.in-Some.ensures.steps) in
    let next : c.next.new.self.start ≡ day + 1 = omega (arith, c.in-Some.ensures.steps) in
    let known : c.degrees.result ≡ Some d = grind arith in
    let r = subst (Within limit) known c.degrees.ensures.range in
    let most = bounded s c.args.set_point (day - 1 - last) i.so_far.small (omega arith) (omega (arith, c.in-Some.ensures.steps)) in
    let told : F day ≡ Some (d.normal -ℤ d.actual) = grind arith in
    let is = stepped s d.normal d.actual limit most (omega arith) r.0 r.1 r.2 r.3 in (
      tt,
      tt,
      record {
        until = omega (arith, c.in-Some.ensures.steps);
        within = omega (arith, c.in-Some.ensures.steps);
        so_far = so_far_more {f = F} i.so_far told (apart d.normal d.actual limit r.0 r.1 r.2 r.3) next is;
      },
    )

pub returns-clause-meaning : goal.returns-clause-meaning
returns-clause-meaning g c =
    let last = c.args.period.last_read in let read = c.args.period.read_day in
    let F : ℕ → Option ℤ = differences_of g.W.Source c.args.self.now c.args.set_point in
    let all : read - last ≡ c.loop-day.day-iterator.start - 1 - last = omega (arith, c.in-None.ensures.steps) in
    sums F last read (Ok _) (omega arith) (ap (summed F last) all ∙ c.loop-day.invariant.2.so_far.sum)
