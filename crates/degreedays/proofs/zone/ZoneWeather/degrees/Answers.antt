-- How many degree days a day can have.
use Rattle.std.proofs.Common.{w16, w32, SFits, rules}
use Rattle.degreedays.proofs.Degrees.{within_both}
use Rattle.degreedays.proofs.zone.ZoneWeather.degrees.Goals as goal

pub returns-clause-range : goal.returns-clause-range
returns-clause-range g c =
    let n = c.in_ok-normal.normal in let t = c.in_ok-mean.mean in let a = c.degree_days.result in let b = c.degree_days-2.result in
    let fn : SFits w16 n = search rules in let ft : SFits w16 t = search rules in
    let fa : SFits w32 a = search rules in let fb : SFits w32 b = search rules in
    let normal = c.in_ok-normal.ensures.ranged in let mean = c.in_ok-mean.ensures.ranged in
    within_both c.args.set_point n t a b fn ft fa fb c.degree_days.ensures c.degree_days-2.ensures normal.3 mean.3
