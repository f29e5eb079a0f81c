-- A zone's days are the known and the unknown means.
use Rattle.std.proofs.Common.{arith, w32, Fits, rules}
use Rattle.logformat.specs.declared.kinds.Series.TheVariants.{Means}
use Rattle.logformat.specs.Reading.{zone_by}
use Rattle.logreport.proofs.Places.{places_bounded, places_counted, zone_reported}
use Rattle.logreport.proofs.zones.zone_report.Goals as goal

pub overflow_add-result : goal.overflow_add-result
overflow_add-result c =
    let places = c.args.places in
    let fits : Fits w32 places.count = search rules in
    let days = rw c.means.ensures at (places_counted _ _ c.summary-means.ensures.meaning) in
    omega (arith, days, places_bounded Means c.args.bytes.now places.count places.means)

pub returns : goal.returns
returns c =
    let means = rw c.means.ensures at c.summary-means.ensures in
    let normals = rw c.normals.ensures at c.summary-normals.ensures.value in
    zone_reported c.args.number (zone_by c.args.bytes.now c.args.places) _ _ means.meaning means.value normals
