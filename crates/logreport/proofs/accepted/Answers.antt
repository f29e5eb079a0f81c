-- The zones of an accepted log are reported one after the other.
use Rattle.std.proofs.Common.{◌<◌, length, map, string_bytes, sym, ◌∙◌, arith}
use Rattle.std.proofs.lemmas.List.{append_assoc, append-nil, length-map}
use Rattle.logformat.specs.declared.kinds.ZonePlaces.{ZonePlaces}
use Rattle.logformat.specs.Reading.{zone_by}
use Rattle.logreport.proofs.Places.{lines_more, lines_none, reported_some}
use Rattle.logreport.proofs.accepted.Goals as goal

pub loop-number-init : goal.loop-number-init
loop-number-init c =
    let xs = c.args.log.now.bytes.now in let ps = c.zones-zones.result.now in
    let some : 0 < length ps = grind arith in
    rw (← c.zones-zones.ensures.listed, c.in_ok-out.ensures.ok) (reported_some (length xs) (map (zone_by xs) ps) (length ps) (length-map ps (zone_by xs)) some)

pub loop-number-preserved : goal.loop-number-preserved
loop-number-preserved c =
    let blank : ZonePlaces = record { first = 0; count = 0; means = 0; normals = 0 } in
    let more = lines_more c.args.log.now.bytes.now c.zones-zones.result.now c.loop-number.number blank (omega arith) in
    rw (c.in_ok-write.ensures.bytes, c.zone_report-zone.ensures)
    (rw more at c.loop-number.invariant ∙ sym (append_assoc (string_bytes c.loop-number.out) _ _))

pub returns : goal.returns
returns c =
    let xs = c.args.log.now.bytes.now in let ps = c.zones-zones.result.now in
    let none = lines_none c.loop-number.number (map (zone_by xs) ps) (omega (arith, length-map ps (zone_by xs))) in
    sym (rw (none, append-nil) at c.loop-number.invariant)
