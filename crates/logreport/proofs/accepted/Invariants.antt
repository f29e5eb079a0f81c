-- What is written so far and the lines of the zones left make the whole report.
use Rattle.std.proofs.Common.{◌≡◌, ◌++◌, length, map, drop, Ok, string_bytes}
use Rattle.logformat.specs.Reading.{zone_by, zones_by}
use Rattle.logreport.specs.Report.{reported, zones_lines}
use Rattle.logreport.proofs.accepted.Given as goal

abbrev pub invariant-loop-number : goal.invariant-loop-number
invariant-loop-number l =
    reported (length l.log.bytes.now) (Ok (zones_by l.log.bytes.now l.log.layout))
    ≡ string_bytes l.out ++ zones_lines l.number (drop l.number (map (zone_by l.log.bytes.now) l.zones))
