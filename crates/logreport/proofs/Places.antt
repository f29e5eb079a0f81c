-- How many places a series has, and the lines of the zones that a layout lists.
use Rattle.std.proofs.Common.{◌≡◌, ℕ, zero, suc, ◌+◌, ◌<◌, ◌≤◌, List, [], ◌∷◌, ◌++◌, length, get_or, map, drop, ℤ, pos, Some, None, Ok, Err, Option, Result, refl, ap, ◌∙◌, arith}
use Rattle.std.proofs.lemmas.List.{drop_all, drop_more, get_or-map, length-map}
use Rattle.weather.specs.declared.kinds.WeatherFault.{WeatherFault}
use Rattle.logformat.specs.declared.kinds.Series.{Series}
use Rattle.logformat.specs.declared.kinds.ZonePlaces.{ZonePlaces}
use Rattle.logformat.specs.declared.kinds.Step.{Step}
use Rattle.logformat.specs.Reading.{Part, on_step, series_at, series_from, step_at, zone_by}
use Rattle.logformat.specs.Zones.{Zone}
use Rattle.logsummary.specs.Summaries.{SumsUp, count, is_known, is_unknown, summary_of}
use Rattle.logsummary.specs.declared.kinds.Summary.{Summary}
use Rattle.logreport.specs.declared.kinds.ZoneReport.{ZoneReport}
use Rattle.logreport.specs.Report.{head_line, reported, zone_lines, zone_of, zones_lines}

-- each place is known or unknown
counted : (ms : List (Option ℤ)) → count is_known ms + count is_unknown ms ≡ length ms
counted [] = refl
counted (None ∷ ms) = omega (arith, counted ms)
counted (Some t ∷ ms) = omega (arith, counted ms)

pub places_counted : (ms : List (Option ℤ)) (s : Summary) → SumsUp ms s → s.known + s.unknown ≡ length ms
places_counted ms s h = omega (arith, h.known, h.unknown, counted ms)

-- a series has no more places than were read
step_bounded : (r : Result Step WeatherFault) (go : ℤ → ℕ → Part (Option ℤ)) (n : ℕ) → ((t : ℤ) (next : ℕ) → length (go t next).list ≤ n) → length (on_step r go).list ≤ suc n
step_bounded (Err f) go n h = omega arith
step_bounded (Ok x) go n h = omega (arith, h x.last x.next)

from_bounded : (s : Series) (bytes : List ℕ) (n : ℕ) (last : ℤ) (at : ℕ) → length (series_from s bytes n last at).list ≤ n
from_bounded s bytes zero last at = omega arith
from_bounded s bytes (suc n) last at = step_bounded (step_at s bytes last at) (λ t next. series_from s bytes n t next) n (λ t next. from_bounded s bytes n t next)

pub places_bounded : (s : Series) (bytes : List ℕ) (n at : ℕ) → length (series_at s bytes n at).list ≤ n
places_bounded s bytes n at = from_bounded s bytes n (pos 0) at

-- the report of a zone whose series are summed up
pub zone_reported : (number : ℕ) (z : Zone) (m n : Summary) → SumsUp z.means m → m ≡ summary_of z.means → n ≡ summary_of z.normals → ◌≡◌ {A = ZoneReport} record { number = number; first = z.first; days = m.known + m.unknown; means = m; normals = n } (zone_of number z)
zone_reported number z m n h e d = rw (places_counted z.means m h, e, d)

-- the lines of zones: of the next one and those after it, and of none
pub lines_more : (bytes : List ℕ) (ps : List ZonePlaces) (k : ℕ) (d : ZonePlaces) → k < length ps → zones_lines k (drop k (map (zone_by bytes) ps)) ≡ zone_lines (zone_of k (zone_by bytes (get_or ps k d))) ++ zones_lines (k + 1) (drop (k + 1) (map (zone_by bytes) ps))
unfolding zones_lines
lines_more bytes ps k d h =
    let inside : k < length (map (zone_by bytes) ps) = omega (arith, length-map ps (zone_by bytes)) in
    ap (zones_lines k) (drop_more (map (zone_by bytes) ps) k (zone_by bytes d) inside ∙ ap (λ z. z ∷ drop (k + 1) (map (zone_by bytes) ps)) (get_or-map (zone_by bytes) ps k d (zone_by bytes d) h))

pub lines_none : (k : ℕ) (zs : List Zone) → length zs ≤ k → zones_lines k (drop k zs) ≡ []
unfolding zones_lines
lines_none k zs h = ap (zones_lines k) (drop_all k zs h)

-- the report of a log that lists zones
pub reported_some : (size : ℕ) (zs : List Zone) (n : ℕ) → length zs ≡ n → 0 < n → reported size (Ok zs) ≡ head_line size n ++ zones_lines 0 zs
reported_some size [] n e h = absurd (omega arith)
reported_some size (z ∷ zs) n e h = ap (λ k. head_line size k ++ zones_lines 0 (z ∷ zs)) e
