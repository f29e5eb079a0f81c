-- What words and counts stand for.
use Rattle.std.specs.Prelude.{ℕ, Option}
use Rattle.weather.specs.declared.Source.{Ghosts}
use Rattle.degreedays.specs.DegreeDays.{day_degrees}
use Rattle.degreedays.specs.Zones.{means_of, normals_of}
use Rattle.degreedays.specs.declared.kinds.DayDegrees.{DayDegrees}
use Rattle.degreereport.specs.declared.counts.Count.{Count}
use Rattle.degreereport.specs.declared.kinds.Request.{Request}
use Rattle.degreereport.specs.declared.kinds.Words.{Words}
use Rattle.degreereport.specs.Counts.{Counted, counted_of}
use Rattle.degreereport.specs.Requests.{read_days, request_by}

-- the request that words write
abbrev pub request_of : Words → Option Request
request_of words = request_by words.zone.now words.earlier.now words.later.now words.set_point.now

-- the read days of a count and their variance
abbrev pub count_of : {W : Type 0} → Count W → Counted
count_of count = counted_of (read_days count.period.last_read count.period.read_day) count.variance

-- the degree days of each day, by the source of a count's weather
abbrev pub degrees_of : {W : Type 0} → Ghosts W → Count W → ℕ → Option DayDegrees
degrees_of source count = day_degrees count.set_point (normals_of source count.weather) (means_of source count.weather)
