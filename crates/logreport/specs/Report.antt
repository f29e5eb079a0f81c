-- The report of a log: its lines, whatever the log's bytes.
use Rattle.std.specs.Prelude.{ℕ, ◌+◌, ◌-◌, cond, List, [], ◌∷◌, ◌++◌, length, Some, None, Ok, Err, codes, decimal, Option, Result, ◌==◌}
use Rattle.std.specs.Option.{option_zip}
use Rattle.refusal.specs.Refusals.{layer_name}
use Rattle.weather.specs.Refusals.{refusal_of}
use Rattle.weather.specs.declared.kinds.WeatherFault.{WeatherFault}
use Rattle.weather.specs.declared.kinds.WeatherFault.TheVariants.{Unknown, LogTooLong, BadNumber, OutOfFormat}
use Rattle.logformat.specs.Reading.{log_of}
use Rattle.logformat.specs.Zones.{Zone}
use Rattle.logsummary.specs.Summaries.{summary_of}
use Rattle.logsummary.specs.declared.kinds.Extreme.{Extreme}
use Rattle.logsummary.specs.declared.kinds.Gap.{Gap}
use Rattle.logsummary.specs.declared.kinds.Summary.{Summary}
use Rattle.logreport.specs.declared.kinds.Day.{Day}
use Rattle.logreport.specs.declared.kinds.Day.TheVariants.{Dated, Yearly}
use Rattle.logreport.specs.declared.kinds.Timeline.{Timeline}
use Rattle.logreport.specs.declared.kinds.Timeline.TheVariants.{Means, Normals}
use Rattle.logreport.specs.declared.kinds.ZoneReport.{ZoneReport}
use Rattle.logreport.specs.Words.{day_text, days_text, degrees_text, fahrenheit, newline}

-- the name of a series, and the day that each of its places stands for
abbrev pub series_name : Timeline → List ℕ
series_name (Means first) = codes "means"
series_name Normals = codes "normals"

abbrev pub day_at : Timeline → ℕ → Day
day_at (Means first) place = Dated (first + place)
day_at Normals place = Yearly place

-- the lines of the coldest and the warmest
abbrev pub extreme_lines : Timeline → Option (Extreme × Extreme) → List ℕ
extreme_lines l None = codes "    nothing known\n"
extreme_lines l (Some (coldest, warmest)) =
    codes "    coldest " ++ (degrees_text coldest.tenths ++ (codes " on " ++ (day_text (day_at l coldest.at) ++
    (codes "\n    warmest " ++ (degrees_text warmest.tenths ++ (codes " on " ++ (day_text (day_at l warmest.at) ++ newline)))))))

-- the line of the longest gap
abbrev pub gap_line : Timeline → Gap → List ℕ
gap_line l gap =
    cond (gap.length == 0) (codes "    longest gap: none\n")
    (codes "    longest gap: " ++ (days_text gap.length ++ (codes " from " ++ (day_text (day_at l gap.at) ++ newline))))

-- the lines of a series
unfoldable pub series_lines : Timeline → Summary → List ℕ
series_lines l s =
    codes "  " ++ (series_name l ++ (codes ": " ++ (decimal s.known ++ (codes " known, " ++ (decimal s.unknown ++ (codes " unknown, " ++
    (decimal s.subzero ++ ((codes " below 0" ++ (fahrenheit ++ newline)) ++
    (extreme_lines l (option_zip s.coldest s.warmest) ++ gap_line l s.longest)))))))))

-- what is reported of a zone, and its lines
abbrev pub zone_of : ℕ → Zone → ZoneReport
zone_of number z =
    record { number = number; first = z.first; days = length z.means; means = summary_of z.means; normals = summary_of z.normals }

unfoldable pub zone_lines : ZoneReport → List ℕ
zone_lines x =
    let series = series_lines (Means x.first) x.means ++ series_lines Normals x.normals in
    codes "zone " ++ (decimal x.number ++
    cond (x.days == 0) (codes ": no days\n" ++ series)
    (codes ": " ++ (days_text x.days ++ (codes ", " ++
    (day_text (Dated x.first) ++ (codes " to " ++ (day_text (Dated (x.first + x.days - 1)) ++ (newline ++ series))))))))

-- the lines of zones, numbered from a number on
unfoldable pub zones_lines : ℕ → List Zone → List ℕ
zones_lines number [] = []
zones_lines number (z ∷ zs) = zone_lines (zone_of number z) ++ zones_lines (number + 1) zs

-- what is refused: a log, or a bill for a day that is unknown
abbrev pub subject_text : WeatherFault → List ℕ
subject_text (Unknown zone day) = codes "the bill"
subject_text LogTooLong = codes "weather.log"
subject_text (BadNumber place) = codes "weather.log"
subject_text (OutOfFormat place) = codes "weather.log"

-- why it is refused
abbrev pub reason_text : WeatherFault → List ℕ
reason_text (Unknown zone day) =
    codes "nothing is known of " ++ (day_text (Dated day) ++ (codes ", day " ++ (decimal day ++ (codes ", in zone " ++ decimal zone))))
reason_text LogTooLong = codes "more than 60,000 bytes"
reason_text (BadNumber place) = codes "at byte " ++ (decimal place ++ codes " no whole, shortest number below 2^63 starts")
reason_text (OutOfFormat place) = codes "at byte " ++ (decimal place ++ codes " a number or surplus does not keep to the format")

-- a refusal: what is refused, its number and its layer, and why; and its line
abbrev pub refused_text : WeatherFault → List ℕ
refused_text fault =
    subject_text fault ++ (codes " is refused (" ++ (decimal (refusal_of fault).number ++ (codes ", " ++
    (layer_name (refusal_of fault).layer ++ (codes "): " ++ reason_text fault)))))

abbrev pub refused_line : WeatherFault → List ℕ
refused_line fault = refused_text fault ++ newline

-- the line of an empty log
abbrev pub empty_line : List ℕ
empty_line = codes "weather.log: empty, nothing is known\n"

-- the first line of a log that lists zones
abbrev pub head_line : ℕ → ℕ → List ℕ
head_line size zones = codes "weather.log: " ++ (decimal size ++ (codes " bytes, zones listed: " ++ (decimal zones ++ newline)))

-- the report of a log of so many bytes, from what is read in them; only an empty log lists no zones
abbrev pub reported : ℕ → Result (List Zone) WeatherFault → List ℕ
reported size (Err fault) = refused_line fault
reported size (Ok []) = empty_line
reported size (Ok (z ∷ zs)) = head_line size (length (z ∷ zs)) ++ zones_lines 0 (z ∷ zs)

abbrev pub report_of : List ℕ → List ℕ
report_of bytes = reported (length bytes) (log_of bytes)
