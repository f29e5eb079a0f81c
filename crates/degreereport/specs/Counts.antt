-- What is answered to a request: the degree days of a bill, day by day and in sum, or why there is no count.
use Rattle.std.specs.Prelude.{ℕ, zero, suc, ◌+◌, List, [], ◌++◌, ℤ, pos, ◌-ℤ◌, Some, None, Ok, Err, codes, Option, Result, unsigned_abs}
use Rattle.period.specs.Periods.{days_of}
use Rattle.weather.specs.declared.kinds.WeatherFault.{WeatherFault}
use Rattle.weather.specs.declared.kinds.WeatherFault.TheVariants.{Unknown}
use Rattle.logformat.specs.Reading.{log_of}
use Rattle.logformat.specs.Zones.{Zone, mean_in, normal_in}
use Rattle.logreport.specs.Report.{refused_line, refused_text}
use Rattle.logreport.specs.Words.{day_text, days_text, newline, signed_text, tenths_text}
use Rattle.logreport.specs.declared.kinds.Day.TheVariants.{Dated}
use Rattle.degreedays.specs.DegreeDays.{day_degrees, variance_of}
use Rattle.degreedays.specs.Sums.{total}
use Rattle.degreedays.specs.declared.kinds.DayDegrees.{DayDegrees}
use Rattle.degreereport.specs.declared.kinds.Figures.{Figures}
use Rattle.degreereport.specs.declared.kinds.NoCount.{NoCount}
use Rattle.degreereport.specs.declared.kinds.NoCount.TheVariants.{EarlierDate, LaterDate, Days, Weather}
use Rattle.degreereport.specs.declared.kinds.Request.{Request}
use Rattle.degreereport.specs.Requests.{ReadDays, read_days_of}

-- degree days plain, and a difference always with its sign
abbrev pub figures_text : Figures → List ℕ
figures_text figures =
    codes "normal " ++ (tenths_text (unsigned_abs figures.normal) ++ (codes ", actual " ++ (tenths_text (unsigned_abs figures.actual) ++
    (codes ", difference " ++ signed_text figures.difference))))

-- the figures of a day, and its line; a day that is unknown has none
abbrev pub day_figures : DayDegrees → Figures
day_figures degrees = record { normal = degrees.normal; actual = degrees.actual; difference = degrees.normal -ℤ degrees.actual }

unfoldable pub known_line : ℕ → Figures → List ℕ
known_line day figures = day_text (Dated day) ++ (codes ": " ++ (figures_text figures ++ newline))

abbrev pub day_line : ℕ → Option DayDegrees → List ℕ
day_line day None = []
day_line day (Some degrees) = known_line day (day_figures degrees)

-- the lines of the n days after `last`
unfoldable pub day_lines : (ℕ → Option DayDegrees) → ℕ → ℕ → List ℕ
day_lines f last zero = []
day_lines f last (suc n) = day_lines f last n ++ day_line (last + suc n) (f (last + suc n))

-- the degree days of a day: none where it is unknown
abbrev pub normal_of : Option DayDegrees → ℤ
normal_of None = pos 0
normal_of (Some degrees) = degrees.normal

abbrev pub actual_of : Option DayDegrees → ℤ
actual_of None = pos 0
actual_of (Some degrees) = degrees.actual

-- the line of n days in sum
unfoldable pub sum_line : ℕ → Figures → List ℕ
sum_line n figures = days_text n ++ (codes ": " ++ (figures_text figures ++ newline))

-- what is counted: the read days of a bill, and the variance of the days between them
pub record Counted : Type 0 where
  pub days : ReadDays
  pub variance : ℤ

abbrev pub counted_of : ReadDays → ℤ → Counted
counted_of days variance = record { days = days; variance = variance }

-- the count that a request asks for, by its zone's normals and means, or why there is none
abbrev pub counted_by : ℕ → ReadDays → Result ℤ ℕ → Result Counted NoCount
counted_by zone days (Ok variance) = Ok (counted_of days variance)
counted_by zone days (Err day) = Err (Weather (Unknown zone day))

abbrev pub counted_in : Request → (ℕ → Option ℤ) → (ℕ → Option ℤ) → Result ReadDays NoCount → Result Counted NoCount
counted_in request normals means (Err reason) = Err reason
counted_in request normals means (Ok days) = counted_by request.zone days (variance_of request.set_point normals means days.last days.read)

abbrev pub counted : Request → (ℕ → Option ℤ) → (ℕ → Option ℤ) → Result Counted NoCount
counted request normals means = counted_in request normals means (read_days_of request)

-- the lines of a count's days, and their figures in sum, of which the difference is the variance
abbrev pub lines_of : (ℕ → Option DayDegrees) → Counted → List ℕ
lines_of f count = day_lines f count.days.last (days_of count.days.last count.days.read)

abbrev pub sums_of : (ℕ → Option DayDegrees) → Counted → Figures
sums_of f count =
    let last = count.days.last in let n = days_of last count.days.read in
    record { normal = total (λ day. normal_of (f day)) last n; actual = total (λ day. actual_of (f day)) last n; difference = count.variance }

-- a count: a line for each day and one for the sum
abbrev pub count_text : (ℕ → Option DayDegrees) → Counted → List ℕ
count_text f count = lines_of f count ++ sum_line (days_of count.days.last count.days.read) (sums_of f count)

-- why there is no count
abbrev pub no_count_text : NoCount → List ℕ
no_count_text EarlierDate = codes "the earlier read date is not in the calendar"
no_count_text LaterDate = codes "the later read date is not in the calendar"
no_count_text Days = codes "the later read date does not come 1 to 62 days after the earlier"
no_count_text (Weather fault) = refused_text fault

-- the answer by the weather of a zone: the count, or the line that says why there is none
abbrev pub counted_text : (ℕ → Option DayDegrees) → Result Counted NoCount → List ℕ
counted_text f (Ok count) = count_text f count
counted_text f (Err reason) = no_count_text reason ++ newline

abbrev pub source_text : Request → (ℕ → Option ℤ) → (ℕ → Option ℤ) → List ℕ
source_text request normals means = counted_text (day_degrees request.set_point normals means) (counted request normals means)

-- the answer by a log: a log that is refused has only its refusal
abbrev pub log_text : Request → Result (List Zone) WeatherFault → List ℕ
log_text request (Err fault) = refused_line fault
log_text request (Ok zones) = source_text request (normal_in zones request.zone) (mean_in zones request.zone)

abbrev pub answer_of : List ℕ → Request → List ℕ
answer_of bytes request = log_text request (log_of bytes)

-- the answer to words: to a request, or how one is written
abbrev pub usage_line : List ℕ
usage_line = codes "usage: warmlog [ZONE EARLIER LATER SETPOINT], as in: warmlog 0 2024-12-25 2025-01-24 590\n"

abbrev pub asked_text : List ℕ → Option Request → List ℕ
asked_text bytes None = usage_line
asked_text bytes (Some request) = answer_of bytes request
