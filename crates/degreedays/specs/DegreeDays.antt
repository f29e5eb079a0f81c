-- Degree days, in tenths, and their variance over the days of a bill.
use Rattle.std.specs.Prelude.{ℕ, zero, suc, ◌+◌, ℤ, pos, ◌+ℤ◌, ◌-ℤ◌, Some, None, Ok, Err, Option, Result}
use Rattle.std.specs.Int.{int_max}
use Rattle.gregorian.specs.Calendar.{date_of, place_of}
use Rattle.period.specs.Periods.{days_of}
use Rattle.weather.specs.declared.kinds.WeatherFault.{WeatherFault}
use Rattle.weather.specs.declared.kinds.WeatherFault.TheVariants.{Unknown}
use Rattle.degreedays.specs.declared.kinds.DayDegrees.{DayDegrees}

-- the degree days of a temperature: the set point less the temperature, at least 0
abbrev pub degree_days : ℕ → ℤ → ℤ
degree_days set_point t = int_max (pos set_point -ℤ t) (pos 0)

-- the degree days by a normal and by a mean, where both are known
abbrev pub degrees_by : ℕ → Option ℤ → Option ℤ → Option DayDegrees
degrees_by set_point None mean = None
degrees_by set_point (Some n) None = None
degrees_by set_point (Some n) (Some t) = Some record { normal = degree_days set_point n; actual = degree_days set_point t }

-- the degree days of a day, by a zone's normals, which stand by calendar place, and its means, which stand by day
abbrev pub day_degrees : ℕ → (ℕ → Option ℤ) → (ℕ → Option ℤ) → ℕ → Option DayDegrees
day_degrees set_point normals means day = degrees_by set_point (normals (place_of (date_of day))) (means day)

-- normal less actual
abbrev pub difference : Option DayDegrees → Option ℤ
difference None = None
difference (Some d) = Some (d.normal -ℤ d.actual)

abbrev pub day_difference : ℕ → (ℕ → Option ℤ) → (ℕ → Option ℤ) → ℕ → Option ℤ
day_difference set_point normals means day = difference (day_degrees set_point normals means day)

-- one day more: a known one is added, and the first unknown one is kept
abbrev pub one_more : Result ℤ ℕ → ℕ → Option ℤ → Result ℤ ℕ
one_more (Err first) day m = Err first
one_more (Ok s) day (Some m) = Ok (s +ℤ m)
one_more (Ok s) day None = Err day

-- the sum of f over the n days after `last`, or the first of them that is unknown
abbrev pub summed : (ℕ → Option ℤ) → ℕ → ℕ → Result ℤ ℕ
summed f last zero = Ok (pos 0)
summed f last (suc n) = one_more (summed f last n) (last + suc n) (f (last + suc n))

-- the variance of the period between two read days
abbrev pub variance_of : ℕ → (ℕ → Option ℤ) → (ℕ → Option ℤ) → ℕ → ℕ → Result ℤ ℕ
variance_of set_point normals means last read = summed (day_difference set_point normals means) last (days_of last read)

-- in a zone, a day that is unknown is a fault
abbrev pub faulted : ℕ → Result ℤ ℕ → Result ℤ WeatherFault
faulted zone (Ok v) = Ok v
faulted zone (Err day) = Err (Unknown zone day)
