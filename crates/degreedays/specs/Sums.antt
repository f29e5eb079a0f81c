-- What it is to sum over the days of a period, whatever is summed and however.
use Rattle.std.specs.Prelude.{◌≡◌, ℕ, zero, suc, ◌+◌, ◌<◌, ◌≤◌, true, ℤ, pos, ◌+ℤ◌, ◌≤ℤ◌, is_some, Some, None, Ok, Err, Option, Result}
use Rattle.period.specs.Periods.{days_of}
use Rattle.weather.specs.declared.kinds.WeatherFault.{WeatherFault}
use Rattle.weather.specs.declared.kinds.WeatherFault.TheVariants.{Unknown}
use Rattle.degreedays.specs.declared.kinds.DayDegrees.{DayDegrees}

-- the sum of g over the n days after `last`
abbrev pub total : (ℕ → ℤ) → ℕ → ℕ → ℤ
total g last zero = pos 0
total g last (suc n) = total g last n +ℤ g (last + suc n)

-- each day of a period is known, and v is the sum
pub record SumIs (f : ℕ → Option ℤ) (last read : ℕ) (v : ℤ) : Type 0 where
  pub each : ℕ → ℤ
  pub known : (day : ℕ) → last < day → day ≤ read → f day ≡ Some (each day)
  pub is : v ≡ total each last (days_of last read)

-- a day of a period is unknown, and each day of the period before it is known
pub record FirstUnknown (f : ℕ → Option ℤ) (last read day : ℕ) : Type 0 where
  pub after : last < day
  pub until : day ≤ read
  pub unknown : f day ≡ None
  pub known : (d : ℕ) → last < d → d < day → is_some (f d) ≡ true

-- the sum over a period, or its first unknown day
abbrev pub Sums : (ℕ → Option ℤ) → ℕ → ℕ → Result ℤ ℕ → Type 0
Sums f last read (Ok v) = SumIs f last read v
Sums f last read (Err day) = FirstUnknown f last read day

-- a period has one sum, or one first unknown day, and not both
abbrev pub OneSum : Type 0
OneSum = (f : ℕ → Option ℤ) (last read : ℕ) (r s : Result ℤ ℕ) → Sums f last read r → Sums f last read s → r ≡ s

-- the sum of a zone's days, or its first unknown day as a fault
abbrev pub Tells : ℕ → (ℕ → Option ℤ) → ℕ → ℕ → Result ℤ WeatherFault → Type 0
Tells zone f last read (Ok v) = SumIs f last read v
Tells zone f last read (Err fault) = (day : ℕ) × (fault ≡ Unknown zone day) × FirstUnknown f last read day

-- degree days that are known lie from 0 to a limit
abbrev pub Within : ℕ → Option DayDegrees → Type 0
Within limit None = Unit {0}
Within limit (Some d) = (pos 0 ≤ℤ d.normal) × (d.normal ≤ℤ pos limit) × (pos 0 ≤ℤ d.actual) × (d.actual ≤ℤ pos limit)
