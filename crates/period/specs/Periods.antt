-- The days of a bill: from the day after the last read day to the read day.
use Rattle.std.specs.Prelude.{ℕ, ◌+◌, ◌-◌, ◌<◌, ◌≤◌, min, Bool, ◌&&◌, nat_le, nat_lt}

-- the read day comes 1 to 62 days after the last, and lies in the calendar
abbrev pub Allowed : ℕ → ℕ → Type 0
Allowed last read = (last < read) × (read ≤ last + 62) × (read ≤ 36524)

-- the same as a test
abbrev pub allowed : ℕ → ℕ → Bool
allowed last read = nat_lt last read && nat_le read (last + 62) && nat_le read 36524

-- how many days there are
abbrev pub days_of : ℕ → ℕ → ℕ
days_of last read = read - last

-- how many of them come before a change day, and how many do not
abbrev pub days_before : ℕ → ℕ → ℕ → ℕ
days_before last read change = min (change - (last + 1)) (days_of last read)

abbrev pub days_from : ℕ → ℕ → ℕ → ℕ
days_from last read change = days_of last read - days_before last read change
