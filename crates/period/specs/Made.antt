-- Which periods can be made.
use Rattle.std.specs.Prelude.{◌≡◌, ℕ, true, false, Some, None, Option}
use Rattle.period.specs.declared.kinds.Period.{Period}
use Rattle.period.specs.Periods.{allowed}

-- the period between two read days, exactly where these are allowed
abbrev pub Made : ℕ → ℕ → Option Period → Type 0
Made last read None = allowed last read ≡ false
Made last read (Some p) = (allowed last read ≡ true) × (p.last_read ≡ last) × (p.read_day ≡ read)
