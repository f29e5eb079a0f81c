-- What a station's table means, and a source with a stand-in.
use Rattle.std.specs.Prelude.{ℕ, ◌-◌, cond, ◌&&◌, List, length, ℤ, pos, Some, None, Option, ◌==◌, nat_le, nat_lt, slice_index_or}
use Rattle.weather.specs.Temperatures.{in_range}

-- the temperature at a place of a list: unknown past its end and out of range
abbrev pub temp_at : List ℤ → ℕ → Option ℤ
temp_at ts at = cond (nat_lt at (length ts)) (in_range (slice_index_or ts at (pos 0))) None

-- the mean of a day, by the table of zone `own` whose means start at day `first`
abbrev pub table_mean : ℕ → ℕ → List ℤ → ℕ → ℕ → Option ℤ
table_mean own first means zone day =
    cond (nat_le zone 15 && (zone == own && (nat_le first day && nat_le day 36524))) (temp_at means (day - first)) None

-- the normal at a calendar place, by the table of zone `own` whose normals start at place 1
abbrev pub table_normal : ℕ → List ℤ → ℕ → ℕ → Option ℤ
table_normal own normals zone place =
    cond (nat_le zone 15 && (zone == own && (nat_le 1 place && nat_le place 366))) (temp_at normals (place - 1)) None

-- what the first knows, and where it knows nothing, what the second knows
abbrev pub or_else : Option ℤ → Option ℤ → Option ℤ
or_else (Some t) other = Some t
or_else None other = other
