-- What a source knows of one zone.
use Rattle.std.specs.Prelude.{ℕ, ℤ, Option}
use Rattle.weather.specs.declared.Source.{Ghosts}
use Rattle.degreedays.specs.DegreeDays.{day_difference}
use Rattle.degreedays.specs.declared.zone.ZoneWeather.{ZoneWeather}

-- its normals, by calendar place
abbrev pub normals_of : {W : Type 0} → Ghosts W → ZoneWeather W → ℕ → Option ℤ
normals_of source weather = source.normal weather.source.now weather.zone

-- its means, by day
abbrev pub means_of : {W : Type 0} → Ghosts W → ZoneWeather W → ℕ → Option ℤ
means_of source weather = source.mean weather.source.now weather.zone

-- its normal degree days less its actual ones at a set point, by day
abbrev pub differences_of : {W : Type 0} → Ghosts W → ZoneWeather W → ℕ → ℕ → Option ℤ
differences_of source weather set_point = day_difference set_point (normals_of source weather) (means_of source weather)
