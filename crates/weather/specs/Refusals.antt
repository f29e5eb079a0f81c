-- The refusals of the weather layer: each with its number and its places.
use Rattle.refusal.specs.Refusals.{placed, unplaced}
use Rattle.refusal.specs.declared.kinds.Layer.TheVariants.{Weather}
use Rattle.refusal.specs.declared.kinds.Refusal.{Refusal}
use Rattle.weather.specs.declared.kinds.WeatherFault.{WeatherFault}
use Rattle.weather.specs.declared.kinds.WeatherFault.TheVariants.{Unknown, LogTooLong, BadNumber, OutOfFormat}

abbrev pub refusal_of : WeatherFault → Refusal
refusal_of (Unknown zone day) = record { number = 11; layer = Weather; first = zone; second = day }
refusal_of LogTooLong = unplaced 20 Weather
refusal_of (BadNumber place) = placed 21 Weather place
refusal_of (OutOfFormat place) = placed 24 Weather place
