-- The refusals of the run layer: each with its number and its places.
use Rattle.refusal.specs.Refusals.{placed, unplaced}
use Rattle.refusal.specs.declared.kinds.Layer.TheVariants.{Run}
use Rattle.refusal.specs.declared.kinds.Refusal.{Refusal}
use Rattle.weather.specs.Refusals.{refusal_of as weather_refusal}
use Rattle.run.specs.declared.kinds.RunFault.{RunFault}
use Rattle.run.specs.declared.kinds.RunFault.TheVariants.{Weather, OrdersTooLong, BadNumber, UnknownOrder}

-- a fault of the weather log keeps its own refusal
abbrev pub refusal_of : RunFault → Refusal
refusal_of (Weather fault) = weather_refusal fault
refusal_of OrdersTooLong = unplaced 20 Run
refusal_of (BadNumber place) = placed 21 Run place
refusal_of (UnknownOrder place) = placed 22 Run place
