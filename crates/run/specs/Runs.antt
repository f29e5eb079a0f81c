-- What a run lists, whatever the bytes of its log and its orders.
use Rattle.std.specs.Prelude.{ℕ, List, [], ◌++◌, Ok, Err, Result}
use Rattle.listing.specs.Lines.{header_bytes, line_bytes}
use Rattle.listing.specs.declared.kinds.Line.TheVariants.{Refused}
use Rattle.logformat.specs.Reading.{log_of}
use Rattle.logformat.specs.Zones.{Zone}
use Rattle.weather.specs.declared.kinds.WeatherFault.{WeatherFault}
use Rattle.run.specs.declared.kinds.RunFault.{RunFault}
use Rattle.run.specs.declared.kinds.RunFault.TheVariants.{Weather}
use Rattle.run.specs.declared.kinds.Stop.{Stop}
use Rattle.run.specs.Orders.{first_order}
use Rattle.run.specs.Refusals.{refusal_of}

-- a fault stops a run at its order
abbrev pub stopping : ℕ → Result (Unit {0}) RunFault → Result (Unit {0}) Stop
stopping order (Ok done) = Ok done
stopping order (Err fault) = Err record { order = order; fault = fault }

-- a log that is refused stops the run at order 0, and no order is read; else the orders count from 1
abbrev pub carried_out : Result (List Zone) WeatherFault → List ℕ → Result (Unit {0}) Stop
carried_out (Err fault) orders = stopping 0 (Err (Weather fault))
carried_out (Ok zones) orders = stopping 1 (first_order orders)

-- the line of a stop
abbrev pub stop_line : Stop → List ℕ
stop_line stop = line_bytes (Refused stop.order (refusal_of stop.fault))

-- the lines after the first
abbrev pub lines : Result (Unit {0}) Stop → List ℕ
lines (Ok done) = []
lines (Err stop) = stop_line stop

-- the whole listing
abbrev pub listing : List ℕ → List ℕ → List ℕ
listing log orders = header_bytes ++ lines (carried_out (log_of log) orders)
