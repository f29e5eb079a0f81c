-- What a refusal by the calendar says.
use Rattle.refusal.specs.declared.kinds.Layer.TheVariants.{Book}
use Rattle.refusal.specs.declared.kinds.Refusal.{Refusal}
use Rattle.refusal.specs.Refusals.{unplaced}
use Rattle.gregorian.specs.declared.kinds.CalendarFault.{CalendarFault}
use Rattle.gregorian.specs.declared.kinds.CalendarFault.TheVariants.{NotInCalendar}

-- the number and the layer of each case; no place is named
abbrev pub refusal_of : CalendarFault → Refusal
refusal_of NotInCalendar = unplaced 2 Book
