-- What the bytes of the orders say, or the first fault among them.
use Rattle.std.specs.Prelude.{ℕ, cond, List, length, Some, None, Ok, Err, Option, Result, nat_lt}
use Rattle.packed.specs.declared.kinds.Number.{Number}
use Rattle.packed.specs.declared.kinds.NumberFault.{NumberFault}
use Rattle.packed.specs.Numbers.{read_at}
use Rattle.run.specs.declared.kinds.RunFault.{RunFault}
use Rattle.run.specs.declared.kinds.RunFault.TheVariants.{OrdersTooLong, BadNumber, UnknownOrder}

-- the code of the order at a place: none at the end of the orders
abbrev pub coded : Result Number NumberFault → Result (Option Number) RunFault
coded (Err fault) = Err (BadNumber fault.place)
coded (Ok code) = Ok (Some code)

abbrev pub code_at : List ℕ → ℕ → Result (Option Number) RunFault
code_at orders at = cond (nat_lt at (length orders)) (coded (read_at orders at)) (Ok None)

-- what comes of the order at a place, by its code: none is known yet
abbrev pub obeyed : ℕ → Result (Option Number) RunFault → Result (Unit {0}) RunFault
obeyed at (Err fault) = Err fault
obeyed at (Ok None) = Ok tt
obeyed at (Ok (Some code)) = Err (UnknownOrder at)

-- the first order; orders of more than 60,000 bytes are not read
abbrev pub first_order : List ℕ → Result (Unit {0}) RunFault
first_order orders = cond (nat_lt 60000 (length orders)) (Err OrdersTooLong) (obeyed 0 (code_at orders 0))
