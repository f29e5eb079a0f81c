-- The classes of customers and their statuses, by the numbers that calls bring.
use Rattle.std.specs.Prelude.{ℕ, Bool, true, false, cond, Ok, Err, Result, ◌==◌}
use Rattle.tariff.specs.declared.kinds.Class.{Class}
use Rattle.tariff.specs.declared.kinds.Class.TheVariants.{Residential, Commercial}
use Rattle.tariff.specs.declared.kinds.Status.{Status}
use Rattle.tariff.specs.declared.kinds.Status.TheVariants.{Out, In}
use Rattle.tariff.specs.declared.kinds.UnknownCode.{UnknownCode}

-- the number of each class
abbrev pub class_number : Class → ℕ
class_number Residential = 0
class_number Commercial = 1

-- the class of a number, or the number where it is none
abbrev pub class_of : ℕ → Result Class UnknownCode
class_of n = cond (n == 0) (Ok Residential) (cond (n == 1) (Ok Commercial) (Err record { 0 = n }))

-- the number of each status
abbrev pub status_number : Status → ℕ
status_number Out = 0
status_number In = 1

-- the status of a number, or the number where it is none
abbrev pub status_of : ℕ → Result Status UnknownCode
status_of n = cond (n == 0) (Ok Out) (cond (n == 1) (Ok In) (Err record { 0 = n }))

-- whether the adjustment is wanted
abbrev pub is_in : Status → Bool
is_in Out = false
is_in In = true

-- of two values, that of a class
abbrev pub by_class : {A : Type 0} → A → A → Class → A
by_class residential commercial Residential = residential
by_class residential commercial Commercial = commercial
