-- The tariff's worked figures, over the definitions that the code's contracts cite.
use Rattle.std.specs.Prelude.{◌≡◌, ℕ, ℤ, pos, negsuc, Ok}
use Rattle.gregorian.specs.Calendar.{effective, numbered}
use Rattle.packed.specs.Numbers.{signed_of}
use Rattle.degreedays.specs.DegreeDays.{degree_days}
use Rattle.period.specs.Periods.{days_before, days_from}
use Rattle.tariff.specs.declared.kinds.Class.TheVariants.{Residential}
use Rattle.tariff.specs.Schedules.{coefficients195, coefficients240, rise195, rise240, fall195, fall240}
use Rattle.amounts.specs.declared.kinds.Amounts.{Amounts}
use Rattle.amounts.specs.declared.kinds.Figures.{Figures}
use Rattle.amounts.specs.Steps.{amounts_of, formula_of, limit_of, sale_of}

-- figures with one margin: the change day is past
abbrev pub figures : ℕ → ℕ → ℕ → ℕ → ℕ → Figures
figures therms rate charge floor margin =
    record { therms = therms; rate = rate; charge = charge; floor = floor; earlier_margin = 0; change_day = 0; later_margin = margin }

-- the formula amount of a residential bill from 25 December 2024 to 24 January 2025, under Schedules 195 and 240
abbrev pub formula195 : ℤ → Figures → ℤ
formula195 variance f = formula_of variance (coefficients195 Residential) 9125 9155 f

abbrev pub formula240 : ℤ → Figures → ℤ
formula240 variance f = formula_of variance (coefficients240 Residential) 9125 9155 f

-- the amounts of such a bill, with a temporary rate of 0
abbrev pub bill195 : ℤ → Figures → Amounts
bill195 variance f =
    amounts_of (formula195 variance f) (limit_of rise195 fall195 (sale_of Residential f f.rate) (formula195 variance f)) f f.rate (pos 0)

abbrev pub bill240 : ℤ → Figures → Amounts
bill240 variance f =
    amounts_of (formula240 variance f) (limit_of rise240 fall240 (sale_of Residential f f.rate) (formula240 variance f)) f f.rate (pos 0)

-- a colder period of 50.0 degree days, and a warmer one of 200.0
abbrev pub colder : ℤ
colder = negsuc 499

abbrev pub warmer : ℤ
warmer = pos 2000

-- a bill of 195 after the warmer period, by its therms
abbrev pub warm_bill : ℕ → Amounts
warm_bill therms = bill195 warmer (figures therms 133108 0 0 80858)

-- negsuc n is -n-1
abbrev pub WorkedFigures : Type 0
WorkedFigures =
    (numbered 2024 12 1 ≡ Ok 9101)
    × (numbered 2025 5 15 ≡ Ok 9266)
    × (signed_of 39 ≡ negsuc 19)
    × (degree_days 590 (negsuc 19) ≡ pos 610)
    × (formula195 colder (figures 129 133108 1000000 0 80858) ≡ negsuc 627983)
    × (bill195 colder (figures 129 133108 1000000 0 80858) ≡ record { formula = negsuc 627983; applied = negsuc 627971; rest = negsuc 11; collected = pos 0; cents = 17543 })
    × (bill240 colder (figures 129 109522 1200000 80000 36119) ≡ record { formula = negsuc 343671; applied = negsuc 343655; rest = negsuc 15; collected = pos 0; cents = 14985 })
    × ((warm_bill 100).applied ≡ pos 1200000)
    × ((warm_bill 100).rest ≡ pos 1311935)
    × ((warm_bill 20).applied ≡ pos 665540)
    × ((warm_bill 0).applied ≡ pos 0)
    × ((warm_bill 0).rest ≡ pos 2511935)
    × (days_before 9125 9155 9132 ≡ 6)
    × (days_from 9125 9155 9132 ≡ 24)
    × (formula195 colder record { therms = 129; rate = 133108; charge = 1000000; floor = 0; earlier_margin = 80000; change_day = 9132; later_margin = 80858 } ≡ negsuc 626650)
    × (numbered 2024 9 30 ≡ Ok 9039)
    × (effective 9039 ≡ numbered 2024 12 1)
    × (numbered 2024 10 1 ≡ Ok 9040)
    × (effective 9040 ≡ numbered 2025 12 1)
