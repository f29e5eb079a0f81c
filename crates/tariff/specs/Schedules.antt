-- What the two schedules fix for each class, and the most, in points, that they let a bill rise and fall.
use Rattle.std.specs.Prelude.{ℕ, ◌-◌, ◌*◌, ◌/◌, ◌≤◌, min}
use Rattle.std.proofs.Common.{refl}
use Rattle.std.proofs.lemmas.Bool.{leb-true}
use Rattle.tariff.specs.declared.kinds.Class.TheVariants.{Residential, Commercial}
use Rattle.tariff.specs.declared.kinds.Class.{Class}
use Rattle.tariff.specs.declared.kinds.Sale.{Sale}
use Rattle.tariff.specs.declared.terms.Terms.{Terms}
use Rattle.tariff.specs.Classes.{by_class}

-- the usage portion of a bill: therms times billing rate
abbrev pub usage : Sale → ℕ
usage sale = sale.therms * sale.billing_rate

-- a quarter of the usage portion, fraction dropped, and at most $12.00 or $35.00
abbrev pub quarter_capped : Sale → ℕ
quarter_capped sale = min (usage sale / 4) (by_class 1200000 3500000 sale.class)

-- Schedule 195: rise and fall are limited alike, whatever the floor
abbrev pub points195 : Class → ℕ
points195 = by_class 590 580

abbrev pub coefficients195 : Class → ℕ
coefficients195 = by_class 15533 65004

pub points195-within : (class : Class) → (400 ≤ points195 class) × (points195 class ≤ 700)
points195-within Residential = (leb-true 400 590 refl, leb-true 590 700 refl)
points195-within Commercial = (leb-true 400 580 refl, leb-true 580 700 refl)

pub coefficients195-within : (class : Class) → (1 ≤ coefficients195 class) × (coefficients195 class ≤ 999999)
coefficients195-within Residential = (leb-true 1 15533 refl, leb-true 15533 999999 refl)
coefficients195-within Commercial = (leb-true 1 65004 refl, leb-true 65004 999999 refl)

abbrev pub terms195 : Class → Terms
terms195 class =
    record { set_point = points195 class; coefficient = coefficients195 class; point_within = points195-within class; coefficient_within = coefficients195-within class }

abbrev pub rise195 : Sale → ℕ
rise195 sale = quarter_capped sale

abbrev pub fall195 : Sale → ℕ
fall195 sale = quarter_capped sale

-- Schedule 240: a bill rises as under 195, and falls at most to its floor, the gas cost per therm
abbrev pub points240 : Class → ℕ
points240 = by_class 650 650

abbrev pub coefficients240 : Class → ℕ
coefficients240 = by_class 19030 76160

pub points240-within : (class : Class) → (400 ≤ points240 class) × (points240 class ≤ 700)
points240-within Residential = (leb-true 400 650 refl, leb-true 650 700 refl)
points240-within Commercial = (leb-true 400 650 refl, leb-true 650 700 refl)

pub coefficients240-within : (class : Class) → (1 ≤ coefficients240 class) × (coefficients240 class ≤ 999999)
coefficients240-within Residential = (leb-true 1 19030 refl, leb-true 19030 999999 refl)
coefficients240-within Commercial = (leb-true 1 76160 refl, leb-true 76160 999999 refl)

abbrev pub terms240 : Class → Terms
terms240 class =
    record { set_point = points240 class; coefficient = coefficients240 class; point_within = points240-within class; coefficient_within = coefficients240-within class }

abbrev pub rise240 : Sale → ℕ
rise240 sale = quarter_capped sale

abbrev pub fall240 : Sale → ℕ
fall240 sale = sale.therms * (sale.billing_rate - sale.floor)
