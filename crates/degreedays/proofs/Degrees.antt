-- The degree days of a day: what they are where both temperatures are known, and how many they can be.
use Rattle.std.proofs.Common.{◌≡◌, ℕ, ◌+◌, ltb, ℤ, pos, ◌≤ℤ◌, Some, Ok, Err, Option, Result, refl, arith, w16, w32, SFits, to_z, of_z}
use Rattle.std.proofs.lemmas.Int.{ints, clamps, to_z-of_z}
use Rattle.std.proofs.lemmas.Bool.{cond_both}
use Rattle.gregorian.specs.Calendar.{date_of, in_calendar, place_of}
use Rattle.gregorian.specs.declared.kinds.CalendarFault.{CalendarFault}
use Rattle.weather.specs.Temperatures.{Temperature}
use Rattle.degreedays.specs.declared.kinds.DayDegrees.{DayDegrees}
use Rattle.degreedays.specs.DegreeDays.{degree_days, degrees_by}
use Rattle.degreedays.specs.Sums.{Within}

-- the calendar place that is told of a day is that of its date
pub place_told : (day place : ℕ) → Ok place ≡ in_calendar day (place_of (date_of day)) → place ≡ place_of (date_of day)
place_told day place e =
    cond_both (ltb day 36525) (Ok (place_of (date_of day))) (Err _) (λ (r : Result ℕ CalendarFault). Ok place ≡ r → place ≡ place_of (date_of day)) (λ _ s. cc)
    (λ _ s. absurd (cc)) e

-- numbers that are passed by their bits
pub passed : (sp : ℕ) (t a : ℤ) → SFits w16 t → SFits w32 a → a ≡ degree_days sp (to_z w16 (of_z w16 t)) → to_z w32 (of_z w32 a) ≡ degree_days sp t
passed sp t a ft fa e = let d = simp to_z-of_z at e in simp to_z-of_z (cc)

pub known_both : (sp : ℕ) (n t a b : ℤ) (normal mean : Option ℤ) → SFits w16 n → SFits w16 t → SFits w32 a → SFits w32 b → a ≡ degree_days sp (to_z w16 (of_z w16 n)) → b ≡ degree_days sp (to_z w16 (of_z w16 t)) → Some n ≡ normal → Some t ≡ mean → ◌≡◌ {A = Option DayDegrees} (Some record { normal = to_z w32 (of_z w32 a); actual = to_z w32 (of_z w32 b) }) (degrees_by sp normal mean)
known_both sp n t a b normal mean fn ft fa fb p q e d = rw (← e) (rw (← d) (rw (passed sp n a fn fa p) (rw (passed sp t b ft fb q) refl)))

degrees_within : (sp : ℕ) (t : ℤ) → Temperature t → (pos 0 ≤ℤ degree_days sp t) × (degree_days sp t ≤ℤ pos (sp + 1000))
degrees_within sp t h = let l = h.0 in let u = h.1 in (omega (arith, ints, clamps), omega (arith, ints, clamps))

pub within_both : (sp : ℕ) (n t a b : ℤ) → SFits w16 n → SFits w16 t → SFits w32 a → SFits w32 b → a ≡ degree_days sp (to_z w16 (of_z w16 n)) → b ≡ degree_days sp (to_z w16 (of_z w16 t)) → Temperature n → Temperature t → Within (sp + 1000) (Some record { normal = to_z w32 (of_z w32 a); actual = to_z w32 (of_z w32 b) })
within_both sp n t a b fn ft fa fb p q h k =
    rw (passed sp n a fn fa p) (rw (passed sp t b ft fb q) ((degrees_within sp n h).0, (degrees_within sp n h).1, (degrees_within sp t k).0, (degrees_within sp t k).1))
