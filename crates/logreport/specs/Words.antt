-- How temperatures and dates are written.
use Rattle.std.specs.Prelude.{ℕ, ◌/◌, ◌%◌, cond, List, ◌∷◌, ◌++◌, ℤ, pos, negsuc, Ok, Err, codes, decimal, Result, ◌==◌, unsigned_abs}
use Rattle.gregorian.specs.Calendar.{dated}
use Rattle.gregorian.specs.declared.kinds.CalendarFault.{CalendarFault}
use Rattle.gregorian.specs.declared.kinds.Date.{Date}
use Rattle.logreport.specs.declared.kinds.Day.{Day}
use Rattle.logreport.specs.declared.kinds.Day.TheVariants.{Dated, Yearly}

abbrev pub newline : List ℕ
newline = codes "\n"

-- a space and the unit; UTF-8 writes the degree sign in two bytes
abbrev pub fahrenheit : List ℕ
fahrenheit = codes " " ++ (0xC2 ∷ 0xB0 ∷ codes "F")

-- tenths with one decimal
abbrev pub tenths_text : ℕ → List ℕ
tenths_text n = decimal (n / 10) ++ (codes "." ++ decimal (n % 10))

-- tenths with one decimal, always with their sign
abbrev pub sign_text : ℤ → List ℕ
sign_text (pos n) = codes "+"
sign_text (negsuc n) = codes "-"

abbrev pub signed_text : ℤ → List ℕ
signed_text t = sign_text t ++ tenths_text (unsigned_abs t)

-- a temperature in tenths as degrees
abbrev pub degrees_text : ℤ → List ℕ
degrees_text t = signed_text t ++ fahrenheit

-- the name of a month; January is month 1
abbrev pub month_name : ℕ → List ℕ
month_name m =
    cond (m == 1) (codes "January")
    (cond (m == 2) (codes "February")
    (cond (m == 3) (codes "March")
    (cond (m == 4) (codes "April")
    (cond (m == 5) (codes "May")
    (cond (m == 6) (codes "June")
    (cond (m == 7) (codes "July")
    (cond (m == 8) (codes "August")
    (cond (m == 9) (codes "September")
    (cond (m == 10) (codes "October")
    (cond (m == 11) (codes "November")
    (codes "December")))))))))))

-- a date with its year and without it; a day outside the calendar keeps its number
abbrev pub with_year : ℕ → Result Date CalendarFault → List ℕ
with_year n (Ok x) = decimal x.day ++ (codes " " ++ (month_name x.month ++ (codes " " ++ decimal x.year)))
with_year n (Err f) = codes "day " ++ decimal n

abbrev pub without_year : ℕ → Result Date CalendarFault → List ℕ
without_year n (Ok x) = decimal x.day ++ (codes " " ++ month_name x.month)
without_year n (Err f) = codes "day " ++ decimal n

abbrev pub day_text : Day → List ℕ
day_text (Dated n) = with_year n (dated n)
day_text (Yearly n) = without_year n (dated n)

-- a number of days
abbrev pub days_text : ℕ → List ℕ
days_text n = cond (n == 1) (codes "1 day") (decimal n ++ codes " days")
