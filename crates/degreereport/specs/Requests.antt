-- How a request is written: a zone, two dates as YYYY-MM-DD and a set point in tenths; and the days that it asks for.
use Rattle.std.specs.Prelude.{ℕ, ◌+◌, ◌-◌, ◌*◌, cond, ◌&&◌, List, [], ◌∷◌, length, take, drop, Some, None, Ok, Err, Option, Result, ◌==◌, nat_le, slice_index}
use Rattle.gregorian.specs.Calendar.{numbered}
use Rattle.gregorian.specs.declared.kinds.CalendarFault.{CalendarFault}
use Rattle.gregorian.specs.declared.kinds.Date.{Date}
use Rattle.period.specs.Periods.{allowed}
use Rattle.degreereport.specs.declared.kinds.NoCount.{NoCount}
use Rattle.degreereport.specs.declared.kinds.NoCount.TheVariants.{EarlierDate, LaterDate, Days}
use Rattle.degreereport.specs.declared.kinds.Request.{Request}

-- a number with one digit more, where the byte is a digit and the number is at most a limit
abbrev pub one_digit : ℕ → ℕ → ℕ → Option ℕ
one_digit most value byte =
    let next = 10 * value + (byte - 48) in
    cond (nat_le 48 byte && nat_le byte 57) (cond (nat_le next most) (Some next) None) None

-- what is known goes on, and what is not stays so
abbrev pub and_then : {A : Type 0} → Option ℕ → (ℕ → Option A) → Option A
and_then None f = None
and_then (Some n) f = f n

-- a number with the digits after it
abbrev pub read_on : ℕ → ℕ → List ℕ → Option ℕ
read_on most value [] = Some value
read_on most value (byte ∷ bytes) = and_then (one_digit most value byte) (λ next. read_on most next bytes)

-- the number that one digit or more write, up to a limit
abbrev pub number_up_to : ℕ → List ℕ → Option ℕ
number_up_to most [] = None
number_up_to most (byte ∷ bytes) = read_on most 0 (byte ∷ bytes)

-- a date in ten bytes: four digits, a hyphen, two digits, a hyphen, two digits
abbrev pub date_of_parts : Option ℕ → Option ℕ → Option ℕ → Option Date
date_of_parts None month day = None
date_of_parts (Some year) None day = None
date_of_parts (Some year) (Some month) None = None
date_of_parts (Some year) (Some month) (Some day) = Some record { year = year; month = month; day = day }

abbrev pub date_by : List ℕ → Option Date
date_by bytes =
    cond (length bytes == 10 && (slice_index bytes 4 == 45 && slice_index bytes 7 == 45))
    (date_of_parts (number_up_to 9999 (take 4 bytes)) (number_up_to 99 (take 2 (drop 5 bytes))) (number_up_to 99 (take 2 (drop 8 bytes))))
    None

-- a request in four words: the zone up to 15, the set point up to 9,999
abbrev pub request_of_parts : Option ℕ → Option Date → Option Date → Option ℕ → Option Request
request_of_parts None earlier later set_point = None
request_of_parts (Some zone) None later set_point = None
request_of_parts (Some zone) (Some earlier) None set_point = None
request_of_parts (Some zone) (Some earlier) (Some later) None = None
request_of_parts (Some zone) (Some earlier) (Some later) (Some set_point) = Some record { zone = zone; earlier = earlier; later = later; set_point = set_point }

abbrev pub request_by : List ℕ → List ℕ → List ℕ → List ℕ → Option Request
request_by zone earlier later set_point = request_of_parts (number_up_to 15 zone) (date_by earlier) (date_by later) (number_up_to 9999 set_point)

-- the two read days of a bill, by their day numbers
pub record ReadDays : Type 0 where
  pub last : ℕ
  pub read : ℕ

abbrev pub read_days : ℕ → ℕ → ReadDays
read_days last read = record { last = last; read = read }

-- the read days that a request asks for, or why it has none
abbrev pub read_days_by : Result ℕ CalendarFault → Result ℕ CalendarFault → Result ReadDays NoCount
read_days_by (Err fault) later = Err EarlierDate
read_days_by (Ok last) (Err fault) = Err LaterDate
read_days_by (Ok last) (Ok read) = cond (allowed last read) (Ok (read_days last read)) (Err Days)

abbrev pub read_days_of : Request → Result ReadDays NoCount
read_days_of request =
    let earlier = request.earlier in let later = request.later in
    read_days_by (numbered earlier.year earlier.month earlier.day) (numbered later.year later.month later.day)
