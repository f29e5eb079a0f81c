-- The proof of `day_number`: a day past its month is refused, any other has its number.
use Rattle.std.proofs.Common.{◌+◌, ◌-◌, ap, arith, rules}
use Rattle.gregorian.proofs.Answered.{number_refused, number_valid, number_at}
use Rattle.calendar.proofs.day_number.Goals as goal

pub returns-then-number-start_of : goal.returns-then-number-start_of
returns-then-number-start_of c =
    record {
      value = number_refused c.args.year c.args.month c.args.day (search rules) (search rules) (search rules) (search rules) (search rules) (search rules);
      back = tt;
      inside = tt;
    }

pub returns : goal.returns
returns c =
    let y = c.args.year in let m = c.args.month in let d = c.args.day in
    let v = number_valid y m d (search rules) (search rules) (search rules) (search rules) (search rules) (omega arith) in
    let p = number_at y m d (c.start_of.result + (d - 1)) v (ap (λ n. n + (d - 1)) c.start_of.ensures) in
    record { value = p.value; back = p.back; inside = p.inside }
