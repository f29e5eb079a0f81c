-- The proof of `date_of`: the reckoned date is the one by tomorrows.
use Rattle.std.proofs.Common.{◌≡◌, Ok, sym, ap, ◌∙◌, subst, arith}
use Rattle.gregorian.specs.declared.kinds.Date.{Date}
use Rattle.gregorian.specs.Calendar.{numbered}
use Rattle.gregorian.proofs.RoundTrip.{dated_is, back_is}
use Rattle.calendar.proofs.date_of.Goals as goal

pub returns : goal.returns
returns c =
    let n = c.args.day in let e = c.reckoned.ensures.value in
    record {
      value = ap Ok e ∙ sym (dated_is n (omega arith));
      small = c.reckoned.ensures.small;
      back = subst (λ (x : Date). numbered x.year x.month x.day ≡ Ok n) (sym e) (back_is n (omega arith));
    }
