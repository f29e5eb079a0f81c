-- The proof of `effective_day`: the value, up to which day there is one, and that it comes later.
use Rattle.std.proofs.Common.{◌≡◌, is_ok, ap, ◌∙◌, rules}
use Rattle.gregorian.specs.Calendar.{effective}
use Rattle.gregorian.proofs.Notices.{effective_until, effective_later}
use Rattle.calendar.proofs.effective_day.Goals as goal

pub returns : goal.returns
returns c =
    let n = c.args.day in let r = c.day_number.result in
    let v : r ≡ effective n = search rules in
    record { value = v; until = ap is_ok v ∙ effective_until n; later = effective_later n r v }
