-- An accepted log answers as a source.
use Rattle.std.proofs.Common.{◌≡◌, List, ℕ, Ok, refl, ◌∙◌}
use Rattle.std.proofs.lemmas.Result.{IfOk-weaker}
use Rattle.logformat.specs.Reading.{log_of}
use Rattle.logformat.specs.Zones.{Zone, mean_in, normal_in}
use Rattle.weatherlog.specs.Logs.{zones_of}
use Rattle.degreereport.specs.declared.kinds.Request.{Request}
use Rattle.degreereport.specs.Counts.{answer_of, source_text}
use Rattle.degreereport.proofs.answer.Goals as goal

by_log : (bytes : List ℕ) (zones : List Zone) (q : Request) → log_of bytes ≡ Ok zones → source_text q (normal_in zones q.zone) (mean_in zones q.zone) ≡ answer_of bytes q
by_log bytes zones q e = rw e refl

pub returns-in-Ok : goal.returns-in-Ok
returns-in-Ok c =
    IfOk-weaker c.by_source.result _ _ (λ s h. h ∙ by_log c.args.bytes.now (zones_of c.in-Ok.log) c.args.request c.in-Ok.ensures.opens.2) c.by_source.ensures
