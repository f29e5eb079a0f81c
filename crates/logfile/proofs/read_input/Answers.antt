use Rattle.std.proofs.Common.{◌≡◌, ℕ, ◌++◌, List, [], take, Option, Some, None, IfSome, ap, ◌∙◌}
use Rattle.std.specs.Option.{option_map}
use Rattle.logfile.proofs.read_input.Goals as goal

-- what is appended to nothing is all that is there
mapped : (f : List ℕ → List ℕ) (o : Option (List ℕ)) (was items : List ℕ) → was ≡ [] → IfSome (option_map f o) (λ xs. items ≡ was ++ xs) → IfSome o (λ xs. items ≡ f xs)
mapped f None was items none h = tt
mapped f (Some xs) was items none h = h ∙ ap (λ ys. ys ++ f xs) none

pub returns : goal.returns
returns g c =
    mapped (take 60001) (g.R.Read.remaining c.args.input) c.new-bytes.result.items c.read_to_end.new.buf.items c.new-bytes.ensures.items
    (rw (← c.take.ensures.limit, ← c.take.ensures.inner) c.in_ok-read_to_end.ensures.bytes)
