-- The proof of the theorem, and of the examples, which are computed.
use Rattle.std.proofs.Common.{refl}
use Rattle.gregorian.proofs.RoundTrip.{nothing_lost}
use Rattle.gregorian.proofs.nothing_is_lost.Goals as goal

pub returns : goal.returns
returns c =
    record {
      lossless = nothing_lost;
      examples = (refl, refl, refl, refl, refl, refl, refl, refl, refl, refl, refl, refl, refl, refl, refl, refl, refl, refl, refl, refl, refl);
    }
