-- What every layer's refusals are made of.
use Rattle.std.specs.Prelude.{List, ℕ, codes}
use Rattle.refusal.specs.declared.kinds.Layer.{Layer}
use Rattle.refusal.specs.declared.kinds.Layer.TheVariants.{Weather, Book, Run}
use Rattle.refusal.specs.declared.kinds.Refusal.{Refusal}

-- the name of a layer
abbrev pub layer_name : Layer → List ℕ
layer_name Weather = codes "weather"
layer_name Book = codes "book"
layer_name Run = codes "run"

-- a refusal that names one place, and one that names none
abbrev pub placed : ℕ → Layer → ℕ → Refusal
placed n l p = record { number = n; layer = l; first = p; second = 0 }

abbrev pub unplaced : ℕ → Layer → Refusal
unplaced n l = placed n l 0
