-- The bytes of the listing's lines, each with its newline.
use Rattle.std.specs.Prelude.{ℕ, List, ◌++◌, Ok, Err, codes, decimal, Result}
use Rattle.listing.specs.declared.kinds.Line.{Line}
use Rattle.listing.specs.declared.kinds.Line.TheVariants.{Refused}

-- the first line of every listing
abbrev pub header_bytes : List ℕ
header_bytes = codes "WARM 195\n"

abbrev pub space : List ℕ
space = codes " "

abbrev pub newline : List ℕ
newline = codes "\n"

-- a later line
abbrev pub line_bytes : Line → List ℕ
line_bytes (Refused order refusal) =
    codes "? " ++ (decimal order ++ (space ++ (decimal refusal.number ++ (space ++ (decimal refusal.first ++ (space ++ (decimal refusal.second ++ newline)))))))

-- a text after an attempt to append to it: whole, or as it was
abbrev pub appended : {A E : Type 0} → Result A E → List ℕ → List ℕ → List ℕ
appended (Ok x) was more = was ++ more
appended (Err e) was more = was
