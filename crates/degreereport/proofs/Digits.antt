-- Digits read one by one.
use Rattle.std.proofs.Common.{◌≡◌, ℕ, ◌+◌, ◌<◌, ◌≤◌, List, [], ◌∷◌, length, get_or, drop, Some, None, refl, arith}
use Rattle.std.proofs.lemmas.List.{drop_all, drop_more}
use Rattle.degreereport.specs.Requests.{number_up_to, one_digit, read_on}

pub number_some : (most : ℕ) (bs : List ℕ) → 0 < length bs → number_up_to most bs ≡ read_on most 0 bs
number_some most [] h = absurd (omega arith)
number_some most (b ∷ bs) h = refl

pub read_more : (most n m : ℕ) (bs : List ℕ) (i : ℕ) → i < length bs → Some m ≡ one_digit most n (get_or bs i 0) → read_on most n (drop i bs) ≡ read_on most m (drop (i + 1) bs)
read_more most n m bs i h e = rw (drop_more bs i 0 h) (rw (← e) refl)

pub read_stops : (most n : ℕ) (bs : List ℕ) (i : ℕ) → i < length bs → None ≡ one_digit most n (get_or bs i 0) → read_on most n (drop i bs) ≡ None
read_stops most n bs i h e = rw (drop_more bs i 0 h) (rw (← e) refl)

pub read_end : (most n : ℕ) (bs : List ℕ) (i : ℕ) → length bs ≤ i → read_on most n (drop i bs) ≡ Some n
read_end most n bs i h = rw (drop_all i bs h) refl
