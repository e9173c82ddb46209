-- A number as bytes, high byte first: the other way of `high_first`.
use Rattle.std.specs.Prelude.{ℕ, zero, suc, ◌/◌, ◌%◌, List, [], ◌∷◌, ◌++◌}

-- the k bytes of a number, high byte first; of a number that takes more, the lowest k
abbrev pub high_first_bytes : ℕ → ℕ → List ℕ
high_first_bytes zero n = []
high_first_bytes (suc k) n = high_first_bytes k (n / 256) ++ (n % 256 ∷ [])
