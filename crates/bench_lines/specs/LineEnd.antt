-- Where a line ends: the place of the first byte of a value.
use Rattle.std.specs.Prelude.{ℕ, suc, Bool, true, false, List, [], ◌∷◌, eqb}

abbrev pub index_after : Bool → ℕ → ℕ
index_after true n = 0
index_after false n = suc n

-- the place of the first byte b of a list; where it has none, its length
abbrev pub index_of : ℕ → List ℕ → ℕ
index_of b [] = 0
index_of b (x ∷ xs) = index_after (eqb x b) (index_of b xs)
