-- The memory that bench is lent, which is to be the 1-block part's.
use Rattle.std.specs.Prelude.{ℕ}
use Rattle.words.specs.Logic.{◌or_else◌}
use Rattle.paper.specs.Numbers.{size_number, rows_number}

-- 1 and 2, as for a call: an array of a bytes that is not a block, rows of r bytes that are not 1,024
abbrev pub lent_number : ℕ → ℕ → ℕ
lent_number a r = size_number 1 a or_else rows_number r
