-- The C bench's functions on numbers.
use Rattle.std.specs.Prelude.{ℕ, ◌%◌, cond, ltb}
use Rattle.words.specs.Logic.{◌and◌, bit}
use Rattle.paper.specs.Sizes.{array_bytes}
use Rattle.paper.specs.Protection.{question, protected_at}
use Rattle.paper.specs.Program.{page_place}

-- the protection question's number
abbrev pub protection_number : ℕ → ℕ → ℕ
protection_number code n = (question code n).number

-- the first protected block, and the count of protected blocks from it; both 0 for none, and when refused
abbrev pub protected_first : ℕ → ℕ → ℕ
protected_first code n = (question code n).blocks.first

abbrev pub protected_count : ℕ → ℕ → ℕ
protected_count code n = (question code n).blocks.count

-- 1 for protected, else 0, also when refused: there is then no protected block. The address is taken modulo the size
abbrev pub protected_answer : ℕ → ℕ → ℕ → ℕ
protected_answer code n address = bit (protected_at code n (address % array_bytes n))

-- the place in a page of a sent byte: start below 256, index below 4,092; 256 for any other pair
unfoldable pub place_answer : ℕ → ℕ → ℕ
place_answer start index = cond (ltb start 256 and ltb index 4092) (page_place start index) 256
