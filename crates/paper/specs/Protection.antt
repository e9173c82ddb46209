-- Protection: which blocks a code protects, which rows are locked, and when the pin bars a status write.
use Rattle.std.specs.Prelude.{ℕ, ◌+◌, ◌-◌, ◌*◌, ◌/◌, ◌%◌, ◌^◌, min, Bool, not, cond, eqb, ltb, leb}
use Rattle.types.specs.declared.Blocks.{Blocks}
use Rattle.types.specs.declared.Cell.{Cell}
use Rattle.types.specs.declared.Stored.{Stored}
use Rattle.words.specs.Logic.{◌and◌, ◌or◌, unless, ◌or_else◌, when_zero}
use Rattle.paper.specs.Sizes.{is_large, size_ok, block_bytes}
use Rattle.paper.specs.Registers.{bits_at, SRWD, QE, IRL, TBS}
use Rattle.paper.specs.BlockTable.{no_blocks, table_cell}

-- code c = BP3..BP0, bits 5..2 of the status
abbrev pub code_of : ℕ → ℕ
code_of status = bits_at 5 2 status

-- the code with TBS, the top or bottom bit, above it: what the protection question is asked. (Other parts than the large one have no such bit, and it is 0.)
abbrev pub whole_code : Stored → ℕ
whole_code s = code_of s.status + 16 * TBS s.function

-- 01's rule, over any number n of blocks: that of every part but the large one.
-- How many blocks a code asks for: 0 or 15 none; c = 1..7 2^(c-1); c = 8..14 2^(14-c). (A number above 15 is no code, and asks for none.)
unfoldable pub blocks_asked : ℕ → ℕ
blocks_asked c = cond (eqb c 0 or leb 15 c) 0 (cond (leb c 7) (2 ^ (c - 1)) (2 ^ (14 - c)))

-- how many of n blocks it protects: min(N, 2^(c-1)) or min(N, 2^(14-c))
abbrev pub rule_count : ℕ → ℕ → ℕ
rule_count c n = min n (blocks_asked c)

-- for c = 1..7 they are the top blocks, for c = 8..14 the bottom ones
abbrev pub protects_top : ℕ → Bool
protects_top c = leb 1 c and leb c 7

-- by the rule, the first protected block and how many there are from it; 0 and 0 for none
unfoldable pub rule_blocks : ℕ → ℕ → Blocks
rule_blocks c n =
    record { first = cond (protects_top c) (n - rule_count c n) 0; count = rule_count c n }

-- The rule of the large part, over any number n of blocks. A code asks for: 0 none; c = 1 and up 2^(c-1) (so that of 512 blocks 10 and up protect all)
unfoldable pub large_asked : ℕ → ℕ
large_asked c = cond (eqb c 0) 0 (2 ^ (c - 1))

abbrev pub large_count : ℕ → ℕ → ℕ
large_count c n = min n (large_asked c)

-- they are the bottom blocks or the top ones by TBS
unfoldable pub large_blocks : ℕ → Bool → ℕ → Blocks
large_blocks c bottom n =
    record { first = cond (bottom or eqb c 0) 0 (n - large_count c n); count = large_count c n }

-- the blocks that the rule of a part of n blocks gives for a code
abbrev pub blocks_by_rule : ℕ → ℕ → Blocks
blocks_by_rule c n = cond (is_large n) (large_blocks (c % 16) (leb 16 c) n) (rule_blocks c n)

-- a cell of the block table as blocks
abbrev pub blocks_of : Cell → Blocks
blocks_of k = record { first = k.0; count = k.1 }

-- The protection question, of a code and a size, has one answer, and whoever asks reads it from there: its number, and the first protected block with the count of protected blocks from it.
pub record ProtectionAnswer : Type 0 where
  pub number : ℕ
  pub blocks : Blocks

-- codes are 0 to 15; of the large part 0 to 31, 16 and up with TBS 1
abbrev pub code_most : ℕ → ℕ
code_most n = cond (is_large n) 31 15

-- its number: 0; 1 for a bad size; 5 for a number that is no code; the lower first
abbrev pub question_number : ℕ → ℕ → ℕ
question_number c n = unless (size_ok n) 1 or_else unless (leb c (code_most n)) 5

-- the answer: the blocks are the cell of the code in the table of the size, 0 and 0 for none; and 0 and 0 where the number is not 0. (The table agrees with the rules on every code and size: paper/proofs/Protected.antt.)
unfoldable pub question : ℕ → ℕ → ProtectionAnswer
question c n =
    record {
      number = question_number c n;
      blocks = blocks_of (when_zero (question_number c n) (table_cell c n) no_blocks);
    }

-- the protected blocks: the answer without its number
abbrev pub protected_blocks : ℕ → ℕ → Blocks
protected_blocks c n = (question c n).blocks

-- is block k one of these blocks, from the first on?
unfoldable pub among : Blocks → ℕ → Bool
among b k = leb b.first k and ltb k (b.first + b.count)

-- is block k of n protected?
abbrev pub protected : ℕ → ℕ → ℕ → Bool
protected c n k = among (protected_blocks c n) k

-- is the block of an address protected?
abbrev pub protected_at : ℕ → ℕ → ℕ → Bool
protected_at c n a = protected c n (a / block_bytes)

-- is row k locked? IRL3..IRL0 are bits 7..4 of the function register
unfoldable pub locked : ℕ → ℕ → Bool
locked function k = eqb (IRL k function) 1

-- a status write is barred when SRWD is 1, QE is 0 and WP# is low. (wp is true where WP# is high)
unfoldable pub barred : ℕ → Bool → Bool
barred status wp = eqb (SRWD status) 1 and eqb (QE status) 0 and not wp
