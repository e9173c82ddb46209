-- Waiting: calls that read and let ticks pass, in any order, and how many ticks they give.
use Rattle.types.specs.declared.Command.{Command}
use Rattle.std.specs.Prelude.{ℕ, ◌+◌, Bool, true, false, List, [], ◌∷◌, get_or, None, Option, Some}
use Rattle.words.specs.Logic.{◌and◌}
use Rattle.paper.specs.Table.{decoded, columns, is_read}
use Rattle.paper.specs.History.{Call, transaction, ticks, ticks_by}

-- the command that a first byte is, is a read
abbrev pub is_read_by : Option Command → Bool
is_read_by (Some k) = is_read (columns k)
is_read_by None = false

-- a call that waits, on a part of n blocks under a bank register: ticks, or a read. While the part is busy it ignores most reads, and any call may be refused: it waits all the same
abbrev pub waits : ℕ → ℕ → Call → Bool
waits n bank (transaction wp i o) = is_read_by (decoded n bank (get_or i 0 0))
waits n bank (ticks k) = true

abbrev pub all_wait : ℕ → ℕ → List Call → Bool
all_wait n bank [] = true
all_wait n bank (c ∷ cs) = waits n bank c and all_wait n bank cs

-- the ticks that they give to a part of n blocks
abbrev pub ticks_given : ℕ → List Call → ℕ
ticks_given n [] = 0
ticks_given n (c ∷ cs) = ticks_by n c + ticks_given n cs
