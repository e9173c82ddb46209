-- What ticks of an operation leave, place by place: which pages an erase sets, and which bytes a program narrows.
use Rattle.std.specs.Prelude.{ℕ, ◌+◌, ◌-◌, ◌*◌, ◌%◌, List, cond, get_or}
use Rattle.types.specs.declared.Memory.{Memory}
use Rattle.types.specs.declared.Operation.{Operation}
use Rattle.types.specs.declared.Operation.TheVariants.{Program, Erase, Write}
use Rattle.words.specs.Logic.{◌and◌}
use Rattle.paper.specs.Sizes.{same_memory, from_on, page_bytes}
use Rattle.paper.specs.Program.{narrowed_byte}
use Rattle.paper.specs.Erase.{memory_of, erased_byte}
use Rattle.paper.specs.Operations.{ticks_left}

-- which byte of a program falls at the place j of its page, if byte 0 falls at the place s: each next one falls a place further, and past the last byte at the page's start
abbrev pub byte_for : ℕ → ℕ → ℕ
byte_for s j = (j + (page_bytes - s)) % page_bytes

-- the byte x at a place of a memory after the next k ticks of an operation, which are at most those left, with the page data g. An erase leaves FFh in its next k pages; a program leaves old AND data where one of its next k kept bytes falls; all else is as it was
abbrev pub byte_ran : ℕ → Operation → List ℕ → Memory → ℕ → ℕ → ℕ
byte_ran k (Program w s b c d) g m at x =
    cond (same_memory m w and from_on b page_bytes at and from_on d k (byte_for s (at - b)))
    (narrowed_byte x (get_or g (byte_for s (at - b)) 0))
    x
byte_ran k (Erase u b d) g m at x =
    cond (same_memory m (memory_of u) and from_on (b + d * page_bytes) (k * page_bytes) at) erased_byte x
byte_ran k (Write r v) g m at x = x

-- and after all that are left, on a part of n blocks: the operation has run to its end
abbrev pub byte_ended : Operation → ℕ → List ℕ → Memory → ℕ → ℕ → ℕ
byte_ended o n g m at x = byte_ran (ticks_left o n) o g m at x
