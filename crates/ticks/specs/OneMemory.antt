-- Runs of ticks on one memory, and whether they lie within what is lent.
use Rattle.std.specs.Prelude.{ℕ, zero, suc, ◌+◌, ◌*◌, Bool, true, cond, List, length, get_or, leb}
use Rattle.types.specs.declared.Memory.{Memory}
use Rattle.types.specs.declared.Memory.TheVariants.{Array, Rows}
use Rattle.types.specs.declared.Operation.{Operation}
use Rattle.types.specs.declared.Operation.TheVariants.{Program, Erase, Write}
use Rattle.words.specs.Logic.{◌and◌}
use Rattle.paper.specs.Sizes.{page_bytes}
use Rattle.paper.specs.Program.{page_place, narrowed}
use Rattle.paper.specs.Erase.{memory_of, page_erased}
use Rattle.paper.specs.Ticks.{ran}

-- k pages from a place on set to FFh, lowest first
abbrev pub pages_erased : ℕ → ℕ → List ℕ → List ℕ
pages_erased zero from xs = xs
pages_erased (suc k) from xs = page_erased (pages_erased k from xs) (from + k * page_bytes)

-- k bytes of page data, from byte d on, narrow their places in the page at base
abbrev pub bytes_narrowed : ℕ → ℕ → ℕ → ℕ → List ℕ → List ℕ → List ℕ
bytes_narrowed zero base start d g xs = xs
bytes_narrowed (suc k) base start d g xs =
    narrowed (bytes_narrowed k base start d g xs) (base + page_place start (d + k)) (get_or g (d + k) 0)

-- the length of a memory, of the two
abbrev pub pick : Memory → ℕ → ℕ → ℕ
pick Array a r = a
pick Rows a r = r

-- k ticks of a program, with d done, lie within page data of g bytes, and its page at b within a memory of n bytes
abbrev pub program_within : ℕ → ℕ → ℕ → ℕ → ℕ → Bool
program_within b d k g n = leb (d + k) g and leb (b + page_bytes) n

-- k ticks of an erase, with d done, lie within a memory of n bytes
abbrev pub erase_within : ℕ → ℕ → ℕ → ℕ → Bool
erase_within b d k n = leb (b + (d + k) * page_bytes) n

-- k ticks of an operation lie within page data of g bytes, an array of a and rows of r bytes
abbrev pub within : Operation → ℕ → ℕ → ℕ → ℕ → Bool
within (Program m s b c d) k g a r = program_within b d k g (pick m a r)
within (Erase u b d) k g a r = erase_within b d k (pick (memory_of u) a r)
within (Write w v) k g a r = true

-- what they make of a memory, with the page data g: those that do not lie within write nothing
abbrev pub ran_within : Memory → ℕ → Operation → List ℕ → ℕ → ℕ → List ℕ → List ℕ
ran_within m k o g a r xs = cond (within o k (length g) a r) (ran m k o g xs) xs
