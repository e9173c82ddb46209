-- A suspended operation: which calls let it go, and which pages an erase has done.
use Rattle.types.specs.declared.Command.{Command}
use Rattle.std.specs.Prelude.{ℕ, ◌*◌, Bool, true, false, get_or, eqb, None, Option, Some}
use Rattle.types.specs.declared.Memory.{Memory}
use Rattle.types.specs.declared.Operation.{Operation}
use Rattle.types.specs.declared.Operation.TheVariants.{Program, Erase, Write}
use Rattle.types.specs.declared.Effect.{Effect}
use Rattle.types.specs.declared.Effect.TheVariants.{Looks, Enables, Disables, Programs, Erases, Writes, Suspends, Resumes, Sleeps, Wakes, Arms, Resets, SetsLive, ClearsErrors, SetsBank, SetsFar}
use Rattle.types.specs.declared.Record.{Record}
use Rattle.words.specs.Logic.{◌and◌}
use Rattle.paper.specs.Sizes.{array_bytes, rows_bytes, page_bytes, same_memory, from_on}
use Rattle.paper.specs.Erase.{memory_of}
use Rattle.paper.specs.Table.{decoded, columns}
use Rattle.paper.specs.Calls.{transacted}
use Rattle.paper.specs.History.{Call, transaction, ticks}

-- what a command does lets a suspended operation go: resume goes on with it, reset drops it
abbrev pub lets_go : Effect → Bool
lets_go Looks = false
lets_go Enables = false
lets_go Disables = false
lets_go (Programs m) = false
lets_go (Erases u) = false
lets_go (Writes r) = false
lets_go Suspends = false
lets_go Resumes = true
lets_go Sleeps = false
lets_go Wakes = false
lets_go Arms = false
lets_go Resets = true
lets_go SetsLive = false
lets_go ClearsErrors = false
lets_go SetsBank = false
lets_go (SetsFar far) = false

-- so the command that a first byte is
abbrev pub lets_go_by : Option Command → Bool
lets_go_by (Some k) = lets_go (columns k).effect
lets_go_by None = false

-- a call lets the suspended operation go: it is a resume or a reset that is executed
abbrev pub releases : Call → Record → Bool
releases (transaction wp i o) p =
    eqb (transacted p (array_bytes p.part.blocks) rows_bytes wp i o).number 0 and lets_go_by (decoded p.part.blocks p.part.bank (get_or i 0 0))
releases (ticks n) p = false

-- a place lies in the pages that an operation has done, if it is an erase
abbrev pub in_done : Operation → Memory → ℕ → Bool
in_done (Program m s b k d) w a = false
in_done (Erase u b d) w a = same_memory w (memory_of u) and from_on b (d * page_bytes) a
in_done (Write r v) w a = false
