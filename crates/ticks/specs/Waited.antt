-- A tick call told by part, phase and page data, by what it reaches and what it changes: its ticks are done in one step.
use Rattle.std.specs.Prelude.{ℕ, min, Bool, cond, List, [], eqb, None, Option, Some}
use Rattle.types.specs.declared.Memory.{Memory}
use Rattle.types.specs.declared.Operation.{Operation}
use Rattle.types.specs.declared.Phase.{Phase}
use Rattle.types.specs.declared.Part.{Part}
use Rattle.types.specs.declared.Record.{Record}
use Rattle.types.specs.declared.Data.TheVariants.{Kept, Zero}
use Rattle.types.specs.declared.Change.{Change}
use Rattle.types.specs.declared.Change.TheVariants.{Same, Runs}
use Rattle.types.specs.declared.Ticked.{Ticked}
use Rattle.types.specs.declared.Waited.{Waited}
use Rattle.words.specs.Logic.{when_zero}
use Rattle.paper.specs.Phases.{running}
use Rattle.paper.specs.Operations.{ticks_left, advanced_by}
use Rattle.paper.specs.Commands.{changed}
use Rattle.paper.specs.Numbers.{tick_number}
use Rattle.paper.specs.Ticks.{finished_part}
use Rattle.ticks.specs.OneMemory.{ran_within}

-- what k ticks of an operation change, of those that are left: the last makes an end, others leave the part at its operation
abbrev pub change_after : ℕ → Operation → Part → Phase → Change
change_after k o p f =
    cond (eqb k (ticks_left o p.blocks))
    (Runs (finished_part p f o) Zero None)
    (Runs p Kept (Some (advanced_by k o)))

-- what n ticks change, where w runs
abbrev pub tick_change : ℕ → Option Operation → Part → Phase → Change
tick_change n None p f = Same
tick_change n (Some o) p f = change_after (min n (ticks_left o p.blocks)) o p f

-- what n ticks reach, where w runs on a part of so many blocks: nothing, or the next ticks of an operation, as many of them as it has left
abbrev pub ticks_reached : ℕ → Option Operation → ℕ → ℕ
ticks_reached n None blocks = 0
ticks_reached n (Some o) blocks = min n (ticks_left o blocks)

-- and what they make of a memory, with the page data g, for an array of a and rows of r bytes
abbrev pub memory_reached : Memory → ℕ → Option Operation → ℕ → List ℕ → ℕ → ℕ → List ℕ → List ℕ
memory_reached m n None blocks g a r xs = xs
memory_reached m n (Some o) blocks g a r xs = ran_within m (min n (ticks_left o blocks)) o g a r xs

-- what a tick call answers, of a part in a phase that is sound or is not, for an array of a and rows of r bytes
unfoldable pub waited_of : Part → Phase → Bool → ℕ → ℕ → ℕ → Waited
waited_of p f s a r n =
    when_zero (tick_number p.blocks s a r n)
    (record { change = tick_change n (running f) p f; number = 0; done = ticks_reached n (running f) p.blocks })
    (record { change = Same; number = tick_number p.blocks s a r n; done = 0 })

-- and what it leaves in a memory
unfoldable pub waited_memory : Memory → Part → Phase → Bool → List ℕ → ℕ → ℕ → ℕ → List ℕ → List ℕ
waited_memory m p f s g a r n xs =
    when_zero (tick_number p.blocks s a r n) (memory_reached m n (running f) p.blocks g a r xs) xs

-- the answer, made of the record
abbrev pub ticked_by : Waited → Record → Ticked
ticked_by u p = record { next = changed u.change [] p; number = u.number; done = u.done }
