-- Ticks: what one tick does to the record and to each memory, and which ticks do work. The record after a tick does not depend on stored bytes.
use Rattle.std.specs.Prelude.{ℕ, zero, suc, ◌+◌, List, false, cond, ltb, None, Option, Some}
use Rattle.types.specs.declared.Memory.{Memory}
use Rattle.types.specs.declared.Operation.{Operation}
use Rattle.types.specs.declared.Phase.{Phase}
use Rattle.types.specs.declared.Part.{Part}
use Rattle.types.specs.declared.Record.{Record}
use Rattle.words.specs.Logic.{bit}
use Rattle.paper.specs.Program.{no_data}
use Rattle.paper.specs.Registers.{stored_after}
use Rattle.paper.specs.Phases.{running, is_busy, working_on, rest_of}
use Rattle.paper.specs.Records.{made}
use Rattle.paper.specs.Operations.{ticks_in_all, ticks_done, advanced_by, Touch, none, next_touch, touched}

-- the last tick makes the part idle, that of an inner program erase-suspended again, and WEL 0. A tick never touches the armed mark
abbrev pub finished_part : Part → Phase → Operation → Part
finished_part p f o = made p (stored_after o p.stored) (rest_of f) false

abbrev pub finished : Record → Operation → Record
finished p o =
    record { part = finished_part p.part p.phase o; phase = rest_of p.phase; identity = p.identity; page = no_data }

-- any other tick leaves it at its operation
abbrev pub advanced : Record → Operation → Record
advanced p o = record { part = p.part; phase = working_on p.phase o; identity = p.identity; page = p.page }

-- a tick of a part that works on an operation
unfoldable pub worked : Record → Operation → Record
worked p o =
    cond (ltb (ticks_done o + 1) (ticks_in_all o p.part.blocks))
    (advanced p (advanced_by 1 o))
    (finished p o)

-- the record after a tick. Ticks on an idle, sleeping or suspended part change nothing
abbrev pub ticked_at : Record → Option Operation → Record
ticked_at p None = p
ticked_at p (Some o) = worked p o

abbrev pub tick_once : Record → Record
tick_once p = ticked_at p (running p.phase)

-- what a tick reaches, with the page data g
abbrev pub touch_at : Option Operation → List ℕ → Touch
touch_at None g = none
touch_at (Some o) g = next_touch o g

-- what a part's next tick reaches
abbrev pub touch_of : Record → Touch
touch_of p = touch_at (running p.phase) p.page

-- 1 where a tick does work
abbrev pub works : Record → ℕ
works p = bit (is_busy p.phase)

-- the record after n ticks
abbrev pub record_after : ℕ → Record → Record
record_after zero p = p
record_after (suc n) p = tick_once (record_after n p)

-- a memory's bytes after n ticks
abbrev pub memory_after : Memory → ℕ → Record → List ℕ → List ℕ
memory_after m zero p xs = xs
memory_after m (suc n) p xs = touched m (touch_of (record_after n p)) (memory_after m n p xs)

-- how many of n ticks do work
abbrev pub working_ticks : ℕ → Record → ℕ
working_ticks zero p = 0
working_ticks (suc n) p = working_ticks n p + works (record_after n p)

-- what k ticks of an operation, with the page data g, make of a memory
abbrev pub ran : Memory → ℕ → Operation → List ℕ → List ℕ → List ℕ
ran m zero o g xs = xs
ran m (suc k) o g xs = touched m (next_touch (advanced_by k o) g) (ran m k o g xs)
