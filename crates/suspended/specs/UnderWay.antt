-- An operation that is under way over a list of calls: it runs or is suspended, until it ends or is dropped.
use Rattle.types.specs.declared.Operation.{Operation}
use Rattle.std.specs.Prelude.{ℕ, ◌≡◌, Bool, true, false, not, List, [], ◌∷◌, None, Option, Some}
use Rattle.types.specs.declared.EraseUnit.{EraseUnit}
use Rattle.types.specs.declared.Operation.TheVariants.{Erase}
use Rattle.types.specs.declared.Phase.{Phase}
use Rattle.types.specs.declared.Record.{Record}
use Rattle.words.specs.Logic.{◌and◌, ◌or◌}
use Rattle.paper.specs.Phases.{running, halted, is_idle}
use Rattle.paper.specs.Operations.{ticks_done}
use Rattle.paper.specs.History.{Call, transaction, ticks, record_after_call}

-- what is under way: what is suspended, also while a program runs within it; and where nothing is suspended, what runs
abbrev pub first_of : Option Operation → Option Operation → Option Operation
first_of None w = w
first_of (Some o) w = Some o

abbrev pub under_way : Phase → Option Operation
under_way f = first_of (halted f) (running f)

-- how many of its ticks are done
abbrev pub done_of : Option Operation → ℕ
done_of None = 0
done_of (Some o) = ticks_done o

abbrev pub done_in : Phase → ℕ
done_in f = done_of (under_way f)

-- it is the erase of the unit u that begins at b
abbrev pub Erasing : EraseUnit → ℕ → Phase → Type 0
Erasing u b f = under_way f ≡ Some (Erase u b (done_in f))

-- the part is idle after none of the calls: what was under way before them still is, neither ended nor dropped
abbrev pub never_idle : List Call → Record → Bool
never_idle [] p = true
never_idle (c ∷ cs) p = not (is_idle (record_after_call c p).phase) and never_idle cs (record_after_call c p)

-- what is under way runs to its end over the calls: ticks make the part idle, and no transaction before them does, as a reset would. After that any calls may come
abbrev pub runs_to_end : List Call → Record → Bool
runs_to_end [] p = false
runs_to_end (transaction wp i o ∷ cs) p =
    not (is_idle (record_after_call (transaction wp i o) p).phase) and runs_to_end cs (record_after_call (transaction wp i o) p)
runs_to_end (ticks n ∷ cs) p =
    is_idle (record_after_call (ticks n) p).phase or runs_to_end cs (record_after_call (ticks n) p)
