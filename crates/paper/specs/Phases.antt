-- What a part does: it is idle, busy with one operation, suspended from one, or busy with a program within a suspended erase. What runs, what is suspended, and the phases that follow. In the paper soundness goes by the cases of the phase too, and nothing else does.
use Rattle.std.specs.Prelude.{Bool, true, false, None, Option, Some}
use Rattle.types.specs.declared.Operation.{Operation}
use Rattle.types.specs.declared.Operation.TheVariants.{Program, Erase, Write}
use Rattle.types.specs.declared.Phase.{Phase}
use Rattle.types.specs.declared.Phase.TheVariants.{Idle, Busy, Suspended, Nested}

-- what runs: the operation that ticks go on with
abbrev pub running : Phase → Option Operation
running Idle = None
running (Busy o) = Some o
running (Suspended o) = None
running (Nested o e) = Some o

-- what is suspended, also while a program runs within it
abbrev pub halted : Phase → Option Operation
halted Idle = None
halted (Busy o) = None
halted (Suspended o) = Some o
halted (Nested o e) = Some e

-- there is an operation, and it passes a test
abbrev pub work_is : (Operation → Bool) → Option Operation → Bool
work_is test None = false
work_is test (Some o) = test o

abbrev pub any_operation : Operation → Bool
any_operation o = true

abbrev pub is_program : Operation → Bool
is_program (Program m s b k d) = true
is_program (Erase u b d) = false
is_program (Write r v) = false

abbrev pub is_erase : Operation → Bool
is_erase (Program m s b k d) = false
is_erase (Erase u b d) = true
is_erase (Write r v) = false

-- an erase is suspended, also while a program runs within it
abbrev pub erase_halted : Phase → Bool
erase_halted f = work_is is_erase (halted f)

-- the part is busy: something runs
abbrev pub is_busy : Phase → Bool
is_busy f = work_is any_operation (running f)

-- or suspended: something is, and nothing runs
abbrev pub is_suspended : Phase → Bool
is_suspended Idle = false
is_suspended (Busy o) = false
is_suspended (Suspended o) = true
is_suspended (Nested o e) = false

-- or idle
abbrev pub is_idle : Phase → Bool
is_idle Idle = true
is_idle (Busy o) = false
is_idle (Suspended o) = false
is_idle (Nested o e) = false

-- the phase of a part where one thing runs, or nothing, and another is suspended, or nothing
abbrev pub phase_of : Option Operation → Option Operation → Phase
phase_of None None = Idle
phase_of (Some o) None = Busy o
phase_of None (Some e) = Suspended e
phase_of (Some o) (Some e) = Nested o e

-- the phase with other work running, or none: what is suspended stays so, and the work runs within
abbrev pub running_in : Phase → Option Operation → Phase
running_in f w = phase_of w (halted f)

-- the phase of a part that begins an operation, or is at another point of it
abbrev pub working_on : Phase → Operation → Phase
working_on f o = running_in f (Some o)

-- the phase when what runs has ended: within a suspended erase, the part is suspended from it again
abbrev pub rest_of : Phase → Phase
rest_of f = running_in f None

-- the phase when what runs is suspended, and when what is suspended goes on. What stood there before is gone: 25 lets a suspend through only where nothing is suspended, and a resume only where nothing runs
abbrev pub suspended_in : Phase → Phase
suspended_in f = phase_of None (running f)

abbrev pub resumed_in : Phase → Phase
resumed_in f = phase_of (halted f) None
