-- Suspend and resume.
use Rattle.std.specs.Prelude.{Bool, not}
use Rattle.types.specs.declared.Phase.{Phase}
use Rattle.words.specs.Logic.{◌and◌}
use Rattle.paper.specs.Phases.{running, halted, work_is, any_operation, is_suspended}
use Rattle.paper.specs.Operations.{can_suspend}

-- something runs that can be suspended; the inner program of a suspended erase can not
abbrev pub suspendable : Phase → Bool
suspendable f = work_is can_suspend (running f) and not (work_is any_operation (halted f))

-- there is something to resume
abbrev pub resumable : Phase → Bool
resumable f = is_suspended f
