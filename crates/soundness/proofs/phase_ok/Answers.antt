-- `soundness::phase_ok` meets its contract: each arm is a clause of the definition.
use Rattle.soundness.proofs.phase_ok.Goals as goal

pub returns-in-Busy : goal.returns-in-Busy
returns-in-Busy c = rw (c.in-Busy.is, c.operation_ok.ensures)

pub returns-in-Suspended : goal.returns-in-Suspended
returns-in-Suspended c = rw (c.in-Suspended.is, c.both.ensures, c.operation_ok-in-Suspended.ensures, c.can_suspend-halts.ensures)

pub returns-in-Nested : goal.returns-in-Nested
returns-in-Nested c = rw (c.in-Nested.is, c.both-in-Nested-2.ensures, c.both-in-Nested.ensures, c.operation_ok-within.ensures, c.operation_ok-beneath.ensures, c.nest_ok-nests.ensures)
