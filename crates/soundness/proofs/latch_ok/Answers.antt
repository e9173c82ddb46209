-- `soundness::latch_ok` meets its contract: each arm is a clause of the definition.
use Rattle.soundness.proofs.latch_ok.Goals as goal

pub returns-in-Suspended : goal.returns-in-Suspended
returns-in-Suspended c = rw (c.in-Suspended.is, c.either.ensures, c.is_erase.ensures)
