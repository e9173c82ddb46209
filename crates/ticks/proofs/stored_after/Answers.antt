-- `ticks::stored_after` meets its contract: each arm is a clause of the definition.
use Rattle.ticks.proofs.stored_after.Goals as goal

pub returns-in-Write : goal.returns-in-Write
returns-in-Write c = rw c.in-Write.is c.register_written.ensures
