-- `ignoring::write_ok` meets its contract: each arm is a clause of the definition.
use Rattle.ignoring.proofs.write_ok.Goals as goal

pub returns-in-Write : goal.returns-in-Write
returns-in-Write c = rw c.in-Write.is c.pin_ok.ensures
