-- `ignoring::pin_ok` meets its contract: each arm is a clause of the definition.
use Rattle.ignoring.proofs.pin_ok.Goals as goal

pub returns-in-Status : goal.returns-in-Status
returns-in-Status c = rw (c.in-Status.is, c.is_barred.ensures)
