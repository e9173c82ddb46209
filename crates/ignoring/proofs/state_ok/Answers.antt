-- `ignoring::state_ok` meets its contract: each arm is a clause of the definition.
use Rattle.ignoring.proofs.state_ok.Goals as goal

pub returns-in-Any : goal.returns-in-Any
returns-in-Any c = rw c.in-Any.is

pub returns-in-Running : goal.returns-in-Running
returns-in-Running c = rw c.in-Running.is c.suspendable.ensures

pub returns-in-Halted : goal.returns-in-Halted
returns-in-Halted c = rw (c.in-Halted.is, c.is_suspended.ensures)

pub returns-in-Armed : goal.returns-in-Armed
returns-in-Armed c = rw c.in-Armed.is
