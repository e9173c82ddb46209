-- `ticks::advance` meets its contract: each arm is a clause of the definition, and the sum fits.
use native.Mathlib.Omega.{arith}
use Rattle.ticks.proofs.advance.Goals as goal

pub overflow_add-result : goal.overflow_add-result
overflow_add-result c = omega (arith, rw c.in-Program.is at c.requires)

pub overflow_add-result-in-Erase : goal.overflow_add-result-in-Erase
overflow_add-result-in-Erase c = omega (arith, rw c.in-Erase.is at c.requires)

pub returns-in-Program : goal.returns-in-Program
returns-in-Program c = rw c.in-Program.is

pub returns-in-Erase : goal.returns-in-Erase
returns-in-Erase c = rw c.in-Erase.is

pub returns-in-Write : goal.returns-in-Write
returns-in-Write c = rw c.in-Write.is
