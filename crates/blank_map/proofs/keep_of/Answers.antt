-- `blank_map::keep_of` meets its contract, by the operation.
use Rattle.blank_map.proofs.keep_of.Goals as goal

pub returns-in-Program : goal.returns-in-Program
returns-in-Program c = rw c.in-Program.is c.keep_program.ensures

pub returns-in-Erase : goal.returns-in-Erase
returns-in-Erase c = rw c.in-Erase.is (rw (← c.unit_memory.ensures) c.keep_erase.ensures)
