-- `record::suspended_bits` meets its contract: each arm is a clause of the definitions.
use Rattle.record.proofs.suspended_bits.Goals as goal

pub returns-in-Program : goal.returns-in-Program
returns-in-Program c = rw c.in-Program.is

pub returns-in-Erase : goal.returns-in-Erase
returns-in-Erase c = rw c.in-Erase.is

pub returns-in-Write : goal.returns-in-Write
returns-in-Write c = rw c.in-Write.is
