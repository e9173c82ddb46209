-- `ignoring::free_ok` meets its contract: each arm is a clause of the definition.
use Rattle.ignoring.proofs.free_ok.Goals as goal

pub returns-in-None : goal.returns-in-None
returns-in-None c = rw c.in-None.is

pub returns-in-Some : goal.returns-in-Some
returns-in-Some c = rw (c.in-Some.is, c.both-in-Some.ensures, c.both.ensures, c.write_ok.ensures, c.outside_of-apart.ensures, c.halted.ensures, c.target_free-free.ensures)
