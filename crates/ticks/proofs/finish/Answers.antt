-- `ticks::finish` meets its contract: the part is made anew with the registers that the operation leaves.
use Rattle.ticks.proofs.finish.Goals as goal

pub returns : goal.returns
returns c = rw (c.make.ensures, c.rest_of.ensures, c.stored_after.ensures)
