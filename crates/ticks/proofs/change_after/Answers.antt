-- `ticks::change_after` meets its contract: whether ticks are left decides.
use borrow.Author.Tests.{eq-eqb, ne_eqb}
use Rattle.ticks.proofs.change_after.Goals as goal

pub returns-then-count-left : goal.returns-then-count-left
returns-then-count-left c = rw (← c.requires.1, eq-eqb _ _ c.if-count-left.true, c.finish-last.ensures)

pub returns : goal.returns
returns c = rw (← c.requires.1, ne_eqb _ _ c.if-count-left.false, c.advance.ensures)
