-- `counted::tally_unless` meets its contract: it counts what was reached where the number is 0, and else nothing.
use borrow.Author.Tests.{eq-eqb, ne_eqb}
use Rattle.counted.proofs.tally_unless.Goals as goal

pub returns-then-number-eq0 : goal.returns-then-number-eq0
returns-then-number-eq0 c = rw (eq-eqb _ _ c.if-number-eq0.true) c.tally.ensures

pub returns-else-number-eq0 : goal.returns-else-number-eq0
returns-else-number-eq0 c = rw (ne_eqb _ _ c.if-number-eq0.false) c.nothing.ensures
