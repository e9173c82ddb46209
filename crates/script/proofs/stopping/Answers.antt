-- `script::stopping` meets its contract: the test is the definition's.
use borrow.Author.Tests.{le-leb, lt-leb}
use Rattle.script.proofs.stopping.Goals as goal

pub returns-then-number-le6 : goal.returns-then-number-le6
returns-then-number-le6 c = simp (le-leb _ _ c.if-number-le6.true)

pub returns-else-number-le6 : goal.returns-else-number-le6
returns-else-number-le6 c = simp (lt-leb _ _ c.if-number-le6.false)
