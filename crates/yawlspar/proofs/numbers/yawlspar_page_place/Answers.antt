-- `yawlspar::numbers::yawlspar_page_place` meets its contract: the two tests are the definition's, and the place is the page's.
use borrow.Author.Tests.{lt-ltb, le-ltb}
use Rattle.paper.specs.CBench.{place_answer}
use Rattle.words.specs.Logic.{◌and◌}
use Rattle.yawlspar.proofs.numbers.yawlspar_page_place.Goals as goal

pub returns-then-start-ge256 : goal.returns-then-start-ge256
unfolding place_answer ◌and◌
returns-then-start-ge256 c = rw (le-ltb _ _ c.if-start-ge256.true)

pub returns-then-index-ge4092 : goal.returns-then-index-ge4092
unfolding place_answer ◌and◌
returns-then-index-ge4092 c = rw (lt-ltb _ _ c.if-start-ge256.false, le-ltb _ _ c.if-index-ge4092.true)

pub returns : goal.returns
unfolding place_answer ◌and◌
returns c = rw (lt-ltb _ _ c.if-start-ge256.false, lt-ltb _ _ c.if-index-ge4092.false) c.page_place.ensures
