-- `sent::row_ok` meets its contract: the tests are the definition's.
use Rattle.std.proofs.Common.{rules}
use Rattle.words.specs.Logic.{◌and◌}
use Rattle.paper.specs.Address.{row_ok}
use Rattle.sent.proofs.row_ok.Goals as goal

pub returns-then-first : goal.returns-then-first
unfolding row_ok ◌and◌
returns-then-first c = search rules

pub returns-else-first : goal.returns-else-first
unfolding row_ok ◌and◌
returns-else-first c = search rules
