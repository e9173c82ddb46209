-- `ticks::check_unread` meets its contract: the rows, and then no record.
use Rattle.std.proofs.Common.{arith}
use Rattle.std.proofs.lemmas.Grind.{common_steps}
use Rattle.paper.proofs.Refusals.{refuses, passes}
use Rattle.ticks.proofs.check_unread.Goals as goal

pub returns-in_err-check_rows : goal.returns-in_err-check_rows
returns-in_err-check_rows c = grind (arith, common_steps, refuses)

pub returns : goal.returns
returns c = grind (arith, passes)
