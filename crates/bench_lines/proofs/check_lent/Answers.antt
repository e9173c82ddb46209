-- `bench_lines::check_lent` meets its contract: no test follows the two.
use Rattle.std.proofs.Common.{arith}
use Rattle.std.proofs.lemmas.Grind.{common_steps}
use Rattle.paper.proofs.Refusals.{refuses, passes}
use Rattle.bench_lines.proofs.check_lent.Goals as goal

pub returns-in_err-check_size : goal.returns-in_err-check_size
returns-in_err-check_size c = grind (arith, common_steps, refuses)

pub returns : goal.returns
returns c = grind (arith, passes)
