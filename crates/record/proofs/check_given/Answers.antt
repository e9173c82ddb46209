-- `record::check_given` meets its contract: it makes the tests in the paper's order.
use Rattle.std.proofs.Common.{arith}
use Rattle.std.proofs.lemmas.Grind.{common_steps}
use Rattle.paper.specs.Numbers.{power_up_number}
use Rattle.paper.proofs.Bits.{given_as}
use Rattle.paper.proofs.Refusals.{refuses, passes}
use Rattle.record.proofs.check_given.Goals as goal

pub returns-in_err-ensure : goal.returns-in_err-ensure
unfolding power_up_number
returns-in_err-ensure c = grind (arith, common_steps, refuses)

pub returns : goal.returns
unfolding power_up_number
returns c = rw (given_as c.args.blocks c.args.stored) (grind (arith, passes))
