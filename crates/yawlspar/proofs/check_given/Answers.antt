-- `yawlspar::check_given` meets its contract: it makes the tests in the definition's order.
use Rattle.std.proofs.Common.{arith}
use Rattle.std.proofs.lemmas.Grind.{common_steps}
use Rattle.paper.proofs.Refusals.{refuses, passes}
use Rattle.yawlspar.specs.Face.{given_number}
use Rattle.yawlspar.proofs.check_given.Goals as goal

pub returns-in_err-ensure : goal.returns-in_err-ensure
unfolding given_number
returns-in_err-ensure c = grind (arith, common_steps, refuses)

pub returns : goal.returns
unfolding given_number
returns c = grind (arith, passes)
