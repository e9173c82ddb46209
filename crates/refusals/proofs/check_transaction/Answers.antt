-- `refusals::check_transaction` meets its contract: the size first.
use Rattle.std.proofs.Common.{arith}
use Rattle.std.proofs.lemmas.Grind.{common_steps}
use Rattle.paper.specs.Numbers.{transaction_refusal}
use Rattle.paper.proofs.Refusals.{refuses, passes}
use Rattle.refusals.proofs.check_transaction.Goals as goal

pub returns-in_err-check_size : goal.returns-in_err-check_size
unfolding transaction_refusal
returns-in_err-check_size c = grind (arith, common_steps, refuses)

pub returns : goal.returns
unfolding transaction_refusal
returns c = grind (arith, passes)
