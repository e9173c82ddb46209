-- `protection::check_question` meets its contract: it makes the two tests in the paper's order.
use Rattle.std.proofs.Common.{arith}
use Rattle.std.proofs.lemmas.Grind.{common_steps}
use Rattle.paper.proofs.Refusals.{refuses, passes}
use Rattle.paper.specs.Protection.{question}
use Rattle.protection.proofs.check_question.Goals as goal

pub returns-in_err-ensure : goal.returns-in_err-ensure
unfolding question
returns-in_err-ensure c = grind (arith, common_steps, refuses)

pub returns : goal.returns
unfolding question
returns c = grind (arith, passes)
