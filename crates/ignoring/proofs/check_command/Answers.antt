-- `ignoring::check_command` meets its contract: it makes the eight tests in the paper's order.
use Rattle.std.proofs.Common.{arith}
use Rattle.std.proofs.lemmas.Grind.{common_steps}
use Rattle.paper.specs.Numbers.{command_number}
use Rattle.paper.proofs.Refusals.{refuses, passes}
use Rattle.ignoring.proofs.check_command.Goals as goal

pub returns-in_err-ensure : goal.returns-in_err-ensure
unfolding command_number
returns-in_err-ensure c = grind (arith, common_steps, refuses, passes)

pub returns-in_err-ensure-2 : goal.returns-in_err-ensure-2
unfolding command_number
returns-in_err-ensure-2 c = grind (arith, common_steps, refuses, passes)

pub returns-in_err-ensure-3 : goal.returns-in_err-ensure-3
unfolding command_number
returns-in_err-ensure-3 c = grind (arith, common_steps, refuses, passes)

pub returns-in_err-ensure-4 : goal.returns-in_err-ensure-4
unfolding command_number
returns-in_err-ensure-4 c = grind (arith, common_steps, refuses, passes)

pub returns-in_err-ensure-5 : goal.returns-in_err-ensure-5
unfolding command_number
returns-in_err-ensure-5 c = grind (arith, common_steps, refuses, passes)

pub returns-in_err-ensure-6 : goal.returns-in_err-ensure-6
unfolding command_number
returns-in_err-ensure-6 c = grind (arith, common_steps, refuses, passes)

pub returns-in_err-ensure-7 : goal.returns-in_err-ensure-7
unfolding command_number
returns-in_err-ensure-7 c = grind (arith, common_steps, refuses, passes)

pub returns : goal.returns
unfolding command_number
returns c = grind (arith, passes)
