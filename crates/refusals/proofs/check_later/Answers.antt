-- `refusals::check_later` meets its contract: it makes the four tests in the paper's order.
use Rattle.std.proofs.Common.{arith}
use Rattle.std.proofs.lemmas.Grind.{common_steps}
use Rattle.paper.specs.Numbers.{length_number, output_number, sound_number}
use Rattle.paper.proofs.Refusals.{refuses, passes}
use Rattle.refusals.proofs.check_later.Goals as goal

pub returns-in_err-check_rows : goal.returns-in_err-check_rows
returns-in_err-check_rows c = grind (arith, common_steps, refuses)

pub returns-in_err-ensure : goal.returns-in_err-ensure
unfolding length_number
returns-in_err-ensure c = grind (arith, common_steps, refuses, passes)

pub returns-in_err-ensure-2 : goal.returns-in_err-ensure-2
unfolding length_number output_number
returns-in_err-ensure-2 c = grind (arith, common_steps, refuses, passes)

pub returns : goal.returns
unfolding length_number output_number sound_number
returns c = grind (arith, passes)
