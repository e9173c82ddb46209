-- `refusals::check_ticks` meets its contract: it makes the four tests in the paper's order.
use Rattle.std.proofs.Common.{arith}
use Rattle.std.proofs.lemmas.Grind.{common_steps}
use Rattle.paper.specs.Numbers.{sound_number, ticks_number, tick_number}
use Rattle.paper.proofs.Refusals.{refuses, passes}
use Rattle.refusals.proofs.check_ticks.Goals as goal

pub returns-in_err-check_size : goal.returns-in_err-check_size
unfolding tick_number
returns-in_err-check_size c = grind (arith, common_steps, refuses)

pub returns-in_err-check_rows : goal.returns-in_err-check_rows
unfolding tick_number
returns-in_err-check_rows c = grind (arith, common_steps, refuses, passes)

pub returns-in_err-ensure : goal.returns-in_err-ensure
unfolding tick_number sound_number
returns-in_err-ensure c = grind (arith, common_steps, refuses, passes)

pub returns : goal.returns
unfolding tick_number sound_number ticks_number
returns c = grind (arith, passes)
