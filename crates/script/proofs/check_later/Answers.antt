-- `script::check_later` meets its contract: it makes the four tests in the paper's order.
use Rattle.std.proofs.Common.{arith}
use Rattle.std.proofs.lemmas.Grind.{common_steps}
use Rattle.paper.specs.Numbers.{lists_number, output_number, sound_number, later_script_refusal}
use Rattle.paper.proofs.Refusals.{refuses, passes}
use Rattle.script.proofs.check_later.Goals as goal

pub returns-in_err-check_rows : goal.returns-in_err-check_rows
unfolding later_script_refusal
returns-in_err-check_rows c = grind (arith, common_steps, refuses)

pub returns-in_err-ensure : goal.returns-in_err-ensure
unfolding later_script_refusal lists_number
returns-in_err-ensure c = grind (arith, common_steps, refuses, passes)

pub returns-in_err-ensure-2 : goal.returns-in_err-ensure-2
unfolding later_script_refusal lists_number output_number
returns-in_err-ensure-2 c = grind (arith, common_steps, refuses, passes)

pub returns : goal.returns
unfolding later_script_refusal lists_number output_number sound_number
returns c = grind (arith, passes)
