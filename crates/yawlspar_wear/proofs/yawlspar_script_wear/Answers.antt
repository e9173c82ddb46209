-- What is packed are the number and the step.
use Rattle.std.proofs.Common.{◌∙◌}
use Rattle.yawlspar_wear.proofs.Face.{ran_answer}
use Rattle.yawlspar_wear.proofs.yawlspar_script_wear.Goals as goal

pub returns-clause-answer : goal.returns-clause-answer
returns-clause-answer c = c.pack.ensures ∙ ran_answer _ c.run_wear-ran.result c.run_wear-ran.ensures.answer
