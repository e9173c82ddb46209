-- What is packed are the number and the length of the text.
use Rattle.std.proofs.Common.{◌∙◌}
use Rattle.yawlspar_wear.proofs.Face.{written_answer}
use Rattle.yawlspar_wear.proofs.yawlspar_wear_text.Goals as goal

pub returns-clause-answer : goal.returns-clause-answer
returns-clause-answer c =
    c.pack.ensures ∙ written_answer c.args.blocks c.args.wear.now c.args.text.now c.write-written.result c.write-written.ensures.answer
