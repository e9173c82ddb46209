-- `yawlspar_script::yawlspar_check` meets its contract: what the check says is packed.
use mathlib.Core.Path.{ap, ◌∙◌}
use Rattle.yawlspar_script.specs.Face.{check_answer}
use Rattle.yawlspar_script.proofs.yawlspar_check.Goals as goal

pub returns : goal.returns
returns c =
    let w = c.check-verdict.ensures in
    record { answer = c.answer.ensures ∙ ap check_answer w.verdict; bytes = w.bytes; array = w.array; rows = w.rows; output = w.output; answers = w.answers; done = w.done }
