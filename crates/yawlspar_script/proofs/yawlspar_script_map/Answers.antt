-- `yawlspar_script::yawlspar_script_map` meets its contract: what the script answers is packed.
use Prim.Native.Nat.{◌%◌, ◌^◌}
use mathlib.Core.Path.{ap, ◌∙◌}
use Rattle.script.specs.declared.Ran.{Ran}
use Rattle.yawlspar.specs.Face.{packed}
use Rattle.yawlspar_script.specs.Face.{script_answer}
use Rattle.yawlspar_script.proofs.yawlspar_script_map.Goals as goal

pub returns : goal.returns
unfolding script_answer
returns c =
    let w = c.script-kept.ensures in
    record { answer = c.pack.ensures ∙ ap (λ (x : Ran). packed x.number (x.step % 2 ^ 56)) w.answer; bytes = w.bytes; array = w.array; rows = w.rows; output = w.output; answers = w.answers; done = w.done; map = w.map }
