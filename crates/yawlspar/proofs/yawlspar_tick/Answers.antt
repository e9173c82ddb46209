-- `yawlspar::yawlspar_tick` meets its contract: what the ticks answer is packed.
use Prim.Native.Nat.{◌%◌, ◌^◌}
use mathlib.Core.Path.{ap, ◌∙◌}
use Rattle.types.specs.declared.Worked.{Worked}
use Rattle.yawlspar.specs.Face.{packed}
use Rattle.yawlspar.proofs.Face.{worked_answer}
use Rattle.yawlspar.proofs.yawlspar_tick.Goals as goal

pub returns : goal.returns
returns c =
    let w = c.tick_bytes-worked.ensures in
    record { answer = c.pack.ensures ∙ ap (λ (x : Worked). packed x.number (x.reached.count % 2 ^ 56)) w.answer ∙ worked_answer _ _ _ _; bytes = w.bytes; array = w.array; rows = w.rows }
