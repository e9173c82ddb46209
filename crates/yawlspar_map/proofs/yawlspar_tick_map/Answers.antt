-- `yawlspar_map::yawlspar_tick_map` meets its contract: what the ticks answer is packed.
use mathlib.Core.Path.{◌∙◌}
use Rattle.yawlspar_map.proofs.Face.{kept_answer}
use Rattle.yawlspar_map.proofs.yawlspar_tick_map.Goals as goal

pub returns : goal.returns
returns c =
    let w = c.tick-kept.ensures in
    record { answer = c.pack.ensures ∙ kept_answer _ _ _ _ _ _ w.answer; bytes = w.bytes; array = w.array; rows = w.rows; map = w.map }
