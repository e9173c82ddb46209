-- `script::run` meets its contract: it is the script that keeps no wear records.
use Rattle.script.proofs.InBytes.{gives}
use Rattle.script.proofs.run.Goals as goal

pub returns : goal.returns
returns c =
    let t = c.run_with.ensures in
    let g = gives _ _ t.run in
    record { answer = g.answer; bytes = t.bytes; array = g.array; rows = g.rows; output = g.output; answers = g.answers; done = g.done; map = t.map }
