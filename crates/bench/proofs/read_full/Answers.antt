-- `bench::read_full` meets its contract: what each read gives is put after what is filled.
use Rattle.bench.proofs.Filled.{taken_more, taken_kept}
use Rattle.bench.proofs.read_full.Goals.{in-Ok, in-Err+else-ne}
use Rattle.std.proofs.Common.{rules}
use Rattle.bench.proofs.read_full.Goals as goal

pub loop-preserved : goal.loop-preserved
loop-preserved g c =
    let before = c.loop.invariant in
    elim c.match-read.branch [
      | in-Ok w ↦ (search rules, search rules, taken_more _ _ _ _ _ _ _ _ _ w.at-is before.1 w.in-Ok.ensures.bound.0 before.2 w.in-Ok.ensures.bytes.0)
      | in-Err+else-ne w ↦ (search rules, search rules, taken_kept _ _ _ _ _ _ _ _ w.at-is before.1 before.2 w.in-Err.ensures.bytes)
    ]
