-- `printing::put_ticks` meets its contract: the pieces of the line are printed one after another.
use Rattle.printing.proofs.Text.{prints_join}
use Rattle.paper.specs.Bench.{LF, decimal, ticks_text}
use mathlib.Core.List.{[], ◌∷◌}
use Rattle.printing.proofs.put_ticks.Goals as goal

pub returns : goal.returns
unfolding ticks_text
returns c =
    let a = c.args in
    prints_join (decimal a.done) (LF ∷ []) c.put_decimal-a.ensures c.put_decimal.ensures
