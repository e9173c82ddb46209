-- `printing::put_sums` meets its contract: the pieces of the two lines are printed one after another.
use mathlib.Core.List.{[], ◌∷◌}
use Rattle.printing.proofs.Text.{prints_then, prints_join}
use Rattle.paper.specs.WearText.{counts_text, sums_text}
use Rattle.paper.specs.Bench.{LF}
use Rattle.printing.proofs.put_sums.Goals as goal

pub returns : goal.returns
unfolding sums_text
returns c =
    let a = c.args in
    prints_join (counts_text a.te a.tp) (LF ∷ []) (prints_then (prints_join (counts_text a.le a.lp) (LF ∷ []) c.put_text-a.ensures c.put_counts-b.ensures) c.put_text-c.ensures) c.put_counts.ensures
