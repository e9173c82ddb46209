-- `printing::put_counts` meets its contract: the counts are printed one after the other.
use mathlib.Core.List.{[], ◌∷◌}
use Rattle.printing.proofs.Text.{prints_join}
use Rattle.paper.specs.WearText.{wide_decimal}
use Rattle.printing.proofs.put_counts.Goals as goal

pub returns : goal.returns
returns c =
    let a = c.args in
    prints_join (wide_decimal a.programs) (a.then ∷ []) c.put_wide-a.ensures c.put_wide.ensures
