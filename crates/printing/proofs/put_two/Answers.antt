-- `printing::put_two` meets its contract: the two characters are printed one after another.
use Rattle.printing.proofs.Text.{prints_then}
use Rattle.printing.proofs.put_two.Goals as goal

pub returns : goal.returns
returns c = prints_then c.put-a.ensures c.put.ensures
