-- `printing::put_wide` meets its contract: the character is printed after the number.
use Rattle.printing.proofs.Text.{prints_then}
use Rattle.printing.proofs.put_wide.Goals as goal

pub returns : goal.returns
returns c = prints_then c.put_wide_digits-a.ensures c.put.ensures
