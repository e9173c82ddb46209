-- `printing::put_decimal` meets its contract: the character is printed after the number.
use Rattle.printing.proofs.Text.{prints_then}
use Rattle.printing.proofs.put_decimal.Goals as goal

pub returns : goal.returns
returns c = prints_then c.put_digits-a.ensures c.put.ensures
