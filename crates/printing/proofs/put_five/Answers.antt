-- `printing::put_five` meets its contract: the digits are printed one after another.
use Rattle.printing.proofs.Text.{prints_then}
use Rattle.paper.specs.WearText.{five_digits}
use Rattle.printing.proofs.put_five.Goals as goal

pub returns : goal.returns
unfolding five_digits
returns c =
    rw (← c.digit.ensures, ← c.digit-2.ensures, ← c.digit-3.ensures, ← c.digit-4.ensures, ← c.digit-5.ensures) (prints_then (prints_then c.put_two-a.ensures c.put_two-b.ensures) c.put.ensures)
