-- `printing::put_digits` meets its contract: the digits are printed one after another.
use Rattle.printing.proofs.Text.{prints_then}
use Rattle.paper.specs.Bench.{decimal}
use Rattle.printing.proofs.put_digits.Goals as goal

pub returns : goal.returns
unfolding decimal
returns c =
    rw (← c.digit.ensures) (prints_then (prints_then (prints_then (prints_then c.put_leading-a.ensures c.put_leading-b.ensures) c.put_leading-c.ensures) c.put_leading-d.ensures) c.put.ensures)
