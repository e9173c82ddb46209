-- `printing::put_other` meets its contract: the line is its two characters.
use Rattle.paper.specs.Bench.{other_text}
use Rattle.printing.proofs.put_other.Goals as goal

pub returns : goal.returns
unfolding other_text
returns c = c.put_two.ensures
