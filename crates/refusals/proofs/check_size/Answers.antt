-- `refusals::check_size` meets its contract: size and array are one test.
use Rattle.paper.specs.Numbers.{size_number}
use Rattle.refusals.proofs.check_size.Goals as goal

pub returns : goal.returns
unfolding size_number
returns c = rw (c.ensure.ensures, c.both.ensures, c.size_ok-known.ensures)
