-- `refusals::check_rows` meets its contract.
use Rattle.paper.specs.Numbers.{rows_number}
use Rattle.refusals.proofs.check_rows.Goals as goal

pub returns : goal.returns
unfolding rows_number
returns c = c.ensure.ensures
