-- `wear_records::tally` meets its contract, by what was reached.
use Rattle.paper.specs.Wear.{tally_of}
use Rattle.wear_records.proofs.tally.Goals as goal

pub returns-in-None : goal.returns-in-None
unfolding tally_of
returns-in-None c = rw c.in-None.is c.nothing.ensures

pub returns-in-Some : goal.returns-in-Some
unfolding tally_of
returns-in-Some c = rw c.in-Some.is c.tally_by.ensures
