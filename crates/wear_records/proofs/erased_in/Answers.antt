-- `wear_records::erased_in` meets its contract: the rows have no sectors.
use Rattle.wear_records.proofs.erased_in.Goals as goal

pub returns-then-in_array : goal.returns-then-in_array
returns-then-in_array c = rw (← c.in_array.ensures, c.if-in_array.true) c.finished.ensures
