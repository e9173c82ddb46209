-- `transact::ignore` meets its contract: all is FFh, and the armed mark is cleared.
use mathlib.Core.Path.{refl}
use Rattle.transact.proofs.ignore.Goals as goal

pub returns : goal.returns
returns c = (rw c.number.ensures refl, c.blank.ensures)
