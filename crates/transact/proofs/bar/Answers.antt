-- `transact::bar` meets its contract: all is FFh, and the command's error bits are set.
use mathlib.Core.Path.{refl}
use Rattle.transact.proofs.bar.Goals as goal

pub returns : goal.returns
returns c = (rw (c.number.ensures, c.change_barred-change.ensures) refl, c.blank.ensures)
