-- `blank_map::keep` meets its contract, by what was reached.
use mathlib.Core.Path.{refl}
use Rattle.blank_map.specs.Marked.{marked}
use Rattle.blank_map.proofs.keep.Goals as goal

pub returns-in-Some : goal.returns-in-Some
unfolding marked
returns-in-Some c = rw c.in-Some.is c.keep_of.ensures

pub returns-in_default : goal.returns-in_default
unfolding marked
returns-in_default c = rw c.in_default.is refl
