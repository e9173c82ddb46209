-- `blank_map::keep_erase` meets its contract: the pages of the array; rows have no bit.
use mathlib.Core.Path.{refl}
use Rattle.blank_map.proofs.Memories.{array_is}
use Rattle.blank_map.proofs.keep_erase.Goals as goal

pub returns-then-eq : goal.returns-then-eq
returns-then-eq c = rw (← array_is c.args.memory c.eq.ensures, c.if-eq.true) c.mark_pages.ensures

pub returns-else-eq : goal.returns-else-eq
returns-else-eq c = rw (← array_is c.args.memory c.eq.ensures, c.if-eq.false) refl
