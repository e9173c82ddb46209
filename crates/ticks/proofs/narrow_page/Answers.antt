-- `ticks::narrow_page` meets its contract. The loop's invariant: so many bytes are written.
use Rattle.std.proofs.Common.{add-one}
use native.Mathlib.Nat.{zero-add}
use Rattle.paper.specs.Program.{narrowed}
use Rattle.ticks.proofs.narrow_page.Goals as goal

pub loop-i-preserved : goal.loop-i-preserved
unfolding narrowed
loop-i-preserved c =
    let l = c.loop-i in
    rw (l.invariant, c.from-place.ensures, c.page_place.ensures, add-one, zero-add)
