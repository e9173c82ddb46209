-- `ticks::erase_pages` meets its contract. The loop's invariant: so many pages are set.
use Rattle.std.proofs.Common.{length, ap, ◌∙◌, add-one}
use Rattle.ticks.proofs.OneMemory.{pages_length}
use Rattle.ticks.proofs.erase_pages.Goals as goal

pub loop-i-preserved : goal.loop-i-preserved
loop-i-preserved c = c.erase_page.ensures ∙ rw (c.loop-i.invariant, add-one)

pub shape_of-memory : goal.shape_of-memory
shape_of-memory c =
    let l = c.loop-i in
    ap length l.invariant ∙ pages_length l.i c.args.from c.args.memory.now
