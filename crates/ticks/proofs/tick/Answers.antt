-- `ticks::tick` meets its contract: what is told is made of the record.
use mathlib.Core.Path.{◌≡◌, ◌∙◌}
use lib.ListN.{length}
use Rattle.types.specs.declared.Memory.TheVariants.{Array, Rows}
use Rattle.paper.specs.Sizes.{page_bytes}
use Rattle.ticks.proofs.Waited.{ticked_told, memory_told}
use borrow.Author.Rules.{rules}
use Rattle.ticks.proofs.tick.Goals as goal

pub returns : goal.returns
returns c =
    let a = c.args in
    let f = c.is_sound_of-sound.ensures in
    let w = c.tick_part-waited.ensures in
    let k = length a.array.now in
    let r = length a.rows.now in
    let l : length a.state.page ≡ page_bytes = search rules in
    record { answer = rw (c.apply-next.ensures, w.answer, f) (ticked_told a.state k r a.ticks); array = w.array ∙ rw f (memory_told a.state k r a.ticks Array a.array.now l); rows = w.rows ∙ rw f (memory_told a.state k r a.ticks Rows a.rows.now l) }
