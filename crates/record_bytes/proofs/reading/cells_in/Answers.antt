-- `record_bytes::reading::cells_in` meets its contract: the bytes stand at their places, and the numbers are those of eight bytes each.
use Rattle.record_bytes.specs.Read.{cells_in}
use Rattle.record_bytes.proofs.reading.cells_in.Goals as goal

pub returns : goal.returns
unfolding cells_in
returns c =
    let a = (rw c.unwrap.ensures at c.as_array.ensures.cases).same in
    let b = (rw c.unwrap-2.ensures at c.as_array-2.ensures.cases).same in
    let d = (rw c.unwrap-3.ensures at c.as_array-3.ensures.cases).same in
    rw (c.number_in-done.ensures, c.number_in-count.ensures, c.number_in-base.ensures, a, b, d)
