-- `record::bits_ok` meets its contract: its tests on remainders are those of the bits.
use Rattle.paper.proofs.Bits.{bits_as}
use Rattle.record.proofs.bits_ok.Goals as goal

pub returns : goal.returns
returns c =
    let a = c.args in
    rw (bits_as a.phase a.wel a.stored, c.both-2.ensures, c.both.ensures, c.function_low.ensures, c.status_low.ensures)
