-- `soundness::registers_ok` meets its contract: the two tests that it joins are the definition's.
use Rattle.soundness.proofs.registers_ok.Goals as goal

pub returns : goal.returns
returns c = rw (c.both.ensures, c.large_ok-large.ensures, c.bits_ok-bits.ensures)
