-- `record::fresh_part` meets its contract: the registers are those of an idle phase.
use Rattle.record.proofs.fresh_part.Goals as goal

pub returns : goal.returns
returns c = rw c.registers_in-registers.ensures
