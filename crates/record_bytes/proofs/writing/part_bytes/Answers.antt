-- `record_bytes::writing::part_bytes` meets its contract: byte by byte it is the definition.
use Rattle.record_bytes.proofs.Laid.{part_as}
use Rattle.record_bytes.proofs.writing.part_bytes.Goals as goal

pub returns : goal.returns
returns c = rw c.to_be_bytes.ensures (part_as c.args.part _ _ _ c.bit_of-wel.ensures c.bit_of-armed.ensures c.bit_of-asleep.ensures)
