-- `record_bytes::writing::work_bytes` meets its contract: zeros, or the cells of the operation.
use Rattle.record_bytes.proofs.Laid.{none_bytes}
use Rattle.record_bytes.proofs.writing.work_bytes.Goals as goal

pub returns-in-None : goal.returns-in-None
returns-in-None c = rw c.in-None.is none_bytes

pub returns-in-Some : goal.returns-in-Some
returns-in-Some c = rw c.in-Some.is c.operation_bytes.ensures
