-- `record::registers_in` meets its contract: each register is its stored bits and the bits that other fields define, which do not overlap.
use Rattle.paper.proofs.Records.{status_low_le, function_low_le}
use native.Mathlib.Omega.{arith}
use Rattle.record.proofs.registers_in.Goals as goal

pub overflow_add-result : goal.overflow_add-result
overflow_add-result c = let a = c.args in omega (arith, c.held_byte-status.ensures, c.status_low-low_status.ensures, status_low_le a.phase a.wel)

pub overflow_add-result-3 : goal.overflow_add-result-3
overflow_add-result-3 c = let a = c.args in omega (arith, c.held_byte-function.ensures, c.function_low-low_function.ensures, function_low_le a.phase)

pub returns : goal.returns
returns c = rw (c.held_byte-status.ensures, c.status_low-low_status.ensures, c.held_byte-function.ensures, c.function_low-low_function.ensures, c.held_byte-extended.ensures)
