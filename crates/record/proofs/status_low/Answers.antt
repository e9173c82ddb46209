-- `record::status_low` meets its contract: two bits at their places.
use native.Mathlib.Omega.{arith}
use Rattle.words.proofs.Tests.{bit_le}
use Rattle.record.proofs.status_low.Goals as goal

pub overflow_mul-result : goal.overflow_mul-result
overflow_mul-result c = omega (arith, c.bit_of.ensures, bit_le c.args.wel)

pub overflow_add-result : goal.overflow_add-result
overflow_add-result c = omega (arith, c.bit_of.ensures, bit_le c.args.wel, c.bit_of-2.ensures, bit_le c.is_busy.result)

pub returns : goal.returns
returns c = rw (c.bit_of.ensures, c.bit_of-2.ensures, c.is_busy.ensures)
