-- `blank_map::with_bit` meets its contract: the weight of the bit is added, taken away, or neither.
use native.Mathlib.Omega.{arith}
use Rattle.words.proofs.Tests.{bit_le}
use Rattle.blank_map.proofs.Marks.{weight_is, room, holds, bit_set, bit_cleared, bit_kept}
use Rattle.blank_map.proofs.with_bit.Goals as goal

pub overflow_add-result : goal.overflow_add-result
overflow_add-result c =
    let a = c.args in
    let p = c.requires in
    omega (arith, weight_is a.byte a.place (omega arith) p, room a.byte a.place (omega arith) p (omega (arith, c.bit_of-will.ensures, bit_le a.value)))

pub returns-then-was-will : goal.returns-then-was-will
returns-then-was-will c =
    let a = c.args in
    bit_set a.byte a.place (omega arith) c.requires a.value (rw (← c.bit_of-will.ensures) c.if-was-will.true)

pub overflow_sub-result : goal.overflow_sub-result
overflow_sub-result c =
    let a = c.args in
    let p = c.requires in
    omega (arith, weight_is a.byte a.place (omega arith) p, holds a.byte a.place (omega arith) p (omega arith))

pub returns-then-will-was : goal.returns-then-will-was
returns-then-will-was c =
    let a = c.args in
    bit_cleared a.byte a.place (omega arith) c.requires a.value (rw (← c.bit_of-will.ensures) c.if-will-was.true)

pub returns : goal.returns
returns c =
    let a = c.args in
    let e = c.bit_of-will.ensures in
    bit_kept a.byte a.place (omega arith) c.requires a.value (rw (← e) c.if-was-will.false) (rw (← e) c.if-will-was.false)
