-- `yawlspar::numbers::yawlspar_protected` meets its contract: where no block is protected the answer is 0; else the part has a size, and the address's block is one of the protected ones or not.
use native.Mathlib.Omega.{arith}
use Rattle.yawlspar.proofs.Question.{none_held, some_held}
use Rattle.yawlspar.proofs.numbers.yawlspar_protected.Goals as goal

pub returns-then-protected-eq0 : goal.returns-then-protected-eq0
returns-then-protected-eq0 c =
    let a = c.args in
    let r = c.protected_blocks-protected in
    none_held r.result a.code a.blocks r.ensures a.address c.if-protected-eq0.true

pub overflow_mul-place : goal.overflow_mul-place
overflow_mul-place c =
    let a = c.args in
    let r = c.protected_blocks-protected in
    omega (arith, (some_held r.result a.code a.blocks r.ensures c.if-protected-eq0.false).1)

pub nonzero_rem-place : goal.nonzero_rem-place
nonzero_rem-place c =
    let a = c.args in
    let r = c.protected_blocks-protected in
    omega (arith, (some_held r.result a.code a.blocks r.ensures c.if-protected-eq0.false).0)

pub returns : goal.returns
returns c = rw (c.bit_of.ensures, c.is_among.ensures, c.protected_blocks-protected.ensures)
