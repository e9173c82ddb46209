-- `transact::repeat_from` meets its contract: FFh before the first driven place, then the byte.
use Prim.Native.Nat.{◌-◌}
use native.Mathlib.Omega.{arith}
use lib.ListN.{length}
use Rattle.transact.proofs.Filled.{repeated_blank}
use Rattle.transact.proofs.repeat_from.Goals as goal

pub returns : goal.returns
returns c =
    let a = c.args in
    let m = c.min-first in
    repeated_blank a.output.now a.from m.result (m.result - 0) _ (omega arith) m.ensures c.blank.ensures a.byte (length a.output.now - m.result) _ (omega arith) c.fill.ensures
