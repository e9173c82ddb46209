-- `transact::drive_from` meets its contract: FFh before the first driven place, then the source.
use Prim.Native.Nat.{◌-◌}
use mathlib.Core.Path.{◌∙◌}
use native.Mathlib.Omega.{arith}
use Rattle.transact.proofs.Filled.{driven_blank}
use Rattle.transact.proofs.drive_from.Goals as goal

pub returns : goal.returns
returns c =
    let s = c in
    let a = c.args in
    let m = c.min-first in
    c.drive.ensures
    ∙ driven_blank a.output.now a.from m.result (m.result - 0) _ (omega arith) m.ensures c.blank.ensures a.source.now a.at (λ z. omega (arith, c.requires))
