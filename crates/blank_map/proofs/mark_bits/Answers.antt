-- `blank_map::mark_bits` meets its contract. The loop's invariant: the bits so far are put.
use Prim.Native.Nat.{◌+◌, ◌*◌}
use mathlib.Core.Path.{◌≡◌, refl, ◌∙◌}
use native.Mathlib.Numerals.{add-one}
use native.Mathlib.Omega.{arith}
use Rattle.blank_map.proofs.mark_bits.Goals as goal

pub loop-i-preserved : goal.loop-i-preserved
loop-i-preserved c =
    let l = c.loop-i in
    let a = c.args in
    let e : a.j * 8 + (a.place + l.i) ≡ a.j * 8 + a.place + l.i = omega arith in
    rw add-one (c.put_bit.ensures ∙ rw (l.invariant, e) refl)
