-- `blank_map::mark_bytes` meets its contract: the bytes that the map has are lent on, and come back as FFh.
use Prim.Native.Nat.{◌+◌, ◌-◌, ◌*◌}
use mathlib.Core.Path.{sym}
use mathlib.Core.Bool.{true}
use native.Mathlib.Omega.{arith}
use Rattle.words.specs.Lists.{AreBytes}
use Rattle.blank_map.proofs.Marks.{puts_out, bytes_put}
use Rattle.blank_map.proofs.mark_bytes.Goals as goal

pub returns-then-n-j : goal.returns-then-n-j
returns-then-n-j c =
    let a = c.args in
    sym (puts_out (a.count * 8) (a.j * 8) (λ q. true) a.map.now (omega (arith, c.if-n-j.true)))

pub returns : goal.returns
returns c =
    let a = c.args in
    let k = c.min-some in
    let bytes : AreBytes a.map.now = λ i. omega (arith, c.slice_known-1.given i) in
    bytes_put a.map.now a.j a.count k.result bytes (omega arith) k.ensures (a.j + k.result - a.j) (omega arith) _ (c.fill.ensures.after (λ y e. e))
