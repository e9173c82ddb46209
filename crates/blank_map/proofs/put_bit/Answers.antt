-- `blank_map::put_bit` meets its contract: the byte with the bit, or none beyond the map.
use Prim.Native.Nat.{◌+◌, ◌*◌}
use mathlib.Core.Path.{sym}
use native.Mathlib.Omega.{arith}
use Rattle.words.proofs.BitLists.{put_out}
use Rattle.blank_map.proofs.Marks.{with_put}
use Rattle.blank_map.proofs.put_bit.Goals as goal

pub returns-then-j-map : goal.returns-then-j-map
returns-then-j-map c =
    let a = c.args in
    rw c.with_bit.ensures (with_put a.map.now a.j a.place a.value (omega (arith, c.slice_known-then-j-map-1.given a.j)) c.requires)

pub returns-else-j-map : goal.returns-else-j-map
returns-else-j-map c =
    let a = c.args in
    sym (put_out a.map.now (a.j * 8 + a.place) a.value (omega (arith, c.if-j-map.false)))
