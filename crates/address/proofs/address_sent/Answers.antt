-- `address::address_sent` meets its contract: the part that is lent on is as many bytes after the first as were asked for and are there.
use Prim.Native.Nat.{◌+◌, ◌-◌, ◌≤◌, min}
use mathlib.Core.Path.{◌≡◌, ◌∙◌}
use native.Mathlib.Omega.{arith}
use lib.Seq.{take-nil, take_all, length-take-le}
use lib.ListN.{length, take, drop, length-drop, drop_of_length-le}
use Rattle.paper.specs.Address.{high_first}
use Rattle.words.proofs.Lists.{take_min}
use Rattle.address.proofs.address_sent.Goals as goal

pub returns-then-n-eq0 : goal.returns-then-n-eq0
unfolding high_first
returns-then-n-eq0 c =
    let e : length c.args.input.now ≤ 1 = omega (arith, c.if-n-eq0.true) in
    rw (drop_of_length-le c.args.input.now e, take-nil)

pub returns : goal.returns
returns c =
    let a = c.args in
    let xs = a.input.now in
    let m = c.min-end in
    let e : 1 + m.result - 1 ≡ min (min a.count 8) (length (drop 1 xs)) =
    rw length-drop (omega (arith, m.ensures, c.min.ensures)) in
    let t : take 8 (take (min (min a.count 8) (length (drop 1 xs))) (drop 1 xs)) ≡ take (min (min a.count 8) (length (drop 1 xs))) (drop 1 xs) =
    take_all 8 _ (rw (length-take-le (min (min a.count 8) (length (drop 1 xs))) (drop 1 xs) (omega arith)) (omega arith)) in
    c.high_first.ensures ∙ rw (e, t, take_min)
