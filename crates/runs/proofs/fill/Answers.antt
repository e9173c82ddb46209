-- `runs::fill` meets its contract. The loop's invariant: what is passed has the value, what is left is as it came.
use Rattle.std.proofs.Common.{◌≡◌, ◌<◌, length, ◌∙◌, arith}
use mathlib.Core.List.{append-nil}
use lib.Seq.{drop-length}
use borrow.Author.Fill.{fill_more}
use Rattle.runs.proofs.fill.Goals as goal

pub loop-i-preserved : goal.loop-i-preserved
loop-i-preserved c =
    let l = c.loop-i in
    let i<n : l.i < length c.args.bytes.now = omega (arith, l.auto.bytes, c.loop-i-test.true) in
    rw l.invariant (fill_more _ _ _ i<n)

pub returns : goal.returns
returns c =
    let l = c.loop-i in
    let e : l.i ≡ length c.args.bytes.now = omega (arith, l.auto.bytes, l.auto.i-end, c.loop-i-test.false) in
    l.invariant ∙ rw (e, drop-length, append-nil)
