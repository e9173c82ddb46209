-- `printing::put_wide_digits` meets its contract, for up to five digits, up to ten, and more: the parts are printed one after another.
use Rattle.printing.proofs.Text.{prints_then}
use borrow.Author.Tests.{lt-ltb, le-ltb}
use Rattle.paper.specs.WearText.{wide_decimal}
use native.Mathlib.Omega.{arith}
use Rattle.printing.proofs.put_wide_digits.Goals as goal

pub returns-then-n-lt100000 : goal.returns-then-n-lt100000
unfolding wide_decimal
returns-then-n-lt100000 c =
    rw (lt-ltb c.args.n 100000 (omega arith)) c.put_digits.ensures

pub returns-then-n-lt10000000000 : goal.returns-then-n-lt10000000000
unfolding wide_decimal
returns-then-n-lt10000000000 c =
    let n = c.args.n in
    rw (le-ltb n 100000 (omega arith), lt-ltb n 10000000000 (omega arith)) (prints_then c.put_digits-high.ensures c.put_five.ensures)

pub returns : goal.returns
unfolding wide_decimal
returns c =
    let n = c.args.n in
    rw (le-ltb n 100000 (omega arith), le-ltb n 10000000000 (omega arith)) (prints_then (prints_then c.put_digits-a.ensures c.put_five-b.ensures) c.put_five-2.ensures)
