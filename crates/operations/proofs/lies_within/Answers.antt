-- `operations::lies_within` meets its contract: the difference is tested where the sum could wrap.
use Rattle.words.proofs.Tests.{same_leb}
use Rattle.words.specs.Logic.{◌and◌}
use borrow.Author.Tests.{le-leb, lt-leb}
use Prim.Native.Nat.{suc, ◌+◌, ◌-◌, ◌≤◌, ◌<◌}
use native.Mathlib.Omega.{arith}
use Rattle.operations.proofs.lies_within.Goals as goal

pub returns-then-base-place : goal.returns-then-base-place
unfolding ◌and◌
returns-then-base-place c =
    let a = c.args in
    let h : a.base ≤ a.place = omega arith in
    rw (le-leb _ _ h)
    (same_leb (suc (a.place - a.base)) a.size (suc a.place) (a.base + a.size) (λ l. omega arith) (λ l. omega arith))

pub returns-else-base-place : goal.returns-else-base-place
unfolding ◌and◌
returns-else-base-place c =
    let a = c.args in
    let h : a.place < a.base = omega arith in
    rw (lt-leb _ _ h)
