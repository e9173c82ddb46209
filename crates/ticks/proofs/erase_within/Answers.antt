-- `ticks::erase_within` meets its contract: the pages done and asked are held against the whole pages from the base on.
use Prim.Native.Nat.{◌+◌, ◌-◌, ◌*◌, ◌/◌, ◌<◌}
use mathlib.Core.Path.{sym}
use native.Mathlib.Omega.{arith}
use borrow.Author.Tests.{lt-leb}
use Rattle.words.proofs.Tests.{same_leb}
use Rattle.ticks.proofs.erase_within.Goals as goal

pub returns-then-all-base : goal.returns-then-all-base
returns-then-all-base c =
    let a = c.args in
    let h : a.all < a.base + (a.done + a.count) * 256 = omega arith in
    sym (lt-leb _ _ h)

pub returns : goal.returns
returns c =
    let a = c.args in
    same_leb (a.done + a.count) ((a.all - a.base) / 256) (a.base + (a.done + a.count) * 256) a.all (λ h. omega arith) (λ h. omega arith)
