-- `ticks::erase` meets its contract: the test decides, and it is what the run asks for.
use Prim.Native.Nat.{◌+◌, ◌*◌}
use mathlib.Core.Path.{sym, ◌∙◌}
use native.Mathlib.Omega.{arith}
use lib.ListN.{length}
use borrow.Author.Tests.{leb-true}
use Rattle.ticks.proofs.erase.Goals as goal

pub overflow_mul-done : goal.overflow_mul-done
overflow_mul-done c =
    let a = c.args in
    omega (arith, leb-true (a.base + (a.done + a.count) * 256) (length a.memory.now) (sym c.erase_within-within.ensures ∙ c.if-within.true))

pub overflow_add-base : goal.overflow_add-base
overflow_add-base c =
    let a = c.args in
    omega (arith, leb-true (a.base + (a.done + a.count) * 256) (length a.memory.now) (sym c.erase_within-within.ensures ∙ c.if-within.true))

pub erase_pages-requires : goal.erase_pages-requires
erase_pages-requires c =
    let a = c.args in
    omega (arith, leb-true (a.base + (a.done + a.count) * 256) (length a.memory.now) (sym c.erase_within-within.ensures ∙ c.if-within.true))

pub returns-then-within : goal.returns-then-within
returns-then-within c =
    let w = c.erase_within-within.ensures in
    rw (← w, c.if-within.true) c.erase_pages.ensures

pub returns-else-within : goal.returns-else-within
returns-else-within c = rw (← c.erase_within-within.ensures, c.if-within.false)
