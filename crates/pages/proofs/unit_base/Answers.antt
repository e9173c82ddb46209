-- `pages::unit_base` meets its contract, over the unit's size.
use Rattle.std.proofs.Common.{◌≡◌, ◌*◌, mul-zero, div-mul-le_self, arith}
use Rattle.paper.proofs.Pages.{unit_pages_le}
use Rattle.paper.specs.Erase.{unit_bytes}
use Rattle.pages.proofs.unit_base.Goals as goal

pub overflow_mul-size : goal.overflow_mul-size
overflow_mul-size c =
    let a = c.args in
    omega (arith, c.unit_pages-size.ensures, unit_pages_le a.unit a.blocks (omega arith))

pub returns-then-size-eq0 : goal.returns-then-size-eq0
returns-then-size-eq0 c =
    let a = c.args in
    let e : unit_bytes a.unit a.blocks ≡ 0 = rw (← c.unit_pages-size.ensures) c.if-size-eq0.true in
    rw (e, mul-zero)

pub overflow_mul-result : goal.overflow_mul-result
overflow_mul-result c =
    let s = c.unit_pages-size.result * 256 in
    omega (arith, div-mul-le_self c.args.place s)

pub returns : goal.returns
returns c = rw (← c.unit_pages-size.ensures)
