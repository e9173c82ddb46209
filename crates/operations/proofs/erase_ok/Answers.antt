-- `operations::erase_ok` meets its contract: it joins the tests of an erase, and a unit's size fits.
use Rattle.operations.proofs.InOrder.{erase_as}
use Rattle.paper.proofs.Pages.{unit_pages_le}
use mathlib.Core.Path.{sym}
use native.Mathlib.Omega.{arith}
use Rattle.operations.proofs.erase_ok.Goals as goal

pub overflow_mul-pages : goal.overflow_mul-pages
overflow_mul-pages c =
    let a = c.args in
    omega (arith, c.unit_pages-pages.ensures, unit_pages_le a.unit a.blocks (omega arith))

pub returns : goal.returns
returns c =
    let a = c.args in
    rw (c.both-3.ensures, c.both-2.ensures, c.both.ensures, c.is_unit_free-open.ensures, c.ends_within-within.ensures, c.memory_bytes.ensures, c.unit_memory.ensures, c.unit_base.ensures, c.unit_pages-pages.ensures) (sym (erase_as a.unit a.base a.done a.blocks a.stored))
