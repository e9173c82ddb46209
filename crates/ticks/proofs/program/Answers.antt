-- `ticks::program` meets its contract: the test decides; the page is lent on, and goes back to its place.
use Rattle.std.proofs.Common.{◌+◌, ◌-◌, sym, ◌∙◌, arith, leb-true, length-take, length-drop}
use Rattle.words.proofs.Tests.{and_l, and_r}
use Rattle.ticks.proofs.OneMemory.{narrowed_back}
use Rattle.ticks.proofs.program.Goals as goal

pub overflow_add-page : goal.overflow_add-page
overflow_add-page c = omega (arith, leb-true _ _ (and_r _ _ (sym c.program_within-within.ensures ∙ c.if-within.true)))

pub slice_bounds-page-end : goal.slice_bounds-page-end
slice_bounds-page-end c = leb-true _ _ (and_r _ _ (sym c.program_within-within.ensures ∙ c.if-within.true))

pub narrow_page-requires : goal.narrow_page-requires
narrow_page-requires c =
    let h = sym c.program_within-within.ensures ∙ c.if-within.true in
    let fits = leb-true _ _ (and_r _ _ h) in
    (leb-true _ _ (and_l _ _ h), simp (length-take, length-drop) (omega (arith, fits)))

pub returns-then-within : goal.returns-then-within
returns-then-within c =
    let a = c.args in
    let w = c.program_within-within.ensures in
    let fits = leb-true _ _ (and_r _ _ (sym w ∙ c.if-within.true)) in
    rw (← w, c.if-within.true) (narrowed_back a.base a.start a.done a.kept.now a.memory.now fits a.count (a.base + 256 - a.base) (omega arith) _ c.narrow_page.ensures)

pub returns-else-within : goal.returns-else-within
returns-else-within c = rw (← c.program_within-within.ensures, c.if-within.false)
