-- `ticks::tick_part` meets its contract: the refusal decides, and a call that is not refused is lent a page of each memory and more.
use borrow.Author.Tests.{eq-eqb}
use mathlib.Core.Path.{sym}
use Rattle.paper.proofs.Refusals.{refused}
use Rattle.ticks.proofs.OneMemory.{lent_pages}
use Rattle.ticks.specs.Waited.{waited_of, waited_memory}
use Rattle.ticks.proofs.tick_part.Goals as goal

pub returns-in-Err : goal.returns-in-Err
unfolding waited_of waited_memory
returns-in-Err c =
    let n = c.in-Err.ensures in
    let z = refused c.in-Err.refusal in
    record { answer = rw (← n, z, c.number.ensures); array = rw (← n, z); rows = rw (← n, z) }

pub run-requires : goal.run-requires
run-requires c = lent_pages _ _ _ _ _ (sym c.in_default.ensures)

pub returns : goal.returns
unfolding waited_of waited_memory
returns c =
    let z = eq-eqb _ _ (sym c.in_default.ensures) in
    let r = c.run.ensures in
    record { answer = rw z r.0; array = rw z r.1; rows = rw z r.2 }
