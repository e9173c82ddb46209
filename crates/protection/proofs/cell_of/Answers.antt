-- `protection::cell_of` meets its contract: each size has its column, and a number of blocks that is no size fails all four tests.
use borrow.Author.Tests.{ne_eqb}
use Rattle.paper.specs.BlockTable.{cell_of}
use Rattle.protection.proofs.cell_of.Goals as goal

pub returns-in-16 : goal.returns-in-16
unfolding cell_of
returns-in-16 c = rw c.in-16.is

pub returns-in-8 : goal.returns-in-8
unfolding cell_of
returns-in-8 c = rw c.in-8.is

pub returns-in-4 : goal.returns-in-4
unfolding cell_of
returns-in-4 c = rw c.in-4.is

pub returns-in-1 : goal.returns-in-1
unfolding cell_of
returns-in-1 c = rw c.in-1.is

pub returns-in_default : goal.returns-in_default
unfolding cell_of
returns-in_default c =
    let n = c.args.blocks in
    let r = c.in_default.in_default-own.rest in
    rw (ne_eqb n 16 r.0.0.0.1, ne_eqb n 8 r.0.0.1, ne_eqb n 4 r.0.1, ne_eqb n 1 r.1)
