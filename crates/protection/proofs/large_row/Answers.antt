-- `protection::large_row` meets its contract: each arm is the row that the table has for its code, and a number above 15 has none.
use borrow.Author.Tests.{ne_eqb}
use Rattle.paper.specs.BlockTable.{large_row}
use Rattle.protection.proofs.large_row.Goals as goal

pub returns-in-0 : goal.returns-in-0
unfolding large_row
returns-in-0 c = rw c.in-0.is

pub returns-in-1 : goal.returns-in-1
unfolding large_row
returns-in-1 c = rw c.in-1.is

pub returns-in-2 : goal.returns-in-2
unfolding large_row
returns-in-2 c = rw c.in-2.is

pub returns-in-3 : goal.returns-in-3
unfolding large_row
returns-in-3 c = rw c.in-3.is

pub returns-in-4 : goal.returns-in-4
unfolding large_row
returns-in-4 c = rw c.in-4.is

pub returns-in-5 : goal.returns-in-5
unfolding large_row
returns-in-5 c = rw c.in-5.is

pub returns-in-6 : goal.returns-in-6
unfolding large_row
returns-in-6 c = rw c.in-6.is

pub returns-in-7 : goal.returns-in-7
unfolding large_row
returns-in-7 c = rw c.in-7.is

pub returns-in-8 : goal.returns-in-8
unfolding large_row
returns-in-8 c = rw c.in-8.is

pub returns-in-9 : goal.returns-in-9
unfolding large_row
returns-in-9 c = rw c.in-9.is

pub returns-in-10 : goal.returns-in-10
unfolding large_row
returns-in-10 c = rw c.in-10.is

pub returns-in-11 : goal.returns-in-11
unfolding large_row
returns-in-11 c = rw c.in-11.is

pub returns-in-12 : goal.returns-in-12
unfolding large_row
returns-in-12 c = rw c.in-12.is

pub returns-in-13 : goal.returns-in-13
unfolding large_row
returns-in-13 c = rw c.in-13.is

pub returns-in-14 : goal.returns-in-14
unfolding large_row
returns-in-14 c = rw c.in-14.is

pub returns-in-15 : goal.returns-in-15
unfolding large_row
returns-in-15 c = rw c.in-15.is

pub returns-in_default : goal.returns-in_default
unfolding large_row
returns-in_default c =
    rw (
      ne_eqb _ _ c.in_default.in_default-own.rest.0.0.0.0.0.0.0.0.0.0.0.0.0.0.0.1,
      ne_eqb _ _ c.in_default.in_default-own.rest.0.0.0.0.0.0.0.0.0.0.0.0.0.0.1,
      ne_eqb _ _ c.in_default.in_default-own.rest.0.0.0.0.0.0.0.0.0.0.0.0.0.1,
      ne_eqb _ _ c.in_default.in_default-own.rest.0.0.0.0.0.0.0.0.0.0.0.0.1,
      ne_eqb _ _ c.in_default.in_default-own.rest.0.0.0.0.0.0.0.0.0.0.0.1,
      ne_eqb _ _ c.in_default.in_default-own.rest.0.0.0.0.0.0.0.0.0.0.1,
      ne_eqb _ _ c.in_default.in_default-own.rest.0.0.0.0.0.0.0.0.0.1,
      ne_eqb _ _ c.in_default.in_default-own.rest.0.0.0.0.0.0.0.0.1,
      ne_eqb _ _ c.in_default.in_default-own.rest.0.0.0.0.0.0.0.1,
      ne_eqb _ _ c.in_default.in_default-own.rest.0.0.0.0.0.0.1,
      ne_eqb _ _ c.in_default.in_default-own.rest.0.0.0.0.0.1,
      ne_eqb _ _ c.in_default.in_default-own.rest.0.0.0.0.1,
      ne_eqb _ _ c.in_default.in_default-own.rest.0.0.0.1,
      ne_eqb _ _ c.in_default.in_default-own.rest.0.0.1,
      ne_eqb _ _ c.in_default.in_default-own.rest.0.1,
      ne_eqb _ _ c.in_default.in_default-own.rest.1,
    )
