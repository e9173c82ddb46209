-- `record::power_up` meets its contract: the refusal decides which record is made.
use borrow.Author.Tests.{eq-eqb}
use mathlib.Core.Path.{sym}
use Rattle.paper.proofs.Refusals.{refused}
use Rattle.paper.specs.Calls.{powered_up}
use Rattle.record.proofs.power_up.Goals as goal

pub returns-in-Err : goal.returns-in-Err
unfolding powered_up
returns-in-Err c = rw (← c.in-Err.ensures, refused c.in-Err.refusal, c.zero_record.ensures, c.number.ensures)

pub returns : goal.returns
unfolding powered_up
returns c = rw (eq-eqb _ _ (sym c.in_default.ensures), c.make_fresh.ensures)
