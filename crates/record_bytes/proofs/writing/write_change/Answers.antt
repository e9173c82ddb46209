-- `record_bytes::writing::write_change` meets its contract: an arm for each change; a buffer of another length is left.
use borrow.Author.Tests.{eq-eqb, ne_eqb}
use Rattle.record_bytes.specs.Layout.{change_written}
use Rattle.record_bytes.proofs.writing.write_change.Goals as goal

pub returns-in_default : goal.returns-in_default
unfolding change_written
returns-in_default c = rw (ne_eqb _ _ c.in_default.ensures.cases)

pub returns-in-Same : goal.returns-in-Same
unfolding change_written
returns-in-Same c = let w = c.in-Some.ensures.cases in rw (c.in-Same.is, eq-eqb _ _ w.long, w.same)

pub returns-in-Marked : goal.returns-in-Marked
unfolding change_written
returns-in-Marked c = let w = c.in-Some.ensures.cases in rw (c.in-Marked.is, eq-eqb _ _ w.long, c.bit_of.ensures, w.same)

pub returns-in-Live : goal.returns-in-Live
unfolding change_written
returns-in-Live c = let w = c.in-Some.ensures.cases in rw (c.in-Live.is, eq-eqb _ _ w.long, w.same)

pub returns-in-Anew : goal.returns-in-Anew
unfolding change_written
returns-in-Anew c = let w = c.in-Some.ensures.cases in rw (c.in-Anew.is, eq-eqb _ _ w.long, c.write_part.ensures, w.same)

pub returns-in-Runs : goal.returns-in-Runs
returns-in-Runs c = let w = c.in-Some.ensures.cases in rw (c.in-Runs.is, c.write_runs.ensures, w.same)

pub returns-in-Halts : goal.returns-in-Halts
unfolding change_written
returns-in-Halts c = let w = c.in-Some.ensures.cases in rw (c.in-Halts.is, eq-eqb _ _ w.long, c.write_halted.ensures, w.same)

pub returns-in-GoesOn : goal.returns-in-GoesOn
unfolding change_written
returns-in-GoesOn c = let w = c.in-Some.ensures.cases in rw (c.in-GoesOn.is, eq-eqb _ _ w.long, c.write_resumed.ensures, w.same)

pub returns-in-Clears : goal.returns-in-Clears
unfolding change_written
returns-in-Clears c = let w = c.in-Some.ensures.cases in rw (c.in-Clears.is, eq-eqb _ _ w.long, c.write_cleared.ensures, w.same)
