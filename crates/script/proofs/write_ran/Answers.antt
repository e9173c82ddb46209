-- `script::write_ran` meets its contract: the same leaves the bytes, what runs is written, and ticks change nothing else.
use Rattle.script.proofs.OneStep.{same_written}
use Rattle.script.proofs.write_ran.Goals as goal

pub returns-in-Same : goal.returns-in-Same
returns-in-Same c = rw c.in-Same.is (same_written c.args.bytes.now)

pub returns-in-Marked : goal.returns-in-Marked
returns-in-Marked c = absurd (rw c.in-Marked.is at c.requires)

pub returns-in-Live : goal.returns-in-Live
returns-in-Live c = absurd (rw c.in-Live.is at c.requires)

pub returns-in-Anew : goal.returns-in-Anew
returns-in-Anew c = absurd (rw c.in-Anew.is at c.requires)

pub returns-in-Runs : goal.returns-in-Runs
returns-in-Runs c = rw c.in-Runs.is c.write_runs.ensures

pub returns-in-Halts : goal.returns-in-Halts
returns-in-Halts c = absurd (rw c.in-Halts.is at c.requires)

pub returns-in-GoesOn : goal.returns-in-GoesOn
returns-in-GoesOn c = absurd (rw c.in-GoesOn.is at c.requires)

pub returns-in-Clears : goal.returns-in-Clears
returns-in-Clears c = absurd (rw c.in-Clears.is at c.requires)
