-- `wear_records::within` meets its contract: each field is the definition's.
use Rattle.words.specs.Logic.{◌and◌}
use Rattle.wear_records.specs.Thin.{clipped}
use Rattle.wear_records.proofs.within.Goals as goal

pub returns-then-tally : goal.returns-then-tally
unfolding clipped ◌and◌
returns-then-tally c = rw (c.min.ensures, c.min-first.ensures, c.if-tally.true)

pub returns-else-tally : goal.returns-else-tally
unfolding clipped ◌and◌
returns-else-tally c = rw (c.min.ensures, c.min-first.ensures, c.if-tally.false)
