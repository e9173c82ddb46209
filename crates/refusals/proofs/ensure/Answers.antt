-- `refusals::ensure` meets its contract.
use Rattle.words.specs.Logic.{unless}
use Rattle.refusals.proofs.ensure.Goals as goal

pub returns-then-passes : goal.returns-then-passes
unfolding unless
returns-then-passes c = rw c.if-passes.true

pub returns-else-passes : goal.returns-else-passes
unfolding unless
returns-else-passes c = rw c.if-passes.false
