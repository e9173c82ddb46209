use Rattle.words.specs.Logic.{◌or◌}
use Rattle.words.proofs.either.Goals as goal

pub returns-then-a : goal.returns-then-a
unfolding ◌or◌
returns-then-a c = rw c.if-a.true

pub returns-else-a : goal.returns-else-a
unfolding ◌or◌
returns-else-a c = rw c.if-a.false
