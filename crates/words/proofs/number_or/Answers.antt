use Rattle.std.proofs.Common.{sym}
use Rattle.words.specs.Logic.{unless, ◌or_else◌}
use Rattle.words.proofs.Tests.{or_else_on, or_else_first}
use Rattle.words.proofs.number_or.Goals as goal

pub returns-then-ok : goal.returns-then-ok
unfolding unless ◌or_else◌
returns-then-ok c = rw c.if-ok.true

pub returns-then-number-eq0 : goal.returns-then-number-eq0
unfolding unless
returns-then-number-eq0 c = rw c.if-ok.false (sym (or_else_on _ _ c.if-number-eq0.true))

pub returns-else-number-eq0 : goal.returns-else-number-eq0
unfolding unless
returns-else-number-eq0 c = rw c.if-ok.false (sym (or_else_first _ _ c.if-number-eq0.false))
