-- What is left and the sum so far make the total.
use Rattle.std.proofs.Common.{◌≡◌, ◌+◌}
use Rattle.words.specs.Lists.{sum_to}
use Rattle.script.proofs.add_up.Given as goal

abbrev pub invariant-loop-n : goal.invariant-loop-n
invariant-loop-n l = l.left + sum_to l.lengths l.n-index ≡ l.total
