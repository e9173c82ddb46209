-- `script::add_up` meets its contract: a length that is more than what is left makes the sum too large.
use Rattle.std.proofs.Common.{arith}
use Rattle.words.proofs.Sums.{sum_within}
use Rattle.script.proofs.add_up.Goals as goal

pub returns-in_default : goal.returns-in_default
returns-in_default c = grind (arith, sum_within c.args.lengths.now _ _ c.loop-n-test.true, c.checked_sub.ensures, c.in_default.not-Some)
