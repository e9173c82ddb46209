-- `checker::has_run` meets its contract: the tests are the definition's.
use Rattle.checker.specs.InBytes.{has_run}
use Rattle.checker.proofs.has_run.Goals as goal

pub returns : goal.returns
unfolding has_run
returns c = cc
