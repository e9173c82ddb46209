-- `checker::ends_idle` meets its contract: the phase is the one in the bytes.
use Rattle.checker.proofs.ends_idle.Goals as goal

pub returns : goal.returns
returns c = cc
