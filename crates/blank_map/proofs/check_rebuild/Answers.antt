-- `blank_map::check_rebuild` meets its contract: it makes the three tests in the paper's order.
use Rattle.std.proofs.Common.{arith}
use Rattle.std.proofs.lemmas.Grind.{common_steps}
use Rattle.paper.proofs.Refusals.{refuses, passes}
use Rattle.blank_map.proofs.Taken.{known_small, rebuild_as}
use Rattle.blank_map.proofs.check_rebuild.Goals as goal

pub returns-in_err-ensure : goal.returns-in_err-ensure
returns-in_err-ensure c =
    let a = c.args in
    rw (← rebuild_as a.blocks a.array a.map) (grind (arith, common_steps, refuses))

pub overflow_mul-size : goal.overflow_mul-size
overflow_mul-size c = omega (arith, known_small c.args.blocks c.size_ok.result c.size_ok.ensures c.in_ok-ensure.ensures)

pub returns-in_err-ensure-2 : goal.returns-in_err-ensure-2
returns-in_err-ensure-2 c =
    let a = c.args in
    rw (← rebuild_as a.blocks a.array a.map) (grind (arith, common_steps, refuses, passes))

pub overflow_mul-size-2 : goal.overflow_mul-size-2
overflow_mul-size-2 c = omega (arith, known_small c.args.blocks c.size_ok.result c.size_ok.ensures c.in_ok-ensure.ensures)

pub returns : goal.returns
returns c =
    let a = c.args in
    rw (← rebuild_as a.blocks a.array a.map) (grind (arith, passes))
