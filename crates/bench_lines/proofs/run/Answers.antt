-- One line further, and none is left.
use Rattle.bench_lines.proofs.Course.{goes_on}
use Rattle.std.proofs.Common.{◌<◌, length, arith}
use Rattle.std.proofs.lemmas.Bool.Decides.{nat_tests}
use Rattle.bench_lines.proofs.run.Goals as goal

pub loop-rest-preserved : goal.loop-rest-preserved
loop-rest-preserved c =
    let l = c.loop-rest in
    let first = c.first_line.ensures in
    let ran = c.run_line-ran.ensures in
    let some : 0 < length l.rest.now = grind (arith, nat_tests, c.is_empty.ensures, c.loop-rest-test.ensures) in
    (goes_on _ _ _ _ _ _ _ _ l.invariant.0 _ _ _ _ _ some first.line first.rest ran.after ran.output, omega arith, omega arith)
