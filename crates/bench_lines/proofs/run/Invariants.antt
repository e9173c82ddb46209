-- What the lines that are left leave and print is what all lines do.
use Rattle.bench_lines.proofs.Course.{Goes}
use Rattle.paper.specs.Board.{board_of}
use Rattle.std.proofs.Common.{◌≡◌, length}
use Rattle.bench_lines.proofs.run.Given as goal

abbrev pub invariant-loop-rest : goal.invariant-loop-rest
invariant-loop-rest l =
    Goes l.most l.input (board_of l.initial.ran.next l.initial.array l.initial.rows) l.initial.output l.rest (board_of l.ran.next l.array l.rows) l.output l.ran.printed × (length l.sent ≡ 4096) × (length l.back ≡ 4096)

abbrev pub decreases-loop-rest : goal.decreases-loop-rest
decreases-loop-rest l = length l.rest
