use mathlib.Core.Path.{◌≡◌}
use Rattle.words.specs.Lists.{first_of, differ_at}
use Rattle.runs.proofs.first_of_chunk.Given as goal

abbrev pub invariant-loop-i : goal.invariant-loop-i
invariant-loop-i l = first_of l.i (differ_at l.a l.b) ≡ l.i
