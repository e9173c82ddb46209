use mathlib.Core.Path.{◌≡◌}
use lib.ListN.{drop}
use lib.Dec.{eqb}
use Rattle.words.specs.Lists.{all_zero}
use Rattle.words.specs.Logic.{◌and◌}
use Rattle.runs.proofs.zero_from.Given as goal

abbrev pub invariant-loop-byte : goal.invariant-loop-byte
invariant-loop-byte l =
    (eqb l.any 0 and all_zero (drop l.byte-index l.byte-items)) ≡ all_zero l.byte-items
