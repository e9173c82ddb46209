use mathlib.Core.Path.{◌≡◌}
use lib.ListN.{drop}
use Rattle.words.specs.Logic.{◌and◌}
use Rattle.words.specs.Lists.{every}
use Rattle.paper.specs.Bench.{is_hex}
use Rattle.lines.proofs.all_hex.Given as goal

abbrev pub invariant-loop-x : goal.invariant-loop-x
invariant-loop-x l = (l.all and every is_hex (drop l.x-index l.text)) ≡ every is_hex l.text
