use mathlib.Core.Path.{◌≡◌}
use mathlib.Core.List.{◌++◌}
use lib.ListN.{drop}
use Rattle.words.specs.Lists.{up_to}
use Rattle.words.specs.Bits.{byte_of}
use Rattle.paper.specs.Map.{blank_page}
use Rattle.blank_map.proofs.build.Given as goal

abbrev pub invariant-loop-j : goal.invariant-loop-j
invariant-loop-j l = l.map ≡ up_to l.j (byte_of (blank_page l.array)) ++ drop l.j l.initial.map
