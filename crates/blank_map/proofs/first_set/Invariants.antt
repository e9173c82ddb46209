use Prim.Native.Nat.{ℕ, ◌-◌, ◌≤◌}
use mathlib.Core.Path.{◌≡◌}
use lib.Dec.{leb}
use Rattle.words.specs.Logic.{◌and◌}
use Rattle.words.specs.Lists.{first_of}
use Rattle.words.specs.Bits.{bit_in}
use Rattle.blank_map.proofs.first_set.Given as goal

abbrev pub invariant-loop-at : goal.invariant-loop-at
invariant-loop-at l = (first_of l.at (λ (i : ℕ). leb l.from i and bit_in l.map i) ≡ l.at) × (l.at ≤ l.end) × (l.from ≤ l.at)

abbrev pub decreases-loop-at : goal.decreases-loop-at
decreases-loop-at l = l.end - l.at
