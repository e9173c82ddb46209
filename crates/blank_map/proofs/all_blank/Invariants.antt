use Prim.Native.Nat.{ℕ, ◌<◌}
use mathlib.Core.Path.{◌≡◌}
use lib.Dec.{eqb}
use lib.ListN.{get_or}
use Rattle.words.specs.Lists.{all_below}
use Rattle.blank_map.proofs.all_blank.Given as goal

abbrev pub invariant-loop-byte : goal.invariant-loop-byte
invariant-loop-byte l = (eqb l.all 255 ≡ all_below l.byte-index (λ (j : ℕ). eqb (get_or l.bytes j 0) 255)) × (l.all < 256)
