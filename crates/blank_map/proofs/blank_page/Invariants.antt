use Prim.Native.Nat.{ℕ, ◌+◌, ◌*◌}
use mathlib.Core.Path.{◌≡◌}
use mathlib.Core.Bool.{true}
use lib.Dec.{eqb}
use lib.ListN.{get_or}
use Rattle.words.specs.Lists.{all_below}
use Rattle.blank_map.proofs.blank_page.Given as goal

abbrev pub invariant-loop-k : goal.invariant-loop-k
invariant-loop-k l = all_below (l.k * 64) (λ (i : ℕ). eqb (get_or l.array (l.page * 256 + i) 0) 255) ≡ true
