use Prim.Native.Nat.{◌+◌, ◌-◌, ◌*◌}
use mathlib.Core.Path.{◌≡◌}
use Rattle.words.specs.Bits.{bits_from}
use Rattle.paper.specs.Map.{blank_page}
use Rattle.blank_map.proofs.byte_of.Given as goal

abbrev pub invariant-loop-k : goal.invariant-loop-k
invariant-loop-k l = l.byte ≡ bits_from (8 - l.k) (blank_page l.array) (l.j * 8 + l.k)
