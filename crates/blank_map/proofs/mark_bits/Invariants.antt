use Prim.Native.Nat.{ℕ, ◌+◌, ◌*◌}
use mathlib.Core.Path.{◌≡◌}
use mathlib.Core.Bool.{true}
use Rattle.words.specs.Bits.{put_bits}
use Rattle.blank_map.proofs.mark_bits.Given as goal

abbrev pub invariant-loop-i : goal.invariant-loop-i
invariant-loop-i l = l.map ≡ put_bits l.i (l.j * 8 + l.place) (λ (q : ℕ). true) l.initial.map
