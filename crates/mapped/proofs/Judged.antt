-- 36 by the array alone: on an array of the part's size a map has a bit for each page exactly where it has as many bytes as the array has, divided by 2,048.
use Prim.Native.Nat.{ℕ, ◌/◌}
use mathlib.Core.Path.{◌≡◌, ap}
use mathlib.Core.Bool.{true, false}
use native.Mathlib.Omega.{arith}
use native.Mathlib.Nat.{suc-ne-zero}
use lib.Dec.{eqb}
use borrow.Author.Tests.{eqb-true}
use Rattle.words.specs.Logic.{◌and◌, unless, ◌or_else◌}
use Rattle.words.proofs.Tests.{and_r}
use Rattle.paper.specs.Sizes.{size_ok, array_bytes, map_bytes}
use Rattle.paper.specs.Numbers.{size_number, map_number}
use Rattle.beside.proofs.Judged as lent

module _ (b a m : ℕ) where
  map_is : (size_ok b and eqb a (array_bytes b)) ≡ true → map_number b m ≡ unless (eqb m (a / 2048)) 36
  unfolding map_number
  map_is k =
      let size = eqb-true a (array_bytes b) (and_r (size_ok b) (eqb a (array_bytes b)) k) in
      let e : map_bytes b ≡ a / 2048 = omega (arith, size) in
      ap (λ (j : ℕ). unless (eqb m j) 36) e

  pub passes : (rest : ℕ) → eqb m (a / 2048) ≡ true → (size_number b a or_else map_number b m or_else rest) ≡ (size_number b a or_else rest)
  passes = lent.passes b a (eqb m (a / 2048)) (map_number b m) 36 map_is

  pub judged : (rest : ℕ) → eqb m (a / 2048) ≡ false → (size_number b a or_else map_number b m or_else rest) ≡ (size_number b a or_else 36)
  judged rest f = lent.judged b a (eqb m (a / 2048)) (map_number b m) 36 map_is rest f (λ z. suc-ne-zero 35 z)
