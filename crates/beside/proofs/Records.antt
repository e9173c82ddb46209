-- 35 by the array alone: on an array of the part's size there is a record for each sector exactly where there are as many as the array has bytes, divided by 4,096.
use Prim.Native.Nat.{ℕ, ◌/◌}
use mathlib.Core.Path.{◌≡◌, ap}
use mathlib.Core.Bool.{true, false}
use native.Mathlib.Omega.{arith}
use native.Mathlib.Nat.{suc-ne-zero}
use lib.Dec.{eqb}
use borrow.Author.Tests.{eqb-true}
use Rattle.words.specs.Logic.{◌and◌, unless, ◌or_else◌}
use Rattle.words.proofs.Tests.{and_r}
use Rattle.paper.specs.Sizes.{size_ok, array_bytes, array_sectors}
use Rattle.paper.specs.Numbers.{size_number, wear_number}
use Rattle.beside.proofs.Judged as lent

module _ (b a w : ℕ) where
  wear_is : (size_ok b and eqb a (array_bytes b)) ≡ true → wear_number b w ≡ unless (eqb w (a / 4096)) 35
  unfolding wear_number
  wear_is k =
      let size = eqb-true a (array_bytes b) (and_r (size_ok b) (eqb a (array_bytes b)) k) in
      let e : array_sectors b ≡ a / 4096 = omega (arith, size) in
      ap (λ (j : ℕ). unless (eqb w j) 35) e

  pub passes : (rest : ℕ) → eqb w (a / 4096) ≡ true → (size_number b a or_else wear_number b w or_else rest) ≡ (size_number b a or_else rest)
  passes = lent.passes b a (eqb w (a / 4096)) (wear_number b w) 35 wear_is

  pub judged : (rest : ℕ) → eqb w (a / 4096) ≡ false → (size_number b a or_else wear_number b w or_else rest) ≡ (size_number b a or_else 35)
  judged rest f = lent.judged b a (eqb w (a / 4096)) (wear_number b w) 35 wear_is rest f (λ z. suc-ne-zero 34 z)
