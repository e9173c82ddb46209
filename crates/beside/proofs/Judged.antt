-- The number of what is lent beside the memory, by the array alone: where it doesn't fit the array, it is 1 or that number; where it does, the plain call's.
use Prim.Native.Nat.{ℕ}
use mathlib.Core.Path.{◌≡◌, refl, sym, ap, ◌∙◌}
use mathlib.Core.Bool.{Bool, true, false}
use lib.Dec.{eqb}
use Rattle.words.specs.Logic.{◌and◌, unless, ◌or_else◌}
use Rattle.words.proofs.Tests.{or_else_on, or_else_first, suc_not_zero}
use Rattle.paper.specs.Sizes.{size_ok, array_bytes}
use Rattle.paper.specs.Numbers.{size_number}

-- an array of a bytes, a part of b blocks, a test whether what is lent fits the array, and the number x of it, which is k on an array of the part's size where it doesn't
module _ (b a : ℕ) (fits : Bool) (x k : ℕ) (is : (size_ok b and eqb a (array_bytes b)) ≡ true → x ≡ unless fits k) where
  abbrev known : Bool
  known = size_ok b and eqb a (array_bytes b)

  passes_as : (rest : ℕ) (t : Bool) → known ≡ t → fits ≡ true → (unless t 1 or_else x or_else rest) ≡ (unless t 1 or_else rest)
  unfolding unless ◌or_else◌
  passes_as rest true e f = rw (is e, f) refl
  passes_as rest false e f = refl

  pub passes : (rest : ℕ) → fits ≡ true → (size_number b a or_else x or_else rest) ≡ (size_number b a or_else rest)
  unfolding size_number
  passes rest f = passes_as rest known refl f

  judged_as : (rest : ℕ) (t : Bool) → known ≡ t → fits ≡ false → (k ≡ 0 → ⊥) → (unless t 1 or_else x or_else rest) ≡ (unless t 1 or_else k)
  unfolding unless
  judged_as rest true e f some =
      or_else_on 0 (x or_else rest) refl
      ∙ ap (λ (j : ℕ). j or_else rest) (is e ∙ ap (λ (t : Bool). unless t k) f)
      ∙ or_else_first k rest some
      ∙ sym (or_else_on 0 k refl)
  judged_as rest false e f some = or_else_first 1 (x or_else rest) suc_not_zero ∙ sym (or_else_first 1 k suc_not_zero)

  pub judged : (rest : ℕ) → fits ≡ false → (k ≡ 0 → ⊥) → (size_number b a or_else x or_else rest) ≡ (size_number b a or_else k)
  unfolding size_number
  judged rest f some = judged_as rest known refl f some
