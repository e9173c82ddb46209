-- Bytes that are all zero: what an OR over them says.
use Prim.Native.Nat.{ℕ, suc, ◌+◌, ◌<◌, ◌≤◌}
use mathlib.Core.Path.{◌≡◌, refl}
use mathlib.Core.Bool.{Bool, true, false}
use mathlib.Core.List.{List}
use native.Mathlib.Omega.{arith}
use lib.Bits.{bit_or, bit_and, or_add_and, or_zero_l, and_le_r}
use lib.Dec.{eqb}
use lib.ListN.{length, drop, get_or, drop_of_length-le}
use lib.Seq.{drop-cons}
use borrow.Author.Tests.{eqb-true, eqb-false, ne_eqb}
use Rattle.words.specs.Logic.{◌and◌}
use Rattle.words.specs.Lists.{all_zero}
use Rattle.words.proofs.Tests.{and_assoc, and_true}

or_zero_as : (a b : ℕ) (t : Bool) → eqb a 0 ≡ t → eqb (bit_or a b) 0 ≡ (t and eqb b 0)
unfolding ◌and◌
or_zero_as a b true e = rw (eqb-true a 0 e, or_zero_l)
or_zero_as a b false e =
    ne_eqb _ _ (λ (z : bit_or a b ≡ 0).
    let l : bit_and a b ≤ b = and_le_r a b in
    let s : bit_or a b + bit_and a b ≡ a + b = or_add_and a b in
    eqb-false a 0 e (omega arith))

-- an OR is zero where both are
pub or_zero : (a b : ℕ) → eqb (bit_or a b) 0 ≡ (eqb a 0 and eqb b 0)
or_zero a b = or_zero_as a b (eqb a 0) refl

-- one byte more is looked at
pub zero_more : (xs : List ℕ) (any i : ℕ) → i < length xs → (eqb any 0 and all_zero (drop i xs)) ≡ (eqb (bit_or any (get_or xs i 0)) 0 and all_zero (drop (suc i) xs))
zero_more xs any i h = rw (drop-cons xs i 0 h, or_zero) (and_assoc (eqb any 0) (eqb (get_or xs i 0) 0) (all_zero (drop (suc i) xs)))

-- none is left
pub zero_end : (xs : List ℕ) (any i : ℕ) → length xs ≤ i → (eqb any 0 and all_zero (drop i xs)) ≡ eqb any 0
zero_end xs any i h = rw (drop_of_length-le xs h) (and_true (eqb any 0))

-- none is looked at yet
pub zero_start : (xs : List ℕ) (i : ℕ) → (eqb 0 0 and all_zero (drop i xs)) ≡ all_zero (drop i xs)
unfolding ◌and◌
zero_start xs i = refl
