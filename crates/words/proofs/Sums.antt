-- Sums of the first numbers of a list.
use Prim.Native.Nat.{ℕ, zero, suc, ◌+◌, ◌<◌, ◌≤◌}
use mathlib.Core.Path.{◌≡◌, refl}
use mathlib.Core.Bool.{Bool, true, false}
use mathlib.Core.List.{List, ◌∷◌}
use native.Mathlib.Omega.{arith}
use borrow.Author.Tests.{leb-true, leb-false}
use lib.Dec.{leb}
use lib.ListN.{get_or}
use Rattle.words.specs.Lists.{sum_to}

-- a sum of fewer numbers is no greater
sum_as : (ns : List ℕ) (k n : ℕ) (t : Bool) → leb k n ≡ t → k ≤ suc n → (k ≤ n → sum_to ns k ≤ sum_to ns n) → sum_to ns k ≤ sum_to ns (suc n)
sum_as ns k n true e h less = omega (arith, less (leb-true _ _ e))
sum_as ns k n false e h less =
    let f : n < k = leb-false _ _ e in
    let same : k ≡ suc n = omega arith in
    rw same (omega arith)

pub sum_le : (ns : List ℕ) (k n : ℕ) → k ≤ n → sum_to ns k ≤ sum_to ns n
sum_le ns k zero h =
    let none : k ≡ 0 = omega arith in
    rw none (omega arith)
sum_le ns k (suc n) h = sum_as ns k n (leb k n) refl h (sum_le ns k n)

-- so a number and those before it lie within the sum of more
pub sum_within : (ns : List ℕ) (n k : ℕ) → k < n → sum_to ns k + get_or ns k 0 ≤ sum_to ns n
sum_within ns n k h = sum_le ns (suc k) n h

-- a sum with one number more in front
pub sum_cons : (n : ℕ) (ns : List ℕ) (k : ℕ) → sum_to (n ∷ ns) (suc k) ≡ n + sum_to ns k
sum_cons n ns zero = omega arith
sum_cons n ns (suc k) = omega (arith, sum_cons n ns k)
