-- Bytes that are compared: with others, and with those of a number.
use Prim.Native.Nat.{ℕ, ◌*◌, ◌^◌, ◌<◌, ◌≤◌}
use mathlib.Core.Path.{◌≡◌, refl, sym, ap, ◌∙◌}
use mathlib.Core.Bool.{Bool, true, false, false≢true}
use mathlib.Core.List.{List, [], ◌∷◌, ◌++◌}
use native.Mathlib.Omega.{arith}
use lib.Dec.{eqb}
use lib.ListN.{length, take, get_or}
use borrow.Author.Tests.{eq-eqb, eqb-true}
use Rattle.words.specs.Logic.{◌and◌}
use Rattle.words.proofs.Tests.{and_l, and_r, and_assoc}
use Rattle.paper.specs.Address.{high_first}
use Rattle.address.specs.Bytes.{high_first_bytes}
use Rattle.address.proofs.Bytes.{number_back, bytes_back}
use Rattle.record_bytes.specs.Read.{same_bytes}

pub same_bytes_lem : (xs : List ℕ) → same_bytes xs xs ≡ true
unfolding ◌and◌
same_bytes_lem [] = refl
same_bytes_lem (x ∷ xs) = rw (eq-eqb x x refl) (same_bytes_lem xs)

pub one_list : (xs ys : List ℕ) → same_bytes xs ys ≡ true → xs ≡ ys
one_list [] [] e = refl
one_list [] (y ∷ ys) e = absurd (false≢true e)
one_list (x ∷ xs) [] e = absurd (false≢true e)
one_list (x ∷ xs) (y ∷ ys) e = rw (eqb-true x y (and_l _ _ e), one_list xs ys (and_r _ _ e))

-- two parts are compared one by one
pub same_append : (xs ys us vs : List ℕ) → length xs ≡ length ys → same_bytes (xs ++ us) (ys ++ vs) ≡ (same_bytes xs ys and same_bytes us vs)
unfolding ◌and◌
same_append [] [] us vs e = refl
same_append [] (y ∷ ys) us vs e = absurd (let b : ⊥ = omega arith in b)
same_append (x ∷ xs) [] us vs e = absurd (let b : ⊥ = omega arith in b)
same_append (x ∷ xs) (y ∷ ys) us vs e =
    rw (same_append xs ys us vs (omega arith)) (and_assoc (eqb x y) (same_bytes xs ys) (same_bytes us vs))

-- two tests of one fact
same_test : (a b : Bool) → (a ≡ true → b ≡ true) → (b ≡ true → a ≡ true) → a ≡ b
same_test true b f g = sym (f refl)
same_test false true f g = g refl
same_test false false f g = refl

module _ (l : List ℕ) (byte : (j : ℕ) → get_or l j 0 < 256) where
  -- the bytes of a number are compared as the number is with theirs
  pub same_number : (k n : ℕ) → k ≤ length l → n < 2 ^ (8 * k) → same_bytes (high_first_bytes k n) (take k l) ≡ eqb n (high_first (take k l))
  same_number k n h f =
      same_test _ _ (λ e. eq-eqb n (high_first (take k l)) (sym (number_back k n f) ∙ ap high_first (one_list _ _ e)))
      (λ e. rw (eqb-true n (high_first (take k l)) e, bytes_back l byte k h) (same_bytes_lem (take k l)))
