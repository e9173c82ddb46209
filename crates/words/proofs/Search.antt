-- The first number that passes a test, and all numbers below one.
use Prim.Native.Nat.{ℕ, zero, suc, ◌<◌, ◌≤◌}
use mathlib.Core.Path.{◌≡◌, refl, ap, ◌∙◌}
use mathlib.Core.Bool.{Bool, true, false, cond}
use native.Mathlib.Omega.{arith}
use borrow.Author.Tests.{ltb-true, ltb-false, lt-ltb, le-ltb, leb-true, leb-false}
use lib.Dec.{leb, ltb}
use Rattle.words.specs.Lists.{first_of, all_below}
use Rattle.words.proofs.Tests.{and_l, and_r, and_in}

-- what holds below a number and of it holds below the next
below_next : (P : ℕ → Type 0) (n j : ℕ) (t : Bool) → leb (suc j) n ≡ t → j < suc n → ((j < n) → P j) → P n → P j
below_next P n j true e l f p = f (leb-true _ _ e)
below_next P n j false e l f p =
    let g : n < suc j = leb-false _ _ e in
    let same : j ≡ n = omega arith in
    rw same p

module _ (test : ℕ → Bool) where
  -- of one number more: the first of those before, the number itself, or none
  pub first_found : (n : ℕ) → first_of n test < n → first_of (suc n) test ≡ first_of n test
  unfolding first_of
  first_found n l = rw (lt-ltb (first_of n test) n l) refl

  pub first_new : (n : ℕ) → n ≤ first_of n test → first_of (suc n) test ≡ cond (test n) n (suc n)
  unfolding first_of
  first_new n l = rw (le-ltb (first_of n test) n l) refl

  first_le_as : (n : ℕ) (t u : Bool) → ltb (first_of n test) n ≡ t → test n ≡ u → first_of (suc n) test ≤ suc n
  first_le_as n true u e f = let l : first_of n test < n = ltb-true _ _ e in rw (first_found n l) (omega arith)
  first_le_as n false true e f = rw (first_new n (ltb-false _ _ e), f) (omega arith)
  first_le_as n false false e f = rw (first_new n (ltb-false _ _ e), f) (omega arith)

  pub first_le : (n : ℕ) → first_of n test ≤ n
  unfolding first_of
  first_le zero = omega arith
  first_le (suc n) = first_le_as n (ltb (first_of n test) n) (test n) refl refl

  -- where none passes
  pub first_none : (n : ℕ) → ((j : ℕ) → j < n → test j ≡ false) → first_of n test ≡ n
  unfolding first_of
  first_none zero h = refl
  first_none (suc n) h =
      let e : first_of n test ≡ n = first_none n (λ j l. h j (omega arith)) in
      let f : test n ≡ false = h n (omega arith) in
      first_new n (omega arith) ∙ rw f refl

  -- where one passes and none before it
  first_at_as : (n k : ℕ) (t : Bool) → leb (suc k) n ≡ t → k < suc n → test k ≡ true → ((j : ℕ) → j < k → test j ≡ false) → (k < n → first_of n test ≡ k) → first_of (suc n) test ≡ k
  first_at_as n k true e l p h before =
      let r = before (leb-true _ _ e) in
      first_found n (rw r (leb-true _ _ e)) ∙ r
  first_at_as n k false e l p h before =
      let g : n < suc k = leb-false _ _ e in
      let same : n ≡ k = omega arith in
      let none : first_of n test ≡ n = first_none n (λ j m. h j (omega arith)) in
      first_new n (omega arith) ∙ rw same (rw p refl)

  pub first_at : (n k : ℕ) → k < n → test k ≡ true → ((j : ℕ) → j < k → test j ≡ false) → first_of n test ≡ k
  first_at zero k l p h = absurd (omega arith)
  first_at (suc n) k l p h = first_at_as n k (leb (suc k) n) refl l p h (λ m. first_at n k m p h)

  -- none before it passes, and it does
  first_before_as : (n j : ℕ) (t u : Bool) → ltb (first_of n test) n ≡ t → test n ≡ u → j < first_of (suc n) test → (j < first_of n test → test j ≡ false) → test j ≡ false
  first_before_as n j true u e f l before =
      let r : first_of (suc n) test ≡ first_of n test = first_found n (ltb-true _ _ e) in
      before (omega arith)
  first_before_as n j false true e f l before =
      let g : n ≤ first_of n test = ltb-false _ _ e in
      let r : first_of (suc n) test ≡ n = first_new n g ∙ rw f refl in
      before (omega arith)
  first_before_as n j false false e f l before =
      let g : n ≤ first_of n test = ltb-false _ _ e in
      let r : first_of (suc n) test ≡ suc n = first_new n g ∙ rw f refl in
      below_next (λ (i : ℕ). test i ≡ false) n j (leb (suc j) n) refl (omega arith) (λ m. before (omega arith)) f

  pub first_before : (n j : ℕ) → j < first_of n test → test j ≡ false
  unfolding first_of
  first_before zero j l = absurd (omega arith)
  first_before (suc n) j l = first_before_as n j (ltb (first_of n test) n) (test n) refl refl l (first_before n j)

  first_passes_as : (n : ℕ) (t u : Bool) → ltb (first_of n test) n ≡ t → test n ≡ u → first_of (suc n) test < suc n → (first_of n test < n → test (first_of n test) ≡ true) → test (first_of (suc n) test) ≡ true
  first_passes_as n true u e f l before = ap test (first_found n (ltb-true _ _ e)) ∙ before (ltb-true _ _ e)
  first_passes_as n false true e f l before =
      ap test (first_new n (ltb-false _ _ e) ∙ rw f refl) ∙ f
  first_passes_as n false false e f l before =
      let r : first_of (suc n) test ≡ suc n = first_new n (ltb-false _ _ e) ∙ rw f refl in
      absurd (omega arith)

  pub first_passes : (n : ℕ) → first_of n test < n → test (first_of n test) ≡ true
  first_passes zero l = absurd (omega arith)
  first_passes (suc n) l = first_passes_as n (ltb (first_of n test) n) (test n) refl refl l (first_passes n)

  -- where none of the first i passes: the next one does, or does not
  module _ (i : ℕ) (none : first_of i test ≡ i) where
    pub first_next : (n : ℕ) → i < n → test i ≡ true → first_of n test ≡ i
    first_next n l p = first_at n i l p (λ j m. first_before i j (rw none m))

    pub none_next : test i ≡ false → first_of (suc i) test ≡ suc i
    none_next f = first_new i (omega arith) ∙ rw f refl

  -- all pass exactly if each does
  pub all_at : (n j : ℕ) → all_below n test ≡ true → j < n → test j ≡ true
  unfolding all_below
  all_at zero j h l = absurd (omega arith)
  all_at (suc n) j h l =
      below_next (λ (i : ℕ). test i ≡ true) n j (leb (suc j) n) refl l (λ m. all_at n j (and_l _ _ h) m) (and_r _ _ h)

  pub all_in : (n : ℕ) → ((j : ℕ) → j < n → test j ≡ true) → all_below n test ≡ true
  unfolding all_below
  all_in zero h = refl
  all_in (suc n) h = and_in (all_in n (λ j l. h j (omega arith))) (h n (omega arith))

-- tests that agree find the same, and are passed by all or by not all alike
pub first_same : (f g : ℕ → Bool) (n : ℕ) → ((j : ℕ) → j < n → f j ≡ g j) → first_of n f ≡ first_of n g
unfolding first_of
first_same f g zero h = refl
first_same f g (suc n) h = rw (first_same f g n (λ j l. h j (omega arith)), h n (omega arith)) refl

pub all_same : (f g : ℕ → Bool) (n : ℕ) → ((j : ℕ) → j < n → f j ≡ g j) → all_below n f ≡ all_below n g
unfolding all_below
all_same f g zero h = refl
all_same f g (suc n) h = rw (all_same f g n (λ j l. h j (omega arith)), h n (omega arith)) refl
