-- What tests and numbers that were put together say of their parts.
use mathlib.Core.Path.{◌≡◌, refl, sym}
use mathlib.Core.Bool.{Bool, true, false, false≢true}
use mathlib.Core.Logic.{◌⊎◌, inl, inr}
use Prim.Native.Nat.{ℕ, zero, suc, ◌≤◌}
use native.Mathlib.Omega.{arith}
use lib.Dec.{leb}
use borrow.Author.Tests.{leb-true, le-leb}
use Rattle.words.specs.Logic.{◌and◌, ◌or◌, bit, unless, ◌or_else◌}

pub and_l : (a b : Bool) → (a and b) ≡ true → a ≡ true
unfolding ◌and◌
and_l true b e = refl
and_l false b e = e

pub and_r : (a b : Bool) → (a and b) ≡ true → b ≡ true
unfolding ◌and◌
and_r true b e = e
and_r false b e = absurd (false≢true e)

pub and_in : {a b : Bool} → a ≡ true → b ≡ true → (a and b) ≡ true
unfolding ◌and◌
and_in {a} {b} p q = rw (p, q)

pub and_assoc : (a b c : Bool) → (a and b and c) ≡ ((a and b) and c)
unfolding ◌and◌
and_assoc true b c = refl
and_assoc false b c = refl

pub and_true : (a : Bool) → (a and true) ≡ a
unfolding ◌and◌
and_true true = refl
and_true false = refl

pub and_false : (a : Bool) → (a and false) ≡ false
unfolding ◌and◌
and_false true = refl
and_false false = refl

pub or_true : (a : Bool) → (a or true) ≡ true
unfolding ◌or◌
or_true true = refl
or_true false = refl

pub or_false : (a : Bool) → (a or false) ≡ a
unfolding ◌or◌
or_false true = refl
or_false false = refl

pub or_cases : (a b : Bool) → (a or b) ≡ true → (a ≡ true) ⊎ (b ≡ true)
unfolding ◌or◌
or_cases true b e = inl refl
or_cases false b e = inr e

pub or_assoc : (a b c : Bool) → ((a or b) or c) ≡ (a or b or c)
unfolding ◌or◌
or_assoc true b c = refl
or_assoc false b c = refl

-- neither of two
pub nor_l : (a b : Bool) → (a or b) ≡ false → a ≡ false
unfolding ◌or◌
nor_l true b e = e
nor_l false b e = refl

pub nor_r : (a b : Bool) → (a or b) ≡ false → b ≡ false
unfolding ◌or◌
nor_r true b e = absurd (false≢true (sym e))
nor_r false b e = e

pub or_else_on : (m n : ℕ) → m ≡ 0 → (m or_else n) ≡ n
unfolding ◌or_else◌
or_else_on m n e = rw e

pub or_else_first : (m n : ℕ) → (m ≡ 0 → ⊥) → (m or_else n) ≡ m
unfolding ◌or_else◌
or_else_first zero n h = absurd (h refl)
or_else_first (suc m) n h = refl

pub or_else_none : (m : ℕ) → (m or_else 0) ≡ m
unfolding ◌or_else◌
or_else_none zero = refl
or_else_none (suc m) = refl

pub suc_not_zero : {n : ℕ} → suc n ≡ 0 → ⊥
suc_not_zero e = omega arith

-- no number: the test passed
pub unless_zero : (b : Bool) (n : ℕ) → unless b (suc n) ≡ 0 → b ≡ true
unfolding unless
unless_zero true n e = refl
unless_zero false n e = absurd (suc_not_zero e)

-- no number: neither of two
pub or_else_zero : (m n : ℕ) → (m or_else n) ≡ 0 → (m ≡ 0) × (n ≡ 0)
unfolding ◌or_else◌
or_else_zero zero n e = (refl, e)
or_else_zero (suc m) n e = absurd (suc_not_zero e)

-- two tests of one fact
pub same_tests : (a b : Bool) → (a ≡ true → b ≡ true) → (b ≡ true → a ≡ true) → a ≡ b
same_tests true b f g = sym (f refl)
same_tests false true f g = g refl
same_tests false false f g = refl

pub same_leb : (a b c d : ℕ) → (a ≤ b → c ≤ d) → (c ≤ d → a ≤ b) → leb a b ≡ leb c d
same_leb a b c d f g =
    same_tests _ _ (λ e. le-leb c d (f (leb-true a b e))) (λ e. le-leb a b (g (leb-true c d e)))

-- a test that can't pass fails
pub fails : (t : Bool) → (t ≡ true → ⊥) → t ≡ false
fails true h = absurd (h refl)
fails false h = refl

-- 1 for yes alone
pub bit_one : (b : Bool) → bit b ≡ 1 → b ≡ true
bit_one true e = refl
bit_one false e = absurd (suc_not_zero (sym e))

pub bit_le : (b : Bool) → bit b ≤ 1
bit_le true = omega arith
bit_le false = omega arith
