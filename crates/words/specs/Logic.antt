-- Tests, and the lowest number that applies.
use Rattle.std.specs.Prelude.{ℕ, zero, suc, Bool, true, false, cond, eqb}

infixr 30 ◌and◌
infixr 28 ◌or◌
infixr 25 ◌or_else◌
-- both of two tests. (It stays shut, so that a proof's `_` is found from `a and b`.)
unfoldable pub ◌and◌ : Bool → Bool → Bool
true and b = b
false and b = false

-- one of two tests
unfoldable pub ◌or◌ : Bool → Bool → Bool
true or b = true
false or b = b

-- 1 for yes, 0 for no
abbrev pub bit : Bool → ℕ
bit true = 1
bit false = 0

-- the number n where the test fails, else 0
unfoldable pub unless : Bool → ℕ → ℕ
unless true n = 0
unless false n = n

-- the first number that is not 0
unfoldable pub ◌or_else◌ : ℕ → ℕ → ℕ
zero or_else n = n
suc m or_else n = suc m

-- a where the number is 0, else b
abbrev pub when_zero : {A : Type 0} → ℕ → A → A → A
when_zero n a b = cond (eqb n 0) a b
