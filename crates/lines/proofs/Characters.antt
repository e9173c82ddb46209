-- What tests of characters say, one by one and of all characters of a text, and the ranges of digits.
use Rattle.std.proofs.Common.{◌≡◌, ℕ, suc, ◌≤◌, ◌<◌, Bool, true, false, ◌&&◌, ◌⊎◌, inl, inr, List, [], ◌∷◌, refl, sym, ◌∙◌, leb-true}
use mathlib.Core.Bool.{false≢true}
use Rattle.std.specs.Char.{is_ascii_digit}
use Rattle.std.specs.List.{list_all}
use Rattle.std.proofs.lemmas.Bool.Decides.{nat_tests}
use lib.Dec.{leb}
use lib.ListN.{length, drop, get_or, drop_of_length-le}
use lib.Seq.{drop-cons}
use Rattle.words.specs.Logic.{◌and◌, ◌or◌}
use Rattle.words.specs.Lists.{every}
use Rattle.words.proofs.Tests.{and_l, and_r, and_assoc, and_true, or_cases}
use Rattle.paper.specs.Bench.{is_digit, is_hex}

pub digit_range : (x : ℕ) → is_digit x ≡ true → (48 ≤ x) × (x ≤ 57)
unfolding is_digit
digit_range x e = (leb-true 48 x (and_l _ _ e), leb-true x 57 (and_r _ _ e))

letter_cases : (x : ℕ) → is_digit x ≡ false → (is_digit x ≡ true) ⊎ ((leb 65 x and leb x 70) ≡ true) → (65 ≤ x) × (x ≤ 70)
letter_cases x f (inl t) = absurd (false≢true (sym f ∙ t))
letter_cases x f (inr e) = (leb-true 65 x (and_l _ _ e), leb-true x 70 (and_r _ _ e))

-- a hex digit that is no decimal one is A to F
pub letter_range : (x : ℕ) → is_digit x ≡ false → is_hex x ≡ true → (65 ≤ x) × (x ≤ 70)
unfolding is_hex
letter_range x f e = letter_cases x f (or_cases _ _ e)

-- two tests with what the first tells, for `grind`
pub and_tells : (a b : Bool) → ((a ≡ true) × ((a and b) ≡ b)) ⊎ ((a ≡ false) × ((a and b) ≡ false))
unfolding ◌and◌
and_tells true b = inl (refl, refl)
and_tells false b = inr (refl, refl)

pub or_tells : (a b : Bool) → ((a ≡ true) × ((a or b) ≡ true)) ⊎ ((a ≡ false) × ((a or b) ≡ b))
unfolding ◌or◌
or_tells true b = inl (refl, refl)
or_tells false b = inr (refl, refl)

pub ruleset tests = (nat_tests, and_tells, or_tells)

-- the library's tests are the specification's
and_is : (a b : Bool) → (a && b) ≡ (a and b)
unfolding ◌and◌
and_is true b = refl
and_is false b = refl

pub every_all : (f : ℕ → Bool) (xs : List ℕ) → list_all f xs ≡ every f xs
every_all f [] = refl
every_all f (x ∷ xs) = rw (and_is, every_all f xs)

-- a test of every character: none is looked at yet, one more is, none is left
pub every_start : (f : ℕ → Bool) (xs : List ℕ) → (true and every f xs) ≡ every f xs
unfolding ◌and◌
every_start f xs = refl

pub every_more : (f : ℕ → Bool) (xs : List ℕ) (t : Bool) (i : ℕ) → i < length xs → (t and every f (drop i xs)) ≡ ((t and f (get_or xs i 0)) and every f (drop (suc i) xs))
every_more f xs t i h = rw (drop-cons xs i 0 h) (and_assoc t (f (get_or xs i 0)) (every f (drop (suc i) xs)))

pub every_end : (f : ℕ → Bool) (xs : List ℕ) (t : Bool) (i : ℕ) → length xs ≤ i → (t and every f (drop i xs)) ≡ t
every_end f xs t i h = rw (drop_of_length-le xs h) (and_true t)

pub every_digit : (xs : List ℕ) → list_all is_ascii_digit xs ≡ every is_digit xs
unfolding is_digit
every_digit [] = refl
every_digit (x ∷ xs) = simp (and_is, every_digit xs)
