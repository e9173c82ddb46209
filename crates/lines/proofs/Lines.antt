-- What a line says.
use Prim.Native.Nat.{ℕ, ◌*◌, ◌-◌, ◌%◌, ◌≤◌, ◌<◌, min}
use mathlib.Core.Path.{◌≡◌, refl, ◌∙◌}
use mathlib.Core.Bool.{Bool, true, false, cond}
use mathlib.Core.List.{List}
use native.Mathlib.Omega.{arith}
use lib.ListN.{length, take, drop, get_or, length-drop, get_or-eq_default}
use lib.Seq.{take_all}
use borrow.Author.Tests.{leb-true, eqb-true}
use Rattle.types.specs.declared.Line.{Line}
use Rattle.types.specs.declared.Line.TheVariants.{Transaction, Ticks, Neither}
use Rattle.words.specs.Logic.{◌and◌}
use Rattle.words.proofs.Lists.{drop_min}
use Rattle.words.proofs.Tests.{and_l, and_r, and_false}
use Rattle.paper.specs.Bench.{letter_t, letter_l, letter_k, begins, numeral_from, pairs_ok, digits_ok, line_of}

-- what follows the first two characters, if they are there, whether or not they are
pub rest_from : (l : List ℕ) (s : ℕ) → s ≡ min 2 (length l) → take (length l - s) (drop s l) ≡ drop 2 l
rest_from l s h = take_all (length l - s) (drop s l) (simp length-drop (omega arith)) ∙ rw h (drop_min 2 l)

-- and where they are
pub rest_is : (l : List ℕ) → 2 ≤ length l → take (length l - 2) (drop 2 l) ≡ drop 2 l
rest_is l h = rest_from l 2 (omega arith)

-- a line of fewer than two characters begins with no letter and space
pub begins_short : (letter : ℕ) (l : List ℕ) → length l < 2 → begins letter l ≡ false
unfolding begins
begins_short letter l h =
    let e : get_or l 1 0 ≡ 0 = get_or-eq_default l 0 (omega arith) in
    rw e (and_false _)

-- the lengths of digits, and of pairs
pub digits_count : (xs : List ℕ) → digits_ok xs ≡ true → (1 ≤ length xs) × (length xs ≤ 5)
unfolding digits_ok
digits_count xs e = (leb-true _ _ (and_l _ _ e), leb-true _ _ (and_l _ _ (and_r _ _ e)))

pub pairs_count : (most : ℕ) (xs : List ℕ) → pairs_ok most xs ≡ true → (length xs % 2 ≡ 0) × (2 ≤ length xs) × (length xs ≤ 2 * most)
unfolding pairs_ok
pairs_count most xs e =
    (eqb-true _ _ (and_l _ _ e), leb-true _ _ (and_l _ _ (and_r _ _ e)), leb-true _ _ (and_l _ _ (and_r _ _ (and_r _ _ e))))

-- a line that says a transaction has pairs, and one that says ticks has digits
abbrev pub Says : ℕ → List ℕ → Line → Type 0
Says most l (Transaction wp) = pairs_ok most (drop 2 l) ≡ true
Says most l (Ticks n) = digits_ok (drop 2 l) ≡ true
Says most l Neither = Unit {0}

says_as : (most : ℕ) (l : List ℕ) (n : ℕ) (t u v : Bool) → (begins letter_t l and pairs_ok most (drop 2 l)) ≡ t → (begins letter_l l and pairs_ok most (drop 2 l)) ≡ u → (begins letter_k l and digits_ok (drop 2 l)) ≡ v
    → Says most l (cond t (Transaction true) (cond u (Transaction false) (cond v (Ticks n) Neither)))
says_as most l n true u v e f g = and_r _ _ e
says_as most l n false true v e f g = and_r _ _ f
says_as most l n false false true e f g = and_r _ _ g
says_as most l n false false false e f g = tt

pub line_says : (most : ℕ) (l : List ℕ) → Says most l (line_of most l)
unfolding line_of
line_says most l = says_as most l (numeral_from 0 (drop 2 l)) _ _ _ refl refl refl
