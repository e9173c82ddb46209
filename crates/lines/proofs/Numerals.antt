-- Digits and hex pairs, read one after another.
use Prim.Native.Nat.{ℕ, zero, suc, ◌+◌, ◌*◌, ◌/◌, ◌<◌, ◌≤◌, min}
use mathlib.Core.Path.{◌≡◌, refl, ◌∙◌}
use mathlib.Core.Bool.{Bool, true, false}
use mathlib.Core.List.{List, [], ◌∷◌, append-nil}
use native.Mathlib.Omega.{arith}
use lib.Dec.{leb}
use lib.ListN.{length, drop, length-drop}
use lib.Seq.{sets, sets-eq, drop-length}
use borrow.Author.Tests.{leb-true, leb-false}
use Rattle.words.proofs.Lists.{sets_out}
use Rattle.paper.specs.Bench.{pairs}

-- 10 times 10, so often
abbrev pub tens : ℕ → ℕ
tens zero = 1
tens (suc i) = 10 * tens i

-- a number of at most five digits
pub tens_most : (i : ℕ) → i ≤ 5 → tens i ≤ 100000
tens_most zero h = omega arith
tens_most (suc zero) h = omega arith
tens_most (suc (suc zero)) h = omega arith
tens_most (suc (suc (suc zero))) h = omega arith
tens_most (suc (suc (suc (suc zero)))) h = omega arith
tens_most (suc (suc (suc (suc (suc zero))))) h = omega arith
tens_most (suc (suc (suc (suc (suc (suc i)))))) h = absurd (omega arith)

-- a character alone is no pair
pairs_none : (xs : List ℕ) → length xs < 2 → pairs xs ≡ []
pairs_none [] h = refl
pairs_none (x ∷ []) h = refl
pairs_none (x ∷ y ∷ xs) h = absurd (omega arith)

-- pairs that are put into bs from a place on change nothing where the pairs or the places are at an end
pairs_end_as : (xs bs : List ℕ) (i : ℕ) (t : Bool) → leb (length bs) i ≡ t → min (length xs / 2) (length bs) ≤ i → sets bs i (pairs (drop (2 * i) xs)) ≡ bs
pairs_end_as xs bs i true e h = sets_out bs i (pairs (drop (2 * i) xs)) (leb-true (length bs) i e)
pairs_end_as xs bs i false e h =
    let l : i < length bs = leb-false (length bs) i e in
    rw (pairs_none (drop (2 * i) xs) (simp length-drop (omega arith)))

pub pairs_end : (xs bs : List ℕ) (i : ℕ) → min (length xs / 2) (length bs) ≤ i → sets bs i (pairs (drop (2 * i) xs)) ≡ bs
pairs_end xs bs i h = pairs_end_as xs bs i (leb (length bs) i) refl h

-- two characters are a byte
pub length_pairs : (xs : List ℕ) → length (pairs xs) ≡ length xs / 2
length_pairs [] = omega arith
length_pairs (h ∷ []) = omega arith
length_pairs (h ∷ l ∷ xs) = let e = length_pairs xs in omega arith

-- pairs for which there is just room are all that is left
pub pairs_whole : (xs bs : List ℕ) → length xs ≡ 2 * length bs → sets bs 0 (pairs xs) ≡ pairs xs
pairs_whole xs bs h =
    let n : 0 + length (pairs xs) ≡ length bs = omega (arith, length_pairs xs) in
    sets-eq (pairs xs) bs 0 (omega arith) ∙ rw (n, drop-length, append-nil)
