-- How long a printed text is at most.
use Prim.Native.Nat.{ℕ, ◌+◌, ◌*◌, ◌≤◌}
use mathlib.Core.Path.{◌≡◌, refl}
use mathlib.Core.Bool.{Bool, true, false, cond}
use mathlib.Core.List.{List, [], ◌∷◌}
use native.Mathlib.Omega.{arith}
use lib.Dec.{eqb}
use lib.ListN.{length, length-append}
use Rattle.paper.specs.Bench.{decimal, hex_pairs, place_text, answer_text, ticks_text}
use Rattle.paper.proofs.WearText.{decimal_fits}

-- a place has at most five digits, or it is one character
place_as : (t : Bool) (x n : ℕ) → length (cond t (x ∷ []) (decimal n)) ≤ 5
place_as true x n = omega arith
place_as false x n = decimal_fits n

place_fits : (first n : ℕ) → length (place_text first n) ≤ 5
unfolding place_text
place_fits first n = place_as (eqb first n) _ first

-- a byte has two hex digits
length_hex : (xs : List ℕ) → length (hex_pairs xs) ≡ 2 * length xs
length_hex [] = refl
length_hex (x ∷ xs) = let e = length_hex xs in omega arith

-- what is printed for a transaction of so many bytes, and for ticks
pub answer_fits : (number first : ℕ) (out : List ℕ) → length (answer_text number first out) ≤ 13 + 2 * length out
unfolding answer_text
answer_fits number first out =
    let a = decimal_fits number in
    let b = place_fits first (length out) in
    let c = length_hex out in
    simp length-append (omega arith)

pub ticks_fit : (number done : ℕ) → length (ticks_text number done) ≤ 12
unfolding ticks_text
ticks_fit number done =
    let a = decimal_fits number in
    let b = decimal_fits done in
    simp length-append (omega arith)
