-- AND of numbers, bit by bit: narrowing by one number and then by another.
use Prim.Native.Nat.{ℕ, ◌+◌, ◌*◌, ◌/◌, ◌%◌, min}
use mathlib.Core.Path.{◌≡◌, refl, sym, ap, ◌∙◌}
use native.Mathlib.Omega.{arith}
use lib.Bits.{bit_and, and_step, and_comm, and_self}
use lib.Arith.{bin_ind}

-- half of an AND, and what is left of it
halves : (a b : ℕ) → (bit_and a b / 2 ≡ bit_and (a / 2) (b / 2)) × (bit_and a b % 2 ≡ min (a % 2) (b % 2))
halves a b = let s = and_step a b in (omega (arith, s), omega (arith, s))

step_left : (a b c : ℕ) → bit_and (bit_and a b) c ≡ bit_and (bit_and (a / 2) (b / 2)) (c / 2) * 2 + min (min (a % 2) (b % 2)) (c % 2)
step_left a b c =
    and_step (bit_and a b) c
    ∙ ap (λ (t : ℕ). bit_and t (c / 2) * 2 + min (bit_and a b % 2) (c % 2)) (halves a b).0
    ∙ ap (λ (t : ℕ). bit_and (bit_and (a / 2) (b / 2)) (c / 2) * 2 + min t (c % 2)) (halves a b).1

and_assoc : (a b c : ℕ) → bit_and (bit_and a b) c ≡ bit_and a (bit_and b c)
and_assoc =
    bin_ind (λ (n : ℕ). (b c : ℕ) → bit_and (bit_and n b) c ≡ bit_and n (bit_and b c)) (λ b c. refl)
    (λ n ih b c.
    let r = and_comm n (bit_and b c) ∙ step_left b c n in
    let e = and_comm (bit_and (b / 2) (c / 2)) (n / 2) in
    omega (arith, step_left n b c, ih (b / 2) (c / 2), r, e))

-- the order of two does not matter
pub and_swap : (x a b : ℕ) → bit_and (bit_and x a) b ≡ bit_and (bit_and x b) a
and_swap x a b = and_assoc x a b ∙ ap (bit_and x) (and_comm a b) ∙ sym (and_assoc x b a)

-- nor does the same once more
pub and_again : (x a : ℕ) → bit_and (bit_and x a) a ≡ bit_and x a
and_again x a = and_assoc x a a ∙ ap (bit_and x) (and_self a)
