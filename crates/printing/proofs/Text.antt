-- Text that is printed piece by piece is printed whole.
use Prim.Native.Nat.{ℕ, zero, suc, ◌+◌, ◌/◌, ◌%◌, ◌≤◌, ◌<◌, min}
use mathlib.Core.Path.{◌≡◌, refl, sym, ap, ◌∙◌}
use mathlib.Core.Bool.{Bool, true, false}
use mathlib.Core.List.{List, [], ◌∷◌, ◌++◌, append_assoc}
use native.Mathlib.Omega.{arith}
use native.Mathlib.Nat.{add-zero}
use lib.Dec.{leb}
use lib.ListN.{length, set, take, drop, get_or, length-append}
use lib.Seq.{sets, sets-eq, set_out, take_at, length-sets}
use borrow.Author.Tests.{leb-true, leb-false}
use Rattle.std.proofs.Common.{◌⊎◌, inl, inr}
use Rattle.std.proofs.lemmas.Bool.Decides.{nat_tests}
use Rattle.words.specs.Logic.{◌or◌}
use Rattle.words.proofs.Lists.{sets_out}
use Rattle.words.proofs.Allowed.{agree}
use Rattle.paper.specs.Bench.{hex_digit, hex_pairs}
use Rattle.printing.specs.Printed.{Prints}

sets_append : (o : List ℕ) (at : ℕ) (t u : List ℕ) → sets o at (t ++ u) ≡ sets (sets o at t) (at + length t) u
sets_append o at [] u = rw add-zero
sets_append o at (x ∷ t) u =
    let e : at + suc (length t) ≡ suc at + length t = omega arith in
    rw e (sets_append (set o at x) (suc at) t u)

sets_min_as : (o : List ℕ) (at : ℕ) (t : List ℕ) (b : Bool) → leb at (length o) ≡ b → sets o (min (length o) at) t ≡ sets o at t
sets_min_as o at t true e =
    let l : at ≤ length o = leb-true at (length o) e in
    let m : min (length o) at ≡ at = omega arith in
    rw m
sets_min_as o at t false e =
    let l : length o < at = leb-false at (length o) e in
    let m : min (length o) at ≡ length o = omega arith in
    rw m (sets_out o (length o) t (omega arith) ∙ sym (sets_out o at t (omega arith)))

-- a place past the end is the end
sets_min : (o : List ℕ) (at : ℕ) (t : List ℕ) → sets o (min (length o) at) t ≡ sets o at t
sets_min o at t = sets_min_as o at t (leb at (length o)) refl

pub prints_empty : (o : List ℕ) (at : ℕ) → at ≤ length o → Prints o at [] o at
prints_empty o at h = record { written = refl; place = omega arith }

pub prints_none : (o : List ℕ) (at : ℕ) → Prints o at [] o (min (length o) at)
prints_none o at = record { written = refl; place = ap (λ (n : ℕ). min (length o) n) (sym (add-zero at)) }

pub prints_one : (o : List ℕ) (at x : ℕ) → at < length o → Prints o at (x ∷ []) (set o at x) (at + 1)
prints_one o at x h = record { written = refl; place = omega arith }

pub prints_past : (o : List ℕ) (at x : ℕ) → length o ≤ at → Prints o at (x ∷ []) o (length o)
prints_past o at x h = record { written = sym (set_out o at x h); place = omega arith }

-- a text, and then another
pub prints_then : {o t o₁ u o₂ : List ℕ} {at at₁ at₂ : ℕ} → Prints o at t o₁ at₁ → Prints o₁ at₁ u o₂ at₂ → Prints o at (t ++ u) o₂ at₂
prints_then {o} {t} {o₁} {u} {o₂} {at} {at₁} {at₂} p q =
    let n : length o₁ ≡ length o = ap length p.written ∙ length-sets o at t in
    let m : length (t ++ u) ≡ length t + length u = length-append t u in
    let e : at₁ ≡ min (length o₁) (at + length t) = rw n p.place in
    let a : at₁ ≡ min (length o) (at + length t) = p.place in
    let b : at₂ ≡ min (length o₁) (at₁ + length u) = q.place in
    let s : sets o₁ at₁ u ≡ sets o₁ (at + length t) u = rw e (sets_min o₁ (at + length t) u) in
    let v : sets o₁ (at + length t) u ≡ sets o at (t ++ u) = rw p.written (sym (sets_append o at t u)) in
    record { written = q.written ∙ s ∙ v; place = omega arith }

-- a text, and then two of which the first belongs to it
pub prints_join : {o t o₁ o₂ : List ℕ} {at at₁ at₂ : ℕ} (u v : List ℕ) → Prints o at t o₁ at₁ → Prints o₁ at₁ (u ++ v) o₂ at₂ → Prints o at (t ++ u ++ v) o₂ at₂
prints_join {t} u v p q = rw (append_assoc t u v) (prints_then p q)

-- four texts, of which the middle two are one word, and so are the last two
pub word_joins : (x t u v : List ℕ) → x ++ t ++ (u ++ v) ≡ x ++ (t ++ u) ++ v
word_joins x t u v = append_assoc x t (u ++ v) ∙ ap (λ (y : List ℕ). x ++ y) (sym (append_assoc t u v)) ∙ sym (append_assoc x (t ++ u) v)

-- one of two tests, with what the first tells, for `grind`
pub or_tells : (a b : Bool) → ((a ≡ true) × ((a or b) ≡ true)) ⊎ ((a ≡ false) × ((a or b) ≡ b))
unfolding ◌or◌
or_tells true b = inl (refl, refl)
or_tells false b = inr (refl, refl)

pub ruleset tests = (nat_tests, or_tells)

-- one byte more, as a pair
pub pair_more : (xs : List ℕ) (i : ℕ) → i < length xs → hex_pairs (take i xs) ++ (hex_digit (get_or xs i 0 / 16) ∷ hex_digit (get_or xs i 0 % 16) ∷ []) ≡ hex_pairs (take (suc i) xs)
pair_more [] i h = absurd (omega arith)
pair_more (x ∷ xs) zero h = refl
pair_more (x ∷ xs) (suc i) h = ap (λ (t : List ℕ). hex_digit (x / 16) ∷ hex_digit (x % 16) ∷ t) (pair_more xs i (omega arith))

pub prints_length : {o t o₁ : List ℕ} {at at₁ : ℕ} → Prints o at t o₁ at₁ → length o₁ ≡ length o
prints_length {o} {t} {o₁} {at} {at₁} p = ap length p.written ∙ length-sets o at t

pub prints_within : {o t o₁ : List ℕ} {at at₁ : ℕ} → Prints o at t o₁ at₁ → at₁ ≤ length o₁
prints_within {o} {t} {o₁} {at} {at₁} p =
    let n : length o₁ ≡ length o = prints_length p in
    omega (arith, p.place)

-- a text that an output has room for is printed whole
pub prints_whole : (o t o' : List ℕ) (at : ℕ) → length t ≤ length o → Prints o 0 t o' at → (at ≡ length t) × (take at o' ≡ t)
prints_whole o t o' at h p =
    let n : at ≡ length t = omega (arith, p.place) in
    let e : o' ≡ t ++ drop (0 + length t) o = p.written ∙ sets-eq t o 0 (omega arith) in
    (n, rw (e, n) (take_at t (drop (0 + length t) o) (length t) refl))

-- a text printed from one place of one output leaves one output, and ends at one place
pub one_output : {o t o₁ o₂ : List ℕ} {at at₁ at₂ : ℕ} → Prints o at t o₁ at₁ → Prints o at t o₂ at₂ → o₁ ≡ o₂
one_output p q = agree p.written q.written

pub one_place : {o t o₁ o₂ : List ℕ} {at at₁ at₂ : ℕ} → Prints o at t o₁ at₁ → Prints o at t o₂ at₂ → at₁ ≡ at₂
one_place p q = agree p.place q.place
