-- What holds of each of the five sizes holds of every size: they are 1 to 512 blocks, and a chip's pages are at most as many as a tick call may ask ticks. And the two memories.
use Prim.Native.Nat.{ℕ, ◌*◌, ◌≤◌}
use mathlib.Core.Path.{◌≡◌, refl, subst⁻¹}
use mathlib.Core.Bool.{Bool, true, false, cond, false≢true}
use mathlib.Core.Logic.{⊎_elim}
use native.Mathlib.Omega.{arith}
use borrow.Author.Tests.{eqb-true}
use Rattle.types.specs.declared.Memory.{Memory}
use Rattle.types.specs.declared.Memory.TheVariants.{Array, Rows}
use Rattle.words.proofs.Tests.{or_cases}
use Rattle.paper.specs.Sizes.{is_large, size_ok, same_memory, tick_limit}

pub by_size : (P : ℕ → Type 0) → P 1 → P 4 → P 8 → P 16 → P 512 → (n : ℕ) → size_ok n ≡ true → P n
unfolding size_ok
by_size P one four eight sixteen large n h =
    ⊎_elim
    (λ e. subst⁻¹ P (eqb-true n 1 e) one)
    (λ h'.
    ⊎_elim
    (λ e. subst⁻¹ P (eqb-true n 4 e) four)
    (λ h''.
    ⊎_elim
    (λ e. subst⁻¹ P (eqb-true n 8 e) eight)
    (λ h'''.
    ⊎_elim
    (λ e. subst⁻¹ P (eqb-true n 16 e) sixteen)
    (λ e. subst⁻¹ P (eqb-true n 512 e) large)
    (or_cases _ _ h'''))
    (or_cases _ _ h''))
    (or_cases _ _ h'))
    (or_cases _ _ h)

pub size_range : (n : ℕ) → size_ok n ≡ true → (1 ≤ n) × (n ≤ 512)
size_range =
    by_size (λ (n : ℕ). (1 ≤ n) × (n ≤ 512)) (omega arith) (omega arith) (omega arith) (omega arith) (omega arith)

limit_as : (t : Bool) → (4096 ≤ cond t 131072 4096) × (cond t 131072 4096 ≤ 131072)
limit_as true = omega arith
limit_as false = omega arith

pub limit_range : (n : ℕ) → (4096 ≤ tick_limit n) × (tick_limit n ≤ 131072)
limit_range n = limit_as (is_large n)

pub chip_few : (n : ℕ) → size_ok n ≡ true → n * 256 ≤ tick_limit n
chip_few =
    by_size (λ (n : ℕ). n * 256 ≤ tick_limit n) (omega arith) (omega arith) (omega arith) (omega arith) (omega arith)

-- a memory is the same as itself
pub same_self : (m : Memory) → same_memory m m ≡ true
same_self Array = refl
same_self Rows = refl

-- two memories that are the same are one
pub same_is : (m w : Memory) → same_memory m w ≡ true → m ≡ w
same_is Array Array e = refl
same_is Array Rows e = absurd (false≢true e)
same_is Rows Array e = absurd (false≢true e)
same_is Rows Rows e = refl
