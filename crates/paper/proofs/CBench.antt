-- The protection question as C asks it: how first and count go with the question for one address, and that they are 0 when refused.
use Prim.Native.Nat.{ℕ, ◌+◌, ◌*◌, ◌/◌, ◌%◌, ◌<◌}
use mathlib.Core.Path.{◌≡◌, ap, ◌∙◌, subst}
use mathlib.Core.Logic.{◌↔◌}
use native.Mathlib.Omega.{arith}
use native.Mathlib.Nat.{mod-eq_of_lt}
use Rattle.types.specs.declared.Blocks.{Blocks}
use Rattle.words.specs.Logic.{bit}
use Rattle.words.proofs.Tests.{bit_one}
use Rattle.paper.specs.Sizes.{block_bytes, array_bytes}
use Rattle.paper.specs.CBench.{protection_number, protected_first, protected_count, protected_answer}
use Rattle.paper.proofs.Protected.{InBlocks, protected_exactly, refused_none}

module _ (code n : ℕ) where
  -- the question for an address says 1 exactly where its block, modulo the size, is one of the blocks from first on, count of them
  pub says_one : (address : ℕ) → (protected_answer code n address ≡ 1) ↔ InBlocks (protected_first code n) (protected_count code n) (address % array_bytes n / block_bytes)
  says_one address =
      let k = address % array_bytes n / block_bytes in
      (λ e. (protected_exactly code n k).0 (bit_one _ e), λ h. ap bit ((protected_exactly code n k).1 h))

  -- they are exactly the blocks of the part at whose bytes it says 1
  pub block_says_one : (k i : ℕ) → k < n → i < block_bytes → (protected_answer code n (k * block_bytes + i) ≡ 1) ↔ InBlocks (protected_first code n) (protected_count code n) k
  block_says_one k i l h =
      let m : (k * block_bytes + i) % array_bytes n ≡ k * block_bytes + i = mod-eq_of_lt (omega arith) in
      let e : (k * block_bytes + i) % array_bytes n / block_bytes ≡ k = ap (λ (a : ℕ). a / block_bytes) m ∙ omega arith in
      subst (λ (j : ℕ). (protected_answer code n (k * block_bytes + i) ≡ 1) ↔ InBlocks (protected_first code n) (protected_count code n) j) e (says_one (k * block_bytes + i))

  -- refused, both are 0
  pub refused_zero : (protection_number code n ≡ 0 → ⊥) → (protected_first code n ≡ 0) × (protected_count code n ≡ 0)
  refused_zero h =
      let e = refused_none code n h in
      (ap (λ (b : Blocks). b.first) e, ap (λ (b : Blocks). b.count) e)
