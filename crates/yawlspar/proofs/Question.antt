-- The question for one address, by the blocks that the protection question answers: where there are none the answer is 0, and where there are some the part has a size.
use Prim.Native.Nat.{ℕ, ◌/◌, ◌%◌, ◌≤◌}
use mathlib.Core.Path.{◌≡◌, sym, ap, ◌∙◌}
use Rattle.types.specs.declared.Blocks.{Blocks}
use Rattle.words.specs.Logic.{bit}
use Rattle.paper.specs.Sizes.{block_bytes, array_bytes}
use Rattle.paper.specs.Protection.{protected_blocks}
use Rattle.paper.specs.CBench.{protected_answer}
use Rattle.paper.proofs.Sizes.{size_range}
use Rattle.paper.proofs.Protected.{none_protected, some_answerable}

module _ (b : Blocks) (code n : ℕ) (told : b ≡ protected_blocks code n) where
  counted : b.count ≡ (protected_blocks code n).count
  counted = ap (λ (x : Blocks). x.count) told

  pub none_held : (address : ℕ) → b.count ≡ 0 → 0 ≡ protected_answer code n address
  none_held address z =
      sym (ap bit (none_protected code n (address % array_bytes n / block_bytes) (sym counted ∙ z)))

  pub some_held : (b.count ≡ 0 → ⊥) → (1 ≤ n) × (n ≤ 512)
  some_held h = size_range n (some_answerable code n (λ e. h (counted ∙ e))).size
