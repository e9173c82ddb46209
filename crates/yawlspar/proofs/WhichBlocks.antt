-- What a C program may rely on that asks which blocks a code protects, over what the contracts of the functions on numbers allow: first and count are exactly the blocks at whose addresses yawlspar_protected says 1.
use Prim.Native.Nat.{ℕ, ◌+◌, ◌*◌, ◌/◌, ◌%◌, ◌≤◌, ◌<◌}
use mathlib.Core.Path.{◌≡◌, ◌∙◌}
use mathlib.Core.Logic.{◌↔◌}
use Rattle.words.proofs.Allowed.{Follows}
use Rattle.paper.specs.Sizes.{block_bytes, array_bytes}
use Rattle.paper.specs.CBench.{protected_first, protected_count}
use Rattle.paper.proofs.Protected.{InBlocks, protected_inside, none_from_zero}
use Rattle.paper.proofs.CBench.{says_one, block_says_one, refused_zero}
use Rattle.yawlspar.proofs.numbers.yawlspar_protection_number.Reads as protection-number
use Rattle.yawlspar.proofs.numbers.yawlspar_protected_first.Reads as protected-first
use Rattle.yawlspar.proofs.numbers.yawlspar_protected_count.Reads as protected-count
use Rattle.yawlspar.proofs.numbers.yawlspar_protected.Reads as protected

-- the first and the count that calls with one code and size n answered. (Code, size and address are a call's arguments.)
module _ (code n first count : ℕ) where
  pub record WhichBlocks : Type 0 where
    -- yawlspar_protected says 1 exactly where the block of the address, modulo the size, is one of them
    pub at_address : Follows protected.Learnt (λ κ a x s. a.0 ≡ code → a.1.0 ≡ n → (x ≡ 1) ↔ InBlocks first count (a.1.1.0 % array_bytes n / block_bytes))
    -- so they are exactly the blocks k of the part at whose bytes it says 1
    pub in_block : (k i : ℕ) → k < n → i < block_bytes → Follows protected.Learnt (λ κ a x s. a.0 ≡ code → a.1.0 ≡ n → a.1.1.0 ≡ k * block_bytes + i → (x ≡ 1) ↔ InBlocks first count k)
    -- they end within the part
    pub inside : first + count ≤ n
    -- a count of 0 goes with a first block of 0
    pub none : count ≡ 0 → first ≡ 0
    -- both are 0 where yawlspar_protection_number is not
    pub refused : Follows protection-number.Learnt (λ κ a x s. a.0 ≡ code → a.1.0 ≡ n → (x ≡ 0 → ⊥) → (first ≡ 0) × (count ≡ 0))

told : (code n first count : ℕ) → first ≡ protected_first code n → count ≡ protected_count code n → WhichBlocks code n first count
told code n first count f c =
    record {
      at_address = λ κ a x s l d e. rw (f, c, l, d, e) (says_one code n a.1.1.0);
      in_block = λ k i h j κ a x s l d e g. rw (f, c, l, d, e, g) (block_says_one code n k i h j);
      inside = rw (f, c) (protected_inside code n);
      none = rw (f, c) (none_from_zero code n);
      refused = λ κ a x s l d e h. rw (f, c) (refused_zero code n (λ z. h (l ∙ rw (d, e) z)));
    }

pub which_blocks : Follows protected-first.Learnt (λ κ a f s.
    Follows protected-count.Learnt (λ κ' b c s'. b.0 ≡ a.0 → b.1.0 ≡ a.1.0 → WhichBlocks a.0 a.1.0 f c))
which_blocks κ a f s l κ' b c s' m d e = told a.0 a.1.0 f c l (m ∙ rw (d, e))
