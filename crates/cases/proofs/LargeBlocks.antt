-- Which blocks of the large part some codes protect, by the answer of the protection question, and that a program goes by it.
use Prim.Native.Nat.{ℕ, zero, suc, ◌+◌, ◌*◌, ◌<◌}
use mathlib.Core.Path.{◌≡◌, refl, subst}
use mathlib.Core.Bool.{true, false}
use mathlib.Core.List.{List, [], ◌∷◌, ◌++◌}
use mathlib.Core.Logic.{◌↔◌}
use native.Mathlib.Omega.{arith}
use Rattle.types.specs.declared.Blocks.{Blocks}
use Rattle.types.specs.declared.Phase.TheVariants.{Idle}
use Rattle.words.specs.Logic.{◌and◌, ◌or◌, unless, ◌or_else◌}
use Rattle.paper.specs.Sizes.{size_ok, array_bytes, rows_bytes}
use Rattle.paper.specs.Address.{address_in, high_first}
use Rattle.paper.specs.BlockTable.{large_row, table_cell}
use Rattle.paper.specs.Protection.{whole_code, blocks_of, question, among, protected_blocks, protected}
use Rattle.paper.specs.Registers.{with_bytes}
use Rattle.paper.specs.Program.{no_data, program_of}
use Rattle.paper.specs.Soundness.{bits_ok, large_ok, page_ok, part_sound, sound_of}
use Rattle.paper.specs.Table.{decoded}
use Rattle.paper.specs.Numbers.{size_number, rows_number, length_number, output_number, sound_number, transaction_refusal, command_number}
use Rattle.paper.specs.Calls.{no_identity, no_stored, outcome_of, transacted}
use Rattle.paper.proofs.Protected.{InBlocks, protected_exactly}

-- what the question is asked protects so many blocks from the first on, and no other
abbrev pub Protects : ℕ → ℕ → ℕ → Type 0
Protects c first count = (k : ℕ) → (protected c 512 k ≡ true) ↔ InBlocks first count k

-- the answer to 12h with four address bytes and one data byte, of a part with BP code 1, this TBS, and WEL 1
abbrev pub program_number : ℕ → List ℕ → ℕ
program_number t a =
    (transacted (record {
      part = record { blocks = 512; stored = with_bytes (1 * 4 + 2) (2 * t) no_stored; wel = true; armed = false; asleep = false; live = 0; bank = 0 };
      identity = no_identity;
      phase = Idle;
      page = no_data;
    }) (array_bytes 512) rows_bytes true (0x12 ∷ (a ++ (0x00 ∷ []))) 6).number

pub record LargeBlocks : Type 0 where
  -- the question is asked the BP code with TBS above it
  pub asked : (c t : ℕ) → c < 16 → t < 2 → whole_code (with_bytes (c * 4) (2 * t) no_stored) ≡ c + 16 * t
  -- code 0: none
  pub none_top : Protects 0 0 0
  pub none_bottom : Protects 16 0 0
  -- code 1: block 511, or with TBS 1 block 0
  pub one_top : Protects 1 511 1
  pub one_bottom : Protects 17 0 1
  -- code 9: 256 to 511, or with TBS 1 0 to 255
  pub half_top : Protects 9 256 256
  pub half_bottom : Protects 25 0 256
  -- codes 10 to 15: all
  pub all_top : (d : ℕ) → d < 6 → Protects (10 + d) 0 512
  pub all_bottom : (d : ℕ) → d < 6 → Protects (26 + d) 0 512
  -- code 1, TBS 0: 12h is refused in block 511, and executed in block 0; TBS 1: the other way round
  pub program_top : (program_number 0 (0x01 ∷ 0xFF ∷ 0x00 ∷ 0x00 ∷ []) ≡ 28) × (program_number 0 (0x00 ∷ 0x00 ∷ 0x00 ∷ 0x00 ∷ []) ≡ 0)
  pub program_bottom : (program_number 1 (0x01 ∷ 0xFF ∷ 0x00 ∷ 0x00 ∷ []) ≡ 0) × (program_number 1 (0x00 ∷ 0x00 ∷ 0x00 ∷ 0x00 ∷ []) ≡ 28)

-- by the blocks that are answered
by_answer : (c first count : ℕ) → protected_blocks c 512 ≡ blocks_of (first, count) → Protects c first count
by_answer c first count e k =
    subst (λ (b : Blocks). (protected c 512 k ≡ true) ↔ InBlocks b.first b.count k) e (protected_exactly c 512 k)

all_answered : (d : ℕ) → d < 6 → (protected_blocks (10 + d) 512 ≡ blocks_of (0, 512)) × (protected_blocks (26 + d) 512 ≡ blocks_of (0, 512))
unfolding question large_row table_cell size_ok ◌or◌ unless ◌or_else◌
all_answered zero h = (refl, refl)
all_answered (suc zero) h = (refl, refl)
all_answered (suc (suc zero)) h = (refl, refl)
all_answered (suc (suc (suc zero))) h = (refl, refl)
all_answered (suc (suc (suc (suc zero)))) h = (refl, refl)
all_answered (suc (suc (suc (suc (suc zero))))) h = (refl, refl)
all_answered (suc (suc (suc (suc (suc (suc d)))))) h = absurd (omega arith)

pub large_blocks_lem : LargeBlocks
unfolding transacted outcome_of transaction_refusal size_number rows_number length_number output_number sound_number command_number sound_of part_sound bits_ok large_ok page_ok size_ok decoded address_in high_first question among large_row table_cell no_data program_of ◌and◌ ◌or◌ unless ◌or_else◌
large_blocks_lem =
    record {
      asked = λ c t h l. omega arith;
      none_top = by_answer 0 0 0 refl;
      none_bottom = by_answer 16 0 0 refl;
      one_top = by_answer 1 511 1 refl;
      one_bottom = by_answer 17 0 1 refl;
      half_top = by_answer 9 256 256 refl;
      half_bottom = by_answer 25 0 256 refl;
      all_top = λ d h. by_answer (10 + d) 0 512 (all_answered d h).0;
      all_bottom = λ d h. by_answer (26 + d) 0 512 (all_answered d h).1;
      program_top = (refl, refl);
      program_bottom = (refl, refl);
    }
