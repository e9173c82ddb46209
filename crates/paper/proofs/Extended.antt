-- The extended read register bit by bit: what 81h shows, what 83h, 82h, power-up and reset leave in the live byte, and what 28 sets in it.
use Rattle.std.specs.Prelude.{None}
use Prim.Native.Nat.{ℕ, ◌/◌, ◌%◌, ◌^◌, max}
use mathlib.Core.Path.{◌≡◌, refl, ap, ◌∙◌}
use mathlib.Core.Bool.{Bool, true}
use native.Mathlib.Omega.{arith}
use lib.Bits.{bit_or, or_step, or_shr, or_zero_r}
use Rattle.types.specs.declared.Memory.{Memory}
use Rattle.types.specs.declared.EraseUnit.{EraseUnit}
use Rattle.types.specs.declared.Register.{Register}
use Rattle.types.specs.declared.Effect.TheVariants.{Programs, Erases, Writes}
use Rattle.types.specs.declared.Phase.{Phase}
use Rattle.types.specs.declared.Stored.{Stored}
use Rattle.types.specs.declared.Part.{Part}
use Rattle.types.specs.declared.Record.{Record}
use Rattle.words.proofs.Tests.{bit_le}
use Rattle.paper.specs.Registers.{live_loaded, live_set, live_cleared, live_failed, extended_read}
use Rattle.paper.specs.Phases.{is_busy}
use Rattle.paper.specs.Records.{wip}
use Rattle.paper.specs.Soundness.{sound}
use Rattle.paper.specs.Commands.{errors_of}
use Rattle.paper.specs.Numbers.{free_ok}
use Rattle.paper.proofs.Soundness.{sound_parts}
use Rattle.paper.proofs.Bits.{bits_parts}

-- what 81h shows: bits 7..5 of the live byte, bit 4 1, the error bits 3 E_ERR, 2 P_ERR and 1 PROT_E of the live byte, bit 0 that of status
pub record Shown (live status x : ℕ) : Type 0 where
  pub bits_7_5 : x / 32 ≡ live / 32
  pub bit_4 : x / 16 % 2 ≡ 1
  pub e_err : x / 8 % 2 ≡ live / 8 % 2
  pub p_err : x / 4 % 2 ≡ live / 4 % 2
  pub prot_e : x / 2 % 2 ≡ live / 2 % 2
  pub bit_0 : x % 2 ≡ status % 2

pub read_shows : (live status : ℕ) → Shown live status (extended_read live status)
read_shows live status =
    record { bits_7_5 = omega arith; bit_4 = omega arith; e_err = omega arith; p_err = omega arith; prot_e = omega arith; bit_0 = omega arith }

-- and in a sound record that is WIP
pub read_wip : (p : Record) → sound p ≡ true → extended_read p.part.live p.part.stored.status % 2 ≡ wip p.phase
read_wip p s =
    let e = (bits_parts p.phase p.part.wel p.part.stored (sound_parts p s).bits).wip_bit in
    omega (arith, e, bit_le (is_busy p.phase))

-- 83h sets bits 7..5 and keeps the error bits; 82h keeps bits 7..5 and clears the error bits; power-up and reset load bits 7..5 from the stored byte, with the error bits 0
pub set_bits : (b live : ℕ) → (live_set b live / 32 ≡ b / 32) × (live_set b live % 32 ≡ live % 32)
set_bits b live = (omega arith, omega arith)

pub cleared_bits : (live : ℕ) → (live_cleared live / 32 ≡ live / 32) × (live_cleared live % 32 ≡ 0)
cleared_bits live = (omega arith, omega arith)

pub loaded_bits : (s : Stored) → (live_loaded s / 32 ≡ s.extended / 32) × (live_loaded s % 32 ≡ 0)
loaded_bits s = (omega arith, omega arith)

-- a bit of an OR is 1 where one of the two is
pub or_bit : (a b k : ℕ) → bit_or a b / 2 ^ k % 2 ≡ max (a / 2 ^ k % 2) (b / 2 ^ k % 2)
or_bit a b k = ap (λ (t : ℕ). t % 2) (or_shr a b k ∙ or_step (a / 2 ^ k) (b / 2 ^ k)) ∙ omega arith

-- an erase that answers 28 sets E_ERR and PROT_E, a program P_ERR and PROT_E; each leaves the other's bit, and bits 7..5
pub record Sets (live v e p : ℕ) : Type 0 where
  pub e_err : v / 8 % 2 ≡ e
  pub p_err : v / 4 % 2 ≡ p
  pub prot_e : v / 2 % 2 ≡ 1
  pub bits_7_5 : v / 32 ≡ live / 32

pub erase_sets : (u : EraseUnit) (live : ℕ) → Sets live (live_failed (errors_of (Erases u)) live) 1 (live / 4 % 2)
erase_sets u live =
    record { e_err = or_bit live 10 3 ∙ omega arith; p_err = or_bit live 10 2 ∙ omega arith; prot_e = or_bit live 10 1 ∙ omega arith; bits_7_5 = or_shr live 10 5 ∙ or_zero_r (live / 32) }

pub program_sets : (m : Memory) (live : ℕ) → Sets live (live_failed (errors_of (Programs m)) live) (live / 8 % 2) 1
program_sets m live =
    record { e_err = or_bit live 6 3 ∙ omega arith; p_err = or_bit live 6 2 ∙ omega arith; prot_e = or_bit live 6 1 ∙ omega arith; bits_7_5 = or_shr live 6 5 ∙ or_zero_r (live / 32) }

-- a register write that answers 28 sets none. Nothing else begins anything, so that nothing else answers it
pub writes_set_none : (r : Register) → errors_of (Writes r) ≡ 0
writes_set_none r = refl

pub others_answer_none : (p : Part) (f : Phase) (wp : Bool) → free_ok None p f wp ≡ true
others_answer_none p f wp = refl
