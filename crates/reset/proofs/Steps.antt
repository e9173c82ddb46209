-- What ABh, 66h and 99h each make of a sound record, and what a power-up with a record's stored register bits gives.
use Rattle.std.specs.Prelude.{None}
use Prim.Native.Nat.{ℕ, ◌+◌, ◌*◌, ◌%◌}
use mathlib.Core.Path.{◌≡◌, refl, ap, ◌∙◌}
use mathlib.Core.Bool.{Bool, true, false, not}
use mathlib.Core.List.{[], ◌∷◌}
use native.Mathlib.Omega.{arith}
use lib.Dec.{eqb}
use borrow.Author.Tests.{not-true, eq-eqb}
use Rattle.types.specs.declared.Phase.{Phase}
use Rattle.types.specs.declared.Phase.TheVariants.{Idle}
use Rattle.types.specs.declared.Register.TheVariants.{Status, Function, Extended}
use Rattle.types.specs.declared.Command.TheVariants.{Wake, ArmReset, Reset}
use Rattle.types.specs.declared.Identity.{Identity}
use Rattle.types.specs.declared.Stored.{Stored}
use Rattle.types.specs.declared.Part.{Part}
use Rattle.types.specs.declared.Answer.{Answer}
use Rattle.types.specs.declared.Record.{Record}
use Rattle.words.specs.Logic.{◌and◌, ◌or◌, unless, ◌or_else◌}
use Rattle.paper.specs.Sizes.{size_ok}
use Rattle.paper.specs.Registers.{held_byte, TBS, stored_bits, bank_loaded}
use Rattle.paper.specs.Phases.{is_busy, is_idle}
use Rattle.paper.specs.Records.{marked, fresh}
use Rattle.paper.specs.Soundness.{sleep_ok, sound, large_ok}
use Rattle.paper.specs.Numbers.{command_number, power_up_number}
use Rattle.paper.specs.Table.{columns, addressing_on}
use Rattle.paper.specs.Calls.{powered_up}
use Rattle.paper.specs.History.{record_after_call, answer_to_byte}
use Rattle.paper.proofs.Table.{known}
use Rattle.paper.proofs.Phases.{busy_not_idle}
use Rattle.paper.proofs.Bits.{bits_as, given_as}
use Rattle.paper.proofs.MadeSound.{stored_large}
use Rattle.paper.proofs.Soundness.{record_of, sound_parts}
use Rattle.paper.proofs.Answers.{executes, ignores, arm_number, reset_number}
use Rattle.reset.specs.Closing.{wake, answer_to_reset}

-- ABh is executed, but on a busy part ignored with 22
wake_number : (p : Part) (f : Phase) (wp busy : Bool) → is_busy f ≡ busy → command_number (columns Wake) (addressing_on (columns Wake) p) None p f (0xAB ∷ []) wp ≡ unless (not busy) 22
unfolding command_number ◌or◌ unless ◌or_else◌
wake_number p f wp true e = rw e
wake_number p f wp false e = rw e

-- a part that is not idle is awake
pub not_idle_awake : (f : Phase) (asleep : Bool) → is_idle f ≡ false → sleep_ok f asleep ≡ true → asleep ≡ false
unfolding ◌or◌
not_idle_awake f asleep b h = not-true asleep (rw b at h)

module _ (p : Record) (s : sound p ≡ true) (wp : Bool) where
  woken_as : (busy : Bool) → is_busy p.phase ≡ busy → (record_after_call (wake wp) p).part.asleep ≡ false
  unfolding unless
  woken_as true e =
      ap (λ (t : Answer). t.next.part.asleep) (ignores p s wp Wake (0xAB ∷ []) (omega arith) (omega arith) (known 0xAB Wake refl refl p.part.blocks p.part.bank) 21 (wake_number p.part p.phase wp true e))
      ∙ not_idle_awake p.phase p.part.asleep (busy_not_idle p.phase e) (sound_parts p s).sleep
  woken_as false e =
      ap (λ (t : Answer). t.next.part.asleep) (executes p s wp Wake (0xAB ∷ []) (omega arith) (omega arith) (known 0xAB Wake refl refl p.part.blocks p.part.bank) (wake_number p.part p.phase wp false e))

  -- after ABh, executed or ignored, a part is awake
  pub woken : (record_after_call (wake wp) p).part.asleep ≡ false
  woken = woken_as (is_busy p.phase) refl

  -- 66h arms an awake part
  module _ (awake : p.part.asleep ≡ false) where
    pub armed_now : answer_to_byte wp 0x66 p ≡ record { next = record_of p.identity (marked p.part true) p.phase p.page; number = 0; first = 1 }
    armed_now = executes p s wp ArmReset (0x66 ∷ []) (omega arith) (omega arith) (known 0x66 ArmReset refl refl p.part.blocks p.part.bank) (arm_number p.part p.phase awake wp)

    -- 99h resets an awake and armed part
    pub reset_now : p.part.armed ≡ true → answer_to_reset wp p ≡ record { next = fresh p.part.blocks p.identity p.part.stored; number = 0; first = 1 }
    unfolding unless
    reset_now a = executes p s wp Reset (0x99 ∷ []) (omega arith) (omega arith) (known 0x99 Reset refl refl p.part.blocks p.part.bank) (reset_number p.part p.phase awake wp true a)

-- a power-up with the stored bits of registers that the part can have is not refused, and gives the record that goes by them
pub powered_as_lem : (n : ℕ) (id : Identity) (g : Stored) → size_ok n ≡ true → large_ok n g.function bank_loaded ≡ true → powered_up n id (stored_bits g) ≡ record { next = fresh n id g; number = 0 }
unfolding powered_up power_up_number ◌and◌ unless ◌or_else◌
powered_as_lem n id g h l =
    let fn = (stored_bits g).function in
    let a : held_byte Status g.status % 4 ≡ 0 = omega arith in
    let b : eqb (fn % 16) (0 + 2 * TBS fn) ≡ true = eq-eqb (fn % 16) (0 + 2 * TBS fn) (omega arith) in
    let c : held_byte Status (held_byte Status g.status) ≡ held_byte Status g.status = omega arith in
    let d : held_byte Function fn ≡ held_byte Function g.function = omega arith in
    let t : TBS fn ≡ TBS g.function = omega arith in
    let e : held_byte Extended g.extended % 32 ≡ 0 = omega arith in
    let f : held_byte Extended (held_byte Extended g.extended) ≡ held_byte Extended g.extended = omega arith in
    rw (h, given_as n (stored_bits g), bits_as Idle false (stored_bits g), stored_large n g bank_loaded ∙ l, a, b, c, d, t, e, f)
