-- The registers bit by bit: what each test of soundness and of power-up says of the bits, and the same tests on remainders, which take fewer steps.
use Prim.Native.Nat.{ℕ, ◌+◌, ◌*◌, ◌/◌, ◌%◌}
use mathlib.Core.Path.{◌≡◌, refl, ap}
use mathlib.Core.Bool.{Bool, true, false, cond}
use native.Mathlib.Omega.{arith}
use lib.Dec.{eqb}
use borrow.Author.Tests.{eqb-true, eq-eqb}
use Rattle.types.specs.declared.Phase.{Phase}
use Rattle.types.specs.declared.Phase.TheVariants.{Idle}
use Rattle.types.specs.declared.Stored.{Stored}
use Rattle.words.specs.Logic.{◌and◌, ◌or◌, bit}
use Rattle.words.proofs.Tests.{and_l, and_r, and_in, and_true, or_true, same_tests, bit_le}
use Rattle.paper.specs.Sizes.{is_large}
use Rattle.paper.specs.Phases.{halted, work_is, is_program, erase_halted, is_busy}
use Rattle.paper.specs.Registers.{bit_at, bits_at, WEL, WIP, ESUS, PSUS, TBS, bank_loaded}
use Rattle.paper.specs.Records.{wip, esus, psus, status_low, function_low}
use Rattle.paper.specs.Soundness.{bits_ok, large_ok}
use Rattle.paper.specs.Numbers.{given_ok}

-- the last bit of a byte, the last two, the two before them, and these four
pub low_one : (x : ℕ) → bit_at 0 x ≡ x % 2
low_one x = omega arith

low_two : (x : ℕ) → x % 4 ≡ 2 * bit_at 1 x + bit_at 0 x
low_two x = omega arith

next_two : (x : ℕ) → bits_at 3 2 x ≡ 2 * bit_at 3 x + bit_at 2 x
next_two x =
    let b : bit_at 1 (x / 4) ≡ bit_at 3 x = ap (λ (y : ℕ). y % 2) (omega arith) in
    let c : bit_at 0 (x / 4) ≡ bit_at 2 x = ap (λ (y : ℕ). y % 2) (omega arith) in
    omega (arith, b, c, low_two (x / 4))

low_four : (x : ℕ) → x % 16 ≡ 8 * bit_at 3 x + 4 * bit_at 2 x + (2 * bit_at 1 x + bit_at 0 x)
low_four x =
    let a : x % 16 ≡ 4 * bits_at 3 2 x + x % 4 = omega arith in
    omega (arith, a, next_two x, low_two x)

-- the bits that other fields define are as these say, and those that are 0 are
pub record Agree (f : Phase) (wel : Bool) (s : Stored) : Type 0 where
  pub wip_bit : WIP s.status ≡ wip f
  pub wel_bit : WEL s.status ≡ bit wel
  pub esus_bit : ESUS s.function ≡ esus f
  pub psus_bit : PSUS s.function ≡ psus f
  pub bit_0 : bit_at 0 s.function ≡ 0
  pub bits_4_0 : bits_at 4 0 s.extended ≡ 0

module _ (f : Phase) (wel : Bool) (s : Stored) where
  pub bits_parts : bits_ok f wel s ≡ true → Agree f wel s
  unfolding bits_ok
  bits_parts h =
      let h1 = and_r _ _ h in
      let h2 = and_r _ _ h1 in
      let h3 = and_r _ _ h2 in
      let h4 = and_r _ _ h3 in
      record { wip_bit = eqb-true _ _ (and_l _ _ h); wel_bit = eqb-true _ _ (and_l _ _ h1); esus_bit = eqb-true _ _ (and_l _ _ h2); psus_bit = eqb-true _ _ (and_l _ _ h3); bit_0 = eqb-true _ _ (and_l _ _ h4); bits_4_0 = eqb-true _ _ (and_r _ _ h4) }

  bits_whole : Agree f wel s → bits_ok f wel s ≡ true
  unfolding bits_ok
  bits_whole a =
      and_in (eq-eqb _ _ a.wip_bit) (and_in (eq-eqb _ _ a.wel_bit) (and_in (eq-eqb _ _ a.esus_bit) (and_in (eq-eqb _ _ a.psus_bit) (and_in (eq-eqb _ _ a.bit_0) (eq-eqb _ _ a.bits_4_0)))))

  -- the same by remainders
  abbrev remainders_ok : Bool
  remainders_ok =
      eqb (s.status % 4) (status_low f wel)
      and eqb (s.function % 16) (function_low f + 2 * TBS s.function)
      and eqb (s.extended % 32) 0

  to_remainders : Agree f wel s → remainders_ok ≡ true
  to_remainders a =
      and_in (eq-eqb (s.status % 4) (status_low f wel) (omega (arith, low_two s.status, a.wip_bit, a.wel_bit)))
      (and_in (eq-eqb (s.function % 16) (function_low f + 2 * TBS s.function) (omega (arith, low_four s.function, a.esus_bit, a.psus_bit, a.bit_0))) (eq-eqb (s.extended % 32) 0 (omega (arith, a.bits_4_0))))

  of_remainders : remainders_ok ≡ true → Agree f wel s
  of_remainders h =
      let st : s.status % 4 ≡ status_low f wel = eqb-true _ _ (and_l _ _ h) in
      let fn : s.function % 16 ≡ function_low f + 2 * TBS s.function = eqb-true _ _ (and_l _ _ (and_r _ _ h)) in
      let ex : s.extended % 32 ≡ 0 = eqb-true _ _ (and_r _ _ (and_r _ _ h)) in
      let i = bit_le (is_busy f) in
      let l = bit_le wel in
      let e = bit_le (erase_halted f) in
      let g = bit_le (work_is is_program (halted f)) in
      let x = s.function in
      let both : 8 * ESUS x + 4 * PSUS x + bit_at 0 x ≡ 8 * esus f + 4 * psus f = omega (arith, low_four x, fn) in
      let p : ESUS x ≡ esus f = omega (arith, both, e, g) in
      let q : PSUS x ≡ psus f = omega (arith, both, p, g) in
      record { wip_bit = omega (arith, low_two s.status, st, i, l); wel_bit = omega (arith, low_two s.status, st, i, l); esus_bit = p; psus_bit = q; bit_0 = omega (arith, both, p, q); bits_4_0 = omega (arith, ex) }

  pub bits_as : bits_ok f wel s ≡ remainders_ok
  bits_as = same_tests _ _ (λ h. to_remainders (bits_parts h)) (λ h. bits_whole (of_remainders h))

-- what the large part alone has, by whether the part is the large one
no_bank : (bank : ℕ) → (eqb (bits_at 6 1 bank) 0 and eqb bank 0) ≡ eqb bank 0
no_bank bank =
    same_tests _ _ (λ h. and_r _ _ h) (λ h. let e : bank ≡ 0 = eqb-true _ _ h in and_in (eq-eqb (bits_at 6 1 bank) 0 (omega (arith, e))) h)

large_by : (t x y z : Bool) → (y and z) ≡ z → ((t or x) and y and (t or z)) ≡ cond t y (x and z)
unfolding ◌and◌ ◌or◌
large_by true x y z e = and_true y
large_by false x y z e = ap (λ (b : Bool). x and b) e

pub large_as : (n function bank : ℕ) → large_ok n function bank ≡ cond (is_large n) (eqb (bits_at 6 1 bank) 0) (eqb (TBS function) 0 and eqb bank 0)
unfolding large_ok
large_as n function bank = large_by (is_large n) _ _ _ (no_bank bank)

-- power-up's 5 is given exactly where an idle part with WEL 0 and a bank register of 00h could not have these registers
module _ (n : ℕ) (s : Stored) where
  to_sound : given_ok n s ≡ true → (bits_ok Idle false s and large_ok n s.function bank_loaded) ≡ true
  unfolding given_ok large_ok
  to_sound h =
      let h1 = and_r _ _ h in
      let h2 = and_r _ _ h1 in
      let h3 = and_r _ _ h2 in
      let st : bits_at 1 0 s.status ≡ 0 = eqb-true _ _ (and_l _ _ h) in
      let fn : bits_at 3 2 s.function ≡ 0 = eqb-true _ _ (and_l _ _ h1) in
      and_in
      (bits_whole Idle false s (record { wip_bit = omega (arith, st); wel_bit = omega (arith, st); esus_bit = omega (arith, fn); psus_bit = omega (arith, fn); bit_0 = eqb-true _ _ (and_l _ _ h3); bits_4_0 = eqb-true _ _ (and_r _ _ h3) }))
      (and_in (and_l _ _ h2) (and_in refl (or_true _)))

  to_given : (bits_ok Idle false s and large_ok n s.function bank_loaded) ≡ true → given_ok n s ≡ true
  unfolding given_ok large_ok
  to_given h =
      let a = bits_parts Idle false s (and_l _ _ h) in
      and_in (eq-eqb (bits_at 1 0 s.status) 0 (omega (arith, low_two s.status, a.wip_bit, a.wel_bit)))
      (and_in (eq-eqb (bits_at 3 2 s.function) 0 (omega (arith, next_two s.function, a.esus_bit, a.psus_bit)))
      (and_in (and_l _ _ (and_r _ _ h)) (and_in (eq-eqb _ _ a.bit_0) (eq-eqb _ _ a.bits_4_0))))

  pub given_as : given_ok n s ≡ (bits_ok Idle false s and large_ok n s.function bank_loaded)
  given_as = same_tests _ _ to_sound to_given
