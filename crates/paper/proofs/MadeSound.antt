-- A part that `made` makes has registers that agree with its other fields, and protects and locks what its stored bits say: it is sound where its phase is.
use Prim.Native.Nat.{ℕ, ◌+◌, ◌*◌, ◌/◌, ◌%◌, ◌^◌, ◌<◌, ◌≤◌}
use mathlib.Core.Path.{◌≡◌, refl, sym, ap, ◌∙◌}
use mathlib.Core.Bool.{Bool, true, not}
use native.Mathlib.Omega.{arith}
use lib.Pow.{shr-shr}
use lib.Dec.{eqb}
use borrow.Author.Tests.{eq-eqb}
use Rattle.types.specs.declared.Memory.{Memory}
use Rattle.types.specs.declared.Memory.TheVariants.{Array, Rows}
use Rattle.types.specs.declared.EraseUnit.{EraseUnit}
use Rattle.types.specs.declared.EraseUnit.TheVariants.{Sector, Block32, Block64, Chip, Row}
use Rattle.types.specs.declared.Operation.{Operation}
use Rattle.types.specs.declared.Operation.TheVariants.{Program, Erase, Write}
use Rattle.types.specs.declared.Phase.{Phase}
use Rattle.types.specs.declared.Phase.TheVariants.{Idle, Busy, Suspended, Nested}
use Rattle.types.specs.declared.Register.TheVariants.{Status, Function, Extended}
use Rattle.types.specs.declared.Stored.{Stored}
use Rattle.types.specs.declared.Part.{Part}
use Rattle.words.specs.Logic.{◌and◌}
use Rattle.paper.specs.Sizes.{size_ok, page_bytes}
use Rattle.paper.specs.Protection.{code_of, whole_code, protected_at, locked}
use Rattle.paper.specs.Operations.{free, target_free, unit_free}
use Rattle.paper.specs.Registers.{held_byte, TBS, stored_bits, live_loaded}
use Rattle.paper.specs.Records.{status_low, function_low, registers_in, made}
use Rattle.paper.specs.Soundness.{sleep_ok, latch_ok, phase_ok, operation_ok, bits_ok, large_ok, part_sound}
use Rattle.paper.proofs.Records.{status_low_le, function_low_le}
use Rattle.paper.proofs.Bits.{bits_as}

-- the code and the locks go by the stored bits
pub code_stored : (st low : ℕ) → low < 4 → code_of (held_byte Status st + low) ≡ code_of st
code_stored st low h = omega arith

pub high_half : (x k : ℕ) → x / 2 ^ (4 + k) ≡ x / 16 / 2 ^ k
high_half x k = sym (shr-shr x 4 k)

pub lock_high : (x y k : ℕ) → x / 16 ≡ y / 16 → locked x k ≡ locked y k
unfolding locked
lock_high x y k s =
    ap (λ (t : ℕ). eqb (t % 2) 1) (high_half x k ∙ ap (λ (t : ℕ). t / 2 ^ k) s ∙ sym (high_half y k))

-- what goes by registers goes by their stored bits
module _ (f : Phase) (wel : Bool) (g : Stored) where
  pub locks_made : (k : ℕ) → locked (registers_in f wel g).function k ≡ locked g.function k
  locks_made k = lock_high (registers_in f wel g).function g.function k (omega (arith, function_low_le f))

  -- TBS is one of them
  pub tbs_made : TBS (registers_in f wel g).function ≡ TBS g.function
  tbs_made = omega (arith, function_low_le f)

  code_made : code_of (registers_in f wel g).status ≡ code_of g.status
  code_made = code_stored g.status (status_low f wel) (omega (arith, status_low_le f wel))

  whole_code_made : whole_code (registers_in f wel g) ≡ whole_code g
  whole_code_made = rw (code_made, tbs_made)

  free_stored : (m : Memory) (b n : ℕ) → free m b n (registers_in f wel g) ≡ free m b n g
  free_stored Array b n = ap (λ (c : ℕ). not (protected_at c n b)) whole_code_made
  free_stored Rows b n = ap not (locks_made (b / page_bytes))

  unit_stored : (u : EraseUnit) (b n : ℕ) → unit_free u b n (registers_in f wel g) ≡ unit_free u b n g
  unit_stored Sector b n = free_stored Array b n
  unit_stored Block32 b n = free_stored Array b n
  unit_stored Block64 b n = free_stored Array b n
  unit_stored Chip b n = ap (λ (c : ℕ). eqb c 0) code_made
  unit_stored Row b n = free_stored Rows b n

  pub target_stored : (o : Operation) (n : ℕ) → target_free o n (registers_in f wel g) ≡ target_free o n g
  target_stored (Program m s b k d) n = free_stored m b n
  target_stored (Erase u b d) n = unit_stored u b n
  target_stored (Write r v) n = refl

  operation_stored : (o : Operation) (n : ℕ) → operation_ok o n (registers_in f wel g) ≡ operation_ok o n g
  unfolding operation_ok
  operation_stored o n = rw (target_stored o n)

  phase_stored : (h : Phase) (n : ℕ) → phase_ok h n (registers_in f wel g) ≡ phase_ok h n g
  phase_stored Idle n = refl
  phase_stored (Busy o) n = operation_stored o n
  phase_stored (Suspended o) n = rw (operation_stored o n)
  phase_stored (Nested o e) n = rw (operation_stored e n, operation_stored o n)

  bits_made : bits_ok f wel (registers_in f wel g) ≡ true
  unfolding ◌and◌
  bits_made =
      let s : status_low f wel ≤ 3 = status_low_le f wel in
      let t : function_low f ≤ 8 = function_low_le f in
      rw (bits_as f wel (registers_in f wel g), eq-eqb ((held_byte Status g.status + status_low f wel) % 4) (status_low f wel) (omega arith), eq-eqb ((registers_in f wel g).function % 16) (function_low f + 2 * TBS (registers_in f wel g).function) (omega arith), eq-eqb (held_byte Extended g.extended % 32) 0 (omega arith))

  -- registers made anew of made ones
  pub registers_again : (h : Phase) (w : Bool) → registers_in h w (registers_in f wel g) ≡ registers_in h w g
  registers_again h w =
      let s : held_byte Status (held_byte Status g.status + status_low f wel) ≡ held_byte Status g.status = omega (arith, status_low_le f wel) in
      let t : held_byte Function (registers_in f wel g).function ≡ held_byte Function g.function = omega (arith, function_low_le f) in
      let u : held_byte Extended (held_byte Extended g.extended) ≡ held_byte Extended g.extended = omega arith in
      rw (s, t, tbs_made, u)

  -- what the large part alone has goes by them too
  pub large_made : (n bank : ℕ) → large_ok n (registers_in f wel g).function bank ≡ large_ok n g.function bank
  unfolding large_ok
  large_made n bank = rw tbs_made

  -- and the live byte loaded from them
  pub live_again : live_loaded (registers_in f wel g) ≡ live_loaded g
  live_again = omega arith

-- and so do the stored bits alone, among them TBS
pub stored_tbs : (g : Stored) → TBS (stored_bits g).function ≡ TBS g.function
stored_tbs g = omega arith

pub stored_large : (n : ℕ) (g : Stored) (bank : ℕ) → large_ok n (stored_bits g).function bank ≡ large_ok n g.function bank
unfolding large_ok
stored_large n g bank = rw (stored_tbs g)

pub made_sound : (p : Part) (g : Stored) (f : Phase) (wel : Bool)
    → size_ok p.blocks ≡ true → sleep_ok f p.asleep ≡ true → latch_ok f wel ≡ true → phase_ok f p.blocks g ≡ true
    → large_ok p.blocks g.function p.bank ≡ true
    → part_sound (made p g f wel) f ≡ true
unfolding part_sound ◌and◌
made_sound p g f wel s a l o b =
    rw (s, a, l, phase_stored f wel g f p.blocks, o, bits_made f wel g, large_made f wel g p.blocks p.bank, b)
