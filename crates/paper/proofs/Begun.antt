-- The operation that a command begins is in order: a program or an erase at an address that is valid and free, and a register write. The part that begins it is sound.
use Prim.Native.Nat.{ℕ, ◌+◌, ◌*◌, ◌/◌, ◌≤◌, ◌<◌}
use mathlib.Core.Path.{◌≡◌, refl, ap, ◌∙◌}
use mathlib.Core.Bool.{Bool, true, false}
use mathlib.Core.List.{List}
use native.Mathlib.Omega.{arith}
use native.Mathlib.Nat.{mod-lt, mul-div_cancel, div-lt_iff_lt-mul, mul-le-mul_right, suc-mul}
use lib.ListN.{length, length-drop, drop, get_or}
use borrow.Author.Tests.{lt-ltb, le-leb, eq-eqb}
use Rattle.types.specs.declared.Memory.{Memory}
use Rattle.types.specs.declared.Memory.TheVariants.{Array, Rows}
use Rattle.types.specs.declared.Addressing.{Addressing}
use Rattle.types.specs.declared.EraseUnit.{EraseUnit}
use Rattle.types.specs.declared.EraseUnit.TheVariants.{Sector, Block32, Block64, Chip, Row}
use Rattle.types.specs.declared.Register.{Register}
use Rattle.types.specs.declared.Register.TheVariants.{Status, Function, Extended}
use Rattle.types.specs.declared.Operation.{Operation}
use Rattle.types.specs.declared.Phase.{Phase}
use Rattle.types.specs.declared.Phase.TheVariants.{Idle, Busy, Suspended, Nested}
use Rattle.types.specs.declared.Stored.{Stored}
use Rattle.types.specs.declared.Part.{Part}
use Rattle.types.specs.declared.Record.{Record}
use Rattle.words.specs.Lists.{all_zero}
use Rattle.words.proofs.Tests.{and_l, and_r, and_in}
use Rattle.paper.specs.Sizes.{size_ok, array_bytes, rows_bytes, memory_bytes, page_bytes, down_to}
use Rattle.paper.specs.Address.{address_count, address_sent, address_in, row_at, row_ok, row_place, place_in}
use Rattle.paper.specs.Program.{page_base, page_place, data_sent, kept_count, passed_count, page_data, program_of}
use Rattle.paper.specs.Erase.{memory_of, unit_pages, unit_bytes, unit_base, erase_of}
use Rattle.paper.specs.Registers.{held_byte, write_of}
use Rattle.paper.specs.Phases.{is_erase}
use Rattle.paper.specs.Records.{settled}
use Rattle.paper.specs.Operations.{target_free, outside}
use Rattle.paper.specs.Soundness.{latch_ok, large_ok, operation_ok, phase_ok, kept_in, page_ok, sound, sound_of}
use Rattle.paper.proofs.Addresses.{row_inside}
use Rattle.paper.proofs.Sizes.{size_range}
use Rattle.paper.proofs.KeptBytes.{zeros_after}
use Rattle.paper.proofs.MadeSound.{made_sound}
use Rattle.paper.proofs.Soundness.{sound_of_lem, sound_in, awake_ok, in-order-whole, in-nest-whole}

-- a row address is valid where the memory asks for one
abbrev pub Valid : Memory → Addressing → List ℕ → Type 0
Valid Array g i = Unit {0}
Valid Rows g i = row_ok g i ≡ true

-- the place that a transaction names lies in its memory
place_inside : (m : Memory) (a : Addressing) (n : ℕ) (i : List ℕ) → 1 ≤ n → Valid m a i → place_in m a n i < memory_bytes m n
unfolding address_in row_place
place_inside Array a n i h v = mod-lt (address_sent a i) {m = array_bytes n} (omega arith)
place_inside Rows a n i h v =
    let l : get_or i (row_at a + 1) 0 / 16 * page_bytes < rows_bytes = row_inside a i v in
    omega arith

page_inside : (m : Memory) (n a : ℕ) → a < memory_bytes m n → page_base a + page_bytes ≤ memory_bytes m n
page_inside Array n a h = omega arith
page_inside Rows n a h = omega arith

program_ok : (m : Memory) (w : Addressing) (n : ℕ) (g : Stored) (i : List ℕ) → 1 ≤ n → 2 + address_count w ≤ length i → Valid m w i
    → target_free (program_of m w n i) n g ≡ true → operation_ok (program_of m w n i) n g ≡ true
unfolding program_of page_place
program_ok m w n g i h l v f =
    let a = place_in m w n i in
    let k : 1 ≤ kept_count (data_sent w i) = simp length-drop (omega arith) in
    in-order-whole (program_of m w n i) n g
    (record {
      begins = eq-eqb (page_base (page_base a)) (page_base a) (omega arith);
      within = le-leb _ _ (page_inside m n a (place_inside m w n i h v));
      open_target = f;
      going = k;
      content = and_in (le-leb 1 (kept_count (data_sent w i)) k) (and_in (le-leb (kept_count (data_sent w i)) page_bytes (omega arith)) (lt-ltb (page_place a (passed_count (data_sent w i))) page_bytes (omega arith)));
    })

-- a memory of so many units
module _ (size : ℕ) (some : 0 < size) (a : ℕ) where
  unit_aligned : down_to size (down_to size a) ≡ down_to size a
  unit_aligned = ap (λ (t : ℕ). t * size) (mul-div_cancel (a / size) some)

  unit_inside : (q : ℕ) → a < q * size → down_to size a + size ≤ q * size
  unit_inside q h =
      let l : a / size < q = (div-lt_iff_lt-mul some).1 h in
      rw (← suc-mul) (mul-le-mul_right size l)

unit_some : (u : EraseUnit) (n : ℕ) → 1 ≤ n → 0 < unit_pages u n
unit_some Sector n h = omega arith
unit_some Block32 n h = omega arith
unit_some Block64 n h = omega arith
unit_some Chip n h = omega arith
unit_some Row n h = omega arith

-- how many units of a kind there are
abbrev unit_count : EraseUnit → ℕ → ℕ
unit_count Sector n = n * 16
unit_count Block32 n = n * 2
unit_count Block64 n = n
unit_count Chip n = 1
unit_count Row n = 4

-- they fill their memory
units_fill : (u : EraseUnit) (n : ℕ) → memory_bytes (memory_of u) n ≡ unit_count u n * unit_bytes u n
units_fill Sector n = omega arith
units_fill Block32 n = omega arith
units_fill Block64 n = omega arith
units_fill Chip n = omega arith
units_fill Row n = omega arith

erase_ok : (u : EraseUnit) (w : Addressing) (n : ℕ) (g : Stored) (i : List ℕ) → 1 ≤ n → Valid (memory_of u) w i
    → target_free (erase_of u w n i) n g ≡ true → operation_ok (erase_of u w n i) n g ≡ true
unfolding erase_of
erase_ok u w n g i h v f =
    let a = place_in (memory_of u) w n i in
    let s : 0 < unit_bytes u n = omega (arith, unit_some u n h) in
    let q : a < unit_count u n * unit_bytes u n = rw (← units_fill u n) (place_inside (memory_of u) w n i h v) in
    let e : unit_base u n a + unit_bytes u n ≤ memory_bytes (memory_of u) n = rw (units_fill u n) (unit_inside (unit_bytes u n) s a (unit_count u n) q) in
    in-order-whole (erase_of u w n i) n g
    (record { begins = eq-eqb _ _ (unit_aligned (unit_bytes u n) s a); within = le-leb _ _ e; open_target = f; going = unit_some u n h; content = refl })

-- to hold a byte again changes nothing
held_again : (r : Register) (b : ℕ) → held_byte r (held_byte r b) ≡ held_byte r b
held_again Status b = omega arith
held_again Function b = omega arith
held_again Extended b = omega arith

write_ok_lem : (r : Register) (n : ℕ) (g : Stored) (i : List ℕ) → operation_ok (write_of r i) n g ≡ true
unfolding write_of
write_ok_lem r n g i =
    in-order-whole (write_of r i) n g
    (record { begins = refl; within = refl; open_target = refl; going = omega arith; content = eq-eqb _ _ (held_again r (get_or i 1 0)) })

-- an awake part in another phase
module _ (p : Part) (size : size_ok p.blocks ≡ true) (large : large_ok p.blocks p.stored.function p.bank ≡ true) (awake : p.asleep ≡ false) where
  pub settled_sound : (f : Phase) (wel : Bool) (d : List ℕ) → latch_ok f wel ≡ true → phase_ok f p.blocks p.stored ≡ true → page_ok f d ≡ true
      → sound_of (settled p f wel) f d ≡ true
  settled_sound f wel d l o g =
      sound_of_lem (settled p f wel) f d (made_sound p p.stored f wel size (rw awake (awake_ok f)) l o large) g

  -- a program, whose address is sent in one way or the other
  module _ (w : Addressing) (i : List ℕ) (long : 2 + address_count w ≤ length i) where
    pub program_begun : (m : Memory) → Valid m w i → target_free (program_of m w p.blocks i) p.blocks p.stored ≡ true
        → sound_of (settled p (Busy (program_of m w p.blocks i)) true) (Busy (program_of m w p.blocks i)) (page_data (data_sent w i)) ≡ true
    unfolding program_of page_ok
    program_begun m v f =
        settled_sound (Busy (program_of m w p.blocks i)) true (page_data (data_sent w i)) refl
        (program_ok m w p.blocks p.stored i (size_range p.blocks size).0 long v f) (zeros_after (data_sent w i))

    -- the same within a suspended erase, of a page of the array outside of its unit
    pub program_nested : (e : Operation) → is_erase e ≡ true → phase_ok (Suspended e) p.blocks p.stored ≡ true
        → target_free (program_of Array w p.blocks i) p.blocks p.stored ≡ true → outside e p.blocks (program_of Array w p.blocks i) ≡ true
        → sound_of (settled p (Nested (program_of Array w p.blocks i) e) true) (Nested (program_of Array w p.blocks i) e) (page_data (data_sent w i)) ≡ true
    unfolding program_of page_ok
    program_nested e h g f a =
        let o = program_of Array w p.blocks i in
        let q = program_ok Array w p.blocks p.stored i (size_range p.blocks size).0 long tt f in
        let k = in-nest-whole e o p.blocks (record { erases = h; suspends = and_l _ _ g; programs = refl; array_page = refl; apart = a }) in
        settled_sound (Nested o e) true (page_data (data_sent w i)) refl (and_in k (and_in (and_r _ _ g) q)) (zeros_after (data_sent w i))

  -- a phase that keeps no page data, where there is none
  module _ (d : List ℕ) (none : all_zero d ≡ true) where
    pub settled_empty : (f : Phase) (wel : Bool) → latch_ok f wel ≡ true → phase_ok f p.blocks p.stored ≡ true → kept_in f ≡ 0
        → sound_of (settled p f wel) f d ≡ true
    unfolding page_ok
    settled_empty f wel l o k = settled_sound f wel d l o (ap (λ (n : ℕ). all_zero (drop n d)) k ∙ none)

    pub erase_begun : (u : EraseUnit) (w : Addressing) (i : List ℕ) → Valid (memory_of u) w i → target_free (erase_of u w p.blocks i) p.blocks p.stored ≡ true
        → sound_of (settled p (Busy (erase_of u w p.blocks i)) true) (Busy (erase_of u w p.blocks i)) d ≡ true
    unfolding erase_of
    erase_begun u w i v f =
        settled_empty (Busy (erase_of u w p.blocks i)) true refl (erase_ok u w p.blocks p.stored i (size_range p.blocks size).0 v f) refl

    pub write_begun : (r : Register) (i : List ℕ) → sound_of (settled p (Busy (write_of r i)) true) (Busy (write_of r i)) d ≡ true
    unfolding write_of
    write_begun r i = settled_empty (Busy (write_of r i)) true refl (write_ok_lem r p.blocks p.stored i) refl

-- an idle part has no page data
pub idle_empty : (p : Record) → p.phase ≡ Idle → sound p ≡ true → all_zero p.page ≡ true
unfolding page_ok
idle_empty p e s = (sound_in p Idle e s).page_ok_lem
