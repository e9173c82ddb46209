-- The proof of the list of the cases: parts of 16 blocks are among those that the cases speak of, and so are arrays that hold one byte throughout.
use Prim.Native.Nat.{ℕ, ◌*◌, ◌/◌, ◌<◌}
use mathlib.Core.Path.{◌≡◌, refl, sym, ap, subst, subst⁻¹, ◌∙◌}
use mathlib.Core.Bool.{true, false}
use mathlib.Core.List.{List, [], ◌∷◌}
use native.Mathlib.Omega.{arith}
use lib.ListN.{length, replicate}
use Rattle.types.specs.declared.Addressing.TheVariants.{Three}
use Rattle.types.specs.declared.Blocks.{Blocks}
use Rattle.types.specs.declared.Identity.{Identity}
use Rattle.types.specs.declared.PoweredUp.{PoweredUp}
use Rattle.types.specs.declared.Answer.{Answer}
use Rattle.types.specs.declared.Record.{Record}
use Rattle.words.specs.Logic.{◌and◌, ◌or◌, unless, ◌or_else◌}
use Rattle.words.proofs.Tests.{fails}
use Rattle.paper.specs.Sizes.{size_ok, block_bytes, array_bytes, rows_bytes}
use Rattle.paper.specs.Registers.{bit_at, bits_at, TBS, bank_loaded}
use Rattle.paper.specs.Soundness.{large_ok}
use Rattle.paper.specs.Numbers.{given_ok, power_up_number}
use Rattle.paper.specs.Calls.{no_stored, powered_up}
use Rattle.paper.specs.Address.{address_in}
use Rattle.paper.specs.Records.{fresh}
use Rattle.paper.specs.BlockTable.{block_row, cell_of, table_cell}
use Rattle.paper.specs.Protection.{code_of, blocks_of, question, protected_blocks, protected_at, locked}
use Rattle.paper.proofs.Protected.{InBlocks, protected_exactly, none_protected, none_counted}
use Rattle.paper.proofs.Kept.{fresh_sound}
use Rattle.cases.proofs.Paper.{send, Ready, coded, powered, enabled_part, filled, Protected, Free, Part16, Case1, Case2, Case3, Case6, Case7, Case11, Cases}
use Rattle.laws.proofs.Commanded.{enabled}
use Rattle.cases.proofs.Parts.{enabled_so, enabled_ready, filled_length, filled_at}
use Rattle.cases.proofs.Everywhere.{everywhere}

-- registers with IRL bits have TBS 0
no_tbs : (k : ℕ) → TBS (k * 16) ≡ 0
no_tbs k = omega arith

-- a power-up of 16 blocks with a BP code and IRL bits is not refused
powered_up_lem : (id : Identity) (c k : ℕ) → powered_up 16 id (coded c k) ≡ record { next = fresh 16 id (coded c k); number = 0 }
unfolding powered_up power_up_number given_ok size_ok ◌and◌ ◌or◌ unless ◌or_else◌
powered_up_lem id c k =
    let s : bits_at 1 0 (c * 4) ≡ 0 = omega arith in
    let f : bits_at 3 2 (k * 16) ≡ 0 = omega arith in
    let z : bit_at 0 (k * 16) ≡ 0 = omega arith in
    rw (s, f, no_tbs k, z)

fresh_large : (k : ℕ) → large_ok 16 (k * 16) bank_loaded ≡ true
unfolding large_ok ◌and◌ ◌or◌
fresh_large k = rw (no_tbs k)

fresh_ready : (id : Identity) (c k : ℕ) → Ready (fresh 16 id (coded c k))
unfolding size_ok ◌or◌
fresh_ready id c k = record { is_sound = fresh_sound 16 id (coded c k) refl (fresh_large k); listed = refl; idle = refl; awake = refl }

module _ (id : Identity) (c k : ℕ) where
  abbrev first : Record
  first = fresh 16 id (coded c k)

  first_ready : Ready first
  first_ready = fresh_ready id c k

  powered_as_lem : powered id c k ≡ first
  powered_as_lem = ap (λ (u : PoweredUp). u.next) (powered_up_lem id c k)

  enabled_as : enabled_part id c k ≡ enabled first
  enabled_as =
      ap (λ (p : Record). (send p (0x06 ∷ [])).next) powered_as_lem ∙ ap (λ (t : Answer). t.next) (enabled_so first first_ready)

  part_16 : c < 16 → Part16 id c k
  part_16 h =
      let s : code_of (enabled first).part.stored.status ≡ c = omega arith in
      let u : first.part.stored.function ≡ k * 16 = omega arith in
      let f : (enabled first).part.stored.function ≡ k * 16 = omega (arith, u) in
      record {
        up = ap (λ (u : PoweredUp). u.number) (powered_up_lem id c k);
        ready = subst⁻¹ Ready powered_as_lem first_ready;
        enables = ap (λ (p : Record). (send p (0x06 ∷ [])).number) powered_as_lem ∙ ap (λ (t : Answer). t.number) (enabled_so first first_ready);
        enabled_ready = subst⁻¹ Ready enabled_as (enabled_ready first first_ready);
        size = ap (λ (p : Record). p.part.blocks) enabled_as;
        wel = ap (λ (p : Record). p.part.wel) enabled_as;
        code = ap (λ (p : Record). code_of p.part.stored.status) enabled_as ∙ s;
        locks = ap (λ (p : Record). p.part.stored.function) enabled_as ∙ f;
      }

-- code 0 protects no address
free_under : (c n a : ℕ) → c ≡ 0 → Free c n a
free_under c n a e = ap (λ (x : ℕ). protected_at x n a) e ∙ none_protected 0 n (a / block_bytes) (none_counted n no_stored refl)

-- addresses on 16 blocks
inside_16 : (i : List ℕ) → address_in (Three false) 16 i < array_bytes 16
unfolding address_in
inside_16 i = omega arith

-- the blocks that the protection question answers in cases 1 to 3
case_blocks : (protected_blocks 4 16 ≡ blocks_of (8, 8)) × ((protected_blocks 11 16 ≡ blocks_of (0, 8)) × (protected_blocks 12 4 ≡ blocks_of (0, 4)))
unfolding question block_row cell_of table_cell size_ok ◌or◌ unless ◌or_else◌
case_blocks = (refl, (refl, refl))

-- an address whose block is one of these is protected, and any other is free
module _ (c n : ℕ) (b : Blocks) (e : protected_blocks c n ≡ b) (a : ℕ) where
  abbrev Held : Blocks → Type 0
  Held x = InBlocks x.first x.count (a / block_bytes)

  held : Held b → Protected c n a
  held h = (protected_exactly c n (a / block_bytes)).1 (subst⁻¹ Held e h)

  not_held : (Held b → ⊥) → Free c n a
  not_held h = fails _ (λ t. h (subst Held e ((protected_exactly c n (a / block_bytes)).0 t)))

case_1 : Case1
case_1 = (
  not_held 4 16 _ case_blocks.0 0x07FFFF (λ h. omega (arith, h.0)),
  held 4 16 _ case_blocks.0 0x080000 (omega arith, omega arith),
)

case_2 : Case2
case_2 = (
  held 11 16 _ case_blocks.1.0 0x07FFFF (omega arith, omega arith),
  not_held 11 16 _ case_blocks.1.0 0x080000 (λ h. omega (arith, h.1)),
)

case_3 : Case3
case_3 a h = held 12 4 _ case_blocks.1.1 a (omega arith, omega arith)

-- the part after 06h with code 0 and no lock, and its arrays
module _ (id : Identity) where
  abbrev open_part : Record
  open_part = enabled_part id 0 0

  facts : Part16 id 0 0
  facts = part_16 id 0 0 (omega arith)

  all_free : (a : ℕ) → Free (code_of open_part.part.stored.status) open_part.part.blocks a
  all_free a = free_under (code_of open_part.part.stored.status) open_part.part.blocks a facts.code

  fits : (b : ℕ) → length (filled (array_bytes 16) b) ≡ array_bytes open_part.part.blocks
  fits b = filled_length (array_bytes 16) b ∙ ap array_bytes (sym facts.size)

locked_1 : (f : ℕ) → f ≡ 0x20 → locked f 1 ≡ true
unfolding locked
locked_1 f e = rw e refl

case_6 : (id : Identity) (h m first second third rest b : ℕ) → Case6 (enabled_part id 0 0) h m (first ∷ second ∷ third ∷ replicate 255 rest) (filled (array_bytes 16) b)
case_6 id h m first second third rest b =
    let d : List ℕ = first ∷ second ∷ third ∷ replicate 255 rest in
    everywhere.case_6 (enabled_part id 0 0) (facts id).enabled_ready (facts id).wel h m d refl (all_free id (address_in (Three false) (enabled_part id 0 0).part.blocks (0x02 ∷ h ∷ m ∷ 0x00 ∷ d))) (filled (array_bytes 16) b) (fits id b)

case_7 : (id : Identity) (h m l : ℕ) → Case7 (enabled_part id 0 0) h m l (filled (array_bytes 16) 0x5A)
case_7 id h m l =
    let i : List ℕ = 0x02 ∷ h ∷ m ∷ l ∷ 0xA5 ∷ [] in
    let a = address_in (Three false) (enabled_part id 0 0).part.blocks i in
    let b : a < array_bytes 16 = rw (facts id).size (inside_16 i) in
    everywhere.case_7 (enabled_part id 0 0) (facts id).enabled_ready (facts id).wel h m l (all_free id a) (filled (array_bytes 16) 0x5A) (fits id 0x5A) (filled_at (array_bytes 16) 0x5A a b)

case_11 : (id : Identity) (b c : ℕ) → Case11 (powered id 0 0) 0x00 0x00 (filled (array_bytes 16) b) (filled rows_bytes c)
case_11 id b c =
    subst⁻¹ (λ (p : Record). Case11 p 0x00 0x00 (filled (array_bytes 16) b) (filled rows_bytes c)) (powered_as_lem id 0 0)
    (everywhere.case_11 (fresh 16 id (coded 0 0)) (fresh_ready id 0 0) (omega arith) (free_under 0 16 0x030000 refl) 0x00 0x00 (omega arith) (omega arith) (filled (array_bytes 16) b) (filled rows_bytes c) (filled_length (array_bytes 16) b) (filled_length rows_bytes c))

pub cases : Cases
cases =
    record {
      part_16 = part_16;
      case_1 = case_1;
      case_2 = case_2;
      case_3 = case_3;
      case_4 = λ id b. let f = part_16 id 15 0 (omega arith) in everywhere.case_4 (enabled_part id 15 0) f.enabled_ready f.code f.wel (b ∷ []) (omega arith, omega arith);
      case_5 = λ id. everywhere.case_5 (enabled_part id 0 0) (facts id).enabled_ready (facts id).wel (all_free id 0x0000FE) (filled (array_bytes 16) 0xFF) (fits id 0xFF) (filled_at (array_bytes 16) 0xFF 0x0000FE (omega arith)) (filled_at (array_bytes 16) 0xFF 0x0000FF (omega arith)) (filled_at (array_bytes 16) 0xFF 0x000000 (omega arith));
      case_6 = case_6;
      case_7 = case_7;
      case_8 = λ id b. everywhere.case_8 (powered id 0 0) (facts id).ready b;
      case_9 = λ id. everywhere.case_9 (powered id 0 0) (facts id).ready.is_sound (facts id).ready.awake;
      case_10 = λ id b. let f = part_16 id 0 2 (omega arith) in everywhere.case_10 (enabled_part id 0 2) f.enabled_ready f.wel (locked_1 (enabled_part id 0 2).part.stored.function f.locks) (b ∷ []) (omega arith, omega arith);
      case_11 = case_11;
    }
