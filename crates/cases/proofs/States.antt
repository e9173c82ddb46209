-- Which number each code of the command table answers in each state of a part, sent with its least length: the table is computed from the definitions.
use Prim.Native.Nat.{ℕ, ◌-◌}
use mathlib.Core.Path.{◌≡◌, refl}
use mathlib.Core.Bool.{Bool, true, false}
use mathlib.Core.List.{List, [], ◌∷◌}
use lib.ListN.{length, replicate}
use Rattle.types.specs.declared.Memory.TheVariants.{Array, Rows}
use Rattle.types.specs.declared.EraseUnit.TheVariants.{Sector, Chip, Row}
use Rattle.types.specs.declared.Register.TheVariants.{Status, Extended}
use Rattle.types.specs.declared.Operation.{Operation}
use Rattle.types.specs.declared.Operation.TheVariants.{Program, Erase, Write}
use Rattle.types.specs.declared.Phase.{Phase}
use Rattle.types.specs.declared.Phase.TheVariants.{Idle, Busy, Suspended, Nested}
use Rattle.types.specs.declared.Length.{Length}
use Rattle.types.specs.declared.Length.TheVariants.{Exactly, AtLeast}
use Rattle.types.specs.declared.Record.{Record}
use Rattle.words.specs.Logic.{◌and◌, ◌or◌, unless, ◌or_else◌}
use Rattle.paper.specs.Sizes.{size_ok, array_bytes, rows_bytes}
use Rattle.paper.specs.Address.{address_in, high_first, row_ok, row_place}
use Rattle.paper.specs.BlockTable.{block_row, cell_of, table_cell}
use Rattle.paper.specs.Protection.{question, among, locked, barred}
use Rattle.paper.specs.Program.{no_data, page_place, program_of}
use Rattle.paper.specs.Erase.{erase_of}
use Rattle.paper.specs.Registers.{write_of}
use Rattle.paper.specs.Records.{registers_in}
use Rattle.paper.specs.Soundness.{operation_ok, bits_ok, large_ok, page_ok, part_sound, sound_of}
use Rattle.paper.specs.Table.{Entry, codes, decoded, columns}
use Rattle.paper.specs.Numbers.{size_number, rows_number, length_number, output_number, sound_number, transaction_refusal, command_number}
use Rattle.paper.specs.Calls.{no_identity, no_stored, outcome_of, transacted}

-- a code with as many zero bytes as make its least length
abbrev pub least : Length → ℕ
least (Exactly l) = l
least (AtLeast l) = l

abbrev pub least_input : Entry → List ℕ
least_input e = e.code ∷ replicate (least (columns e.command).length - 1) 0

-- the numbers that the codes answer, in the table's order
abbrev pub numbers : Record → List Entry → List ℕ
numbers p [] = []
numbers p (e ∷ es) =
    (transacted p (array_bytes p.part.blocks) rows_bytes true (least_input e) (length (least_input e))).number ∷ numbers p es

-- a part of 16 blocks with nothing protected or locked
abbrev pub record_with : Phase → Bool → Bool → Bool → Record
record_with f wel armed asleep =
    record {
      part = record { blocks = 16; stored = registers_in f wel no_stored; wel = wel; armed = armed; asleep = asleep; live = 0; bank = 0 };
      identity = no_identity;
      phase = f;
      page = no_data;
    }

-- a page program that keeps one byte, which is 0
abbrev pub program : Operation
program = Program Array 0 0 1 0

-- 05h, 48h, 81h and 66h, and 99h where it is armed, are taken while busy; 75h and B0h where the operation can be suspended
abbrev pub while_busy : ℕ → List ℕ
while_busy s =
    22 ∷ 22 ∷ 0 ∷ 0 ∷ 22 ∷ 22 ∷ 22 ∷ 22 ∷ 22 ∷ 22 ∷ 22 ∷ 22 ∷ 22 ∷ 22 ∷ 22 ∷ 22 ∷ 22 ∷ 22 ∷ 22 ∷ s ∷ s ∷ 22 ∷ 22 ∷ 22 ∷ 0 ∷ 0 ∷ 22 ∷ 22 ∷ 0 ∷ 22 ∷ 22 ∷ 22 ∷ []

-- the reads, 7Ah, 30h and 66h, and 99h where it is armed, are taken while suspended; 06h, 04h and 02h where an erase is, and 02h then asks for WEL and for a page outside the suspended unit
abbrev pub while_suspended : ℕ → ℕ → List ℕ
while_suspended enables programs =
    0 ∷ 0 ∷ 0 ∷ 0 ∷ 0 ∷ 0 ∷ 0 ∷ 0 ∷ enables ∷ enables ∷ 23 ∷ 23 ∷ programs ∷ 23 ∷ 23 ∷ 23 ∷ 23 ∷ 23 ∷ 23 ∷ 23 ∷ 23 ∷ 0 ∷ 0 ∷ 23 ∷ 0 ∷ 0 ∷ 23 ∷ 23 ∷ 0 ∷ 23 ∷ 23 ∷ 23 ∷ []

-- the codes, as they stand in the table: 03 0B 05 48 9F 90 AB 68 06 04 01 42 02 D7 20 52 D8 C7 60 75 B0 7A 30 B9 66 99 64 62 81 85 83 82
pub record States : Type 0 where
  pub idle : numbers (record_with Idle true false false) codes
      ≡ 0 ∷ 0 ∷ 0 ∷ 0 ∷ 0 ∷ 0 ∷ 0 ∷ 0 ∷ 0 ∷ 0 ∷ 0 ∷ 0 ∷ 0 ∷ 0 ∷ 0 ∷ 0 ∷ 0 ∷ 0 ∷ 0 ∷ 25 ∷ 25 ∷ 25 ∷ 25 ∷ 0 ∷ 0 ∷ 25 ∷ 0 ∷ 0 ∷ 0 ∷ 0 ∷ 0 ∷ 0 ∷ []
  pub idle_without_wel : numbers (record_with Idle false true false) codes
      ≡ 0 ∷ 0 ∷ 0 ∷ 0 ∷ 0 ∷ 0 ∷ 0 ∷ 0 ∷ 0 ∷ 0 ∷ 26 ∷ 26 ∷ 26 ∷ 26 ∷ 26 ∷ 26 ∷ 26 ∷ 26 ∷ 26 ∷ 25 ∷ 25 ∷ 25 ∷ 25 ∷ 0 ∷ 0 ∷ 0 ∷ 26 ∷ 26 ∷ 0 ∷ 26 ∷ 0 ∷ 0 ∷ []
  pub asleep : numbers (record_with Idle true true true) codes
      ≡ 21 ∷ 21 ∷ 21 ∷ 21 ∷ 21 ∷ 21 ∷ 0 ∷ 21 ∷ 21 ∷ 21 ∷ 21 ∷ 21 ∷ 21 ∷ 21 ∷ 21 ∷ 21 ∷ 21 ∷ 21 ∷ 21 ∷ 21 ∷ 21 ∷ 21 ∷ 21 ∷ 21 ∷ 21 ∷ 21 ∷ 21 ∷ 21 ∷ 21 ∷ 21 ∷ 21 ∷ 21 ∷ []
  pub busy_program : numbers (record_with (Busy program) true true false) codes ≡ while_busy 0
  pub busy_sector : numbers (record_with (Busy (Erase Sector 4096 3)) true true false) codes ≡ while_busy 0
  pub busy_chip : numbers (record_with (Busy (Erase Chip 0 5)) true true false) codes ≡ while_busy 25
  pub busy_row : numbers (record_with (Busy (Erase Row 256 0)) true true false) codes ≡ while_busy 25
  pub busy_row_program : numbers (record_with (Busy (Program Rows 7 512 1 0)) true true false) codes ≡ while_busy 25
  pub busy_write : numbers (record_with (Busy (Write Status 0)) true true false) codes ≡ while_busy 25
  pub busy_extended : numbers (record_with (Busy (Write Extended 0x20)) true true false) codes ≡ while_busy 25
  pub suspended_program : numbers (record_with (Suspended program) false true false) codes ≡ while_suspended 23 23
  pub suspended_sector : numbers (record_with (Suspended (Erase Sector 4096 3)) false true false) codes ≡ while_suspended 0 26
  pub suspended_sector_with_wel : numbers (record_with (Suspended (Erase Sector 4096 3)) true true false) codes ≡ while_suspended 0 0
  -- 02h at 000000h, in the suspended sector
  pub suspended_target_with_wel : numbers (record_with (Suspended (Erase Sector 0 3)) true true false) codes ≡ while_suspended 0 28
  -- busy within a suspended erase: the inner program can not be suspended
  pub nested_program : numbers (record_with (Nested program (Erase Sector 4096 3)) true true false) codes ≡ while_busy 25

pub states : States
unfolding transacted outcome_of transaction_refusal size_number rows_number length_number output_number sound_number command_number sound_of part_sound operation_ok bits_ok large_ok page_ok size_ok decoded address_in high_first row_ok row_place question among block_row cell_of table_cell locked barred no_data page_place program_of erase_of write_of ◌and◌ ◌or◌ unless ◌or_else◌
states =
    record { idle = refl; idle_without_wel = refl; asleep = refl; busy_program = refl; busy_sector = refl; busy_chip = refl; busy_row = refl; busy_row_program = refl; busy_write = refl; busy_extended = refl; suspended_program = refl; suspended_sector = refl; suspended_sector_with_wel = refl; suspended_target_with_wel = refl; nested_program = refl }
