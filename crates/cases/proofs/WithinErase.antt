-- A run worked whole: a part of 16 blocks erases a sector, is suspended from it after 3 of its 16 ticks, programs a byte outside the sector, and resumes the erase.
use Prim.Native.Nat.{ℕ, ◌+◌}
use mathlib.Core.Path.{◌≡◌, refl, ◌∙◌}
use mathlib.Core.Bool.{Bool, true, false}
use mathlib.Core.List.{List, [], ◌∷◌}
use lib.ListN.{length}
use Rattle.types.specs.declared.Memory.TheVariants.{Array, Rows}
use Rattle.types.specs.declared.EraseUnit.TheVariants.{Sector}
use Rattle.types.specs.declared.Operation.{Operation}
use Rattle.types.specs.declared.Operation.TheVariants.{Program, Erase}
use Rattle.types.specs.declared.Phase.{Phase}
use Rattle.types.specs.declared.Phase.TheVariants.{Idle, Busy, Suspended, Nested}
use Rattle.types.specs.declared.Record.{Record}
use Rattle.types.specs.declared.Answer.{Answer}
use Rattle.words.specs.Logic.{◌and◌, ◌or◌, unless, ◌or_else◌}
use Rattle.paper.specs.Sizes.{size_ok, array_bytes, rows_bytes}
use Rattle.paper.specs.Address.{address_in, high_first}
use Rattle.paper.specs.BlockTable.{block_row, cell_of, table_cell}
use Rattle.paper.specs.Protection.{question, among}
use Rattle.paper.specs.Registers.{with_bytes, P_ERR, PROT_E}
use Rattle.paper.specs.Program.{no_data, page_data, page_place, program_of, narrowed}
use Rattle.paper.specs.Erase.{erase_of, page_erased}
use Rattle.paper.specs.Operations.{blank, narrow}
use Rattle.paper.specs.Soundness.{operation_ok, bits_ok, large_ok, page_ok, part_sound, sound_of}
use Rattle.paper.specs.Numbers.{size_number, rows_number, length_number, output_number, sound_number, ticks_number, given_ok, power_up_number, transaction_refusal, tick_number, command_number}
use Rattle.paper.specs.Table.{decoded}
use Rattle.paper.specs.Ticks.{worked}
use Rattle.paper.specs.Calls.{no_stored, powered_up, outcome_of, transacted, ticked, ticked_memory}
use Rattle.paper.specs.History.{Call, transaction, ticks}
use Rattle.paper.proofs.Pages.{erased_length, narrowed_length}
use Rattle.history.specs.Run.{Run, done, sends, waits}
use Rattle.history.specs.Course.{Step, sent, waited, course}
use Rattle.laws.proofs.Commanded.{did}
use Rattle.cases.proofs.Worked.{identity}

-- the part's record with this status and function, this latch and this live byte, in this phase and with this page data
abbrev pub record_at : ℕ → ℕ → Bool → ℕ → Phase → List ℕ → Record
record_at status function wel live f page =
    record { part = record { blocks = 16; stored = with_bytes status function no_stored; wel = wel; armed = false; asleep = false; live = live; bank = 0x00 }; phase = f; identity = identity; page = page }

-- the sector at 001000h erased, with k ticks done; A5h programmed at 002000h
abbrev pub erasing : ℕ → Operation
erasing k = Erase Sector 0x001000 k

abbrev pub program : Operation
program = Program Array 0x00 0x002000 1 0

-- the records: P_ERR and PROT_E are set from the failed program on
abbrev pub failed : ℕ
failed = P_ERR + PROT_E

abbrev pub idle : Record
idle = record_at 0x00 0x00 false 0x00 Idle no_data

abbrev pub enabled : Record
enabled = record_at 0x02 0x00 true 0x00 Idle no_data

abbrev pub busy : ℕ → ℕ → Record
busy live k = record_at 0x03 0x00 true live (Busy (erasing k)) no_data

abbrev pub suspended : ℕ → Record
suspended live = record_at 0x00 0x08 false live (Suspended (erasing 3)) no_data

abbrev pub ready : ℕ → Record
ready live = record_at 0x02 0x08 true live (Suspended (erasing 3)) no_data

abbrev pub nested : Record
nested = record_at 0x03 0x08 true failed (Nested program (erasing 3)) (page_data (0xA5 ∷ []))

-- the calls: 06h, D7h at 001000h, 3 ticks, 75h; 06h, 02h at 001800h, which lies in the sector, 02h at 002000h, 75h, 1 tick; 7Ah
abbrev pub calls : List Call
calls =
    transaction true (0x06 ∷ []) 1
    ∷ transaction true (0xD7 ∷ 0x00 ∷ 0x10 ∷ 0x00 ∷ []) 4
    ∷ ticks 3
    ∷ transaction true (0x75 ∷ []) 1
    ∷ transaction true (0x06 ∷ []) 1
    ∷ transaction true (0x02 ∷ 0x00 ∷ 0x18 ∷ 0x00 ∷ 0xA5 ∷ []) 5
    ∷ transaction true (0x02 ∷ 0x00 ∷ 0x20 ∷ 0x00 ∷ 0xA5 ∷ []) 5
    ∷ transaction true (0x75 ∷ []) 1
    ∷ ticks 1
    ∷ transaction true (0x7A ∷ []) 1
    ∷ []

-- the answer to a command that was ignored
abbrev pub ignored_with : ℕ → Record → ℕ → Answer
ignored_with number q n = record { next = q; number = number; first = n }

-- what each call answers: 02h in the sector 28, 75h of the inner program 25, and all else 0
abbrev pub steps : List Step
steps =
    sent (did enabled 1)
    ∷ sent (did (busy 0x00 0) 4)
    ∷ waited (record { next = busy 0x00 3; number = 0; done = 3 }) (blank Array 0x001000 ∷ blank Array 0x001100 ∷ blank Array 0x001200 ∷ [])
    ∷ sent (did (suspended 0x00) 1)
    ∷ sent (did (ready 0x00) 1)
    ∷ sent (ignored_with 28 (ready failed) 5)
    ∷ sent (did nested 5)
    ∷ sent (ignored_with 25 nested 1)
    ∷ waited (record { next = suspended failed; number = 0; done = 1 }) (narrow Array 0x002000 0xA5 ∷ [])
    ∷ sent (did (busy failed 3) 1)
    ∷ []

-- an array after the 3 ticks, and after the one that follows
abbrev pub cut : List ℕ → List ℕ
cut xs = page_erased (page_erased (page_erased xs 0x001000) 0x001100) 0x001200

abbrev pub programmed : List ℕ → List ℕ
programmed xs = narrowed (cut xs) 0x002000 0xA5

-- power-up is not refused; on any array and any rows a run of the calls is there, and each call answers as told
pub record WithinErase : Type 0 where
  pub up : powered_up 16 identity no_stored ≡ record { next = idle; number = 0 }
  pub run : (xs rs : List ℕ) → length xs ≡ array_bytes 16 → length rs ≡ rows_bytes → Run idle xs rs calls (busy failed 3) (programmed xs) rs
  pub answers : (xs rs : List ℕ) (a : length xs ≡ array_bytes 16) (r : length rs ≡ rows_bytes) → course (run xs rs a r) ≡ steps

powered_up_lem : powered_up 16 identity no_stored ≡ record { next = idle; number = 0 }
unfolding powered_up power_up_number given_ok size_ok ◌and◌ ◌or◌ unless ◌or_else◌
powered_up_lem = refl

-- the answers on an array of a and rows of r bytes
record Answers (a r : ℕ) : Type 0 where
  enables : did enabled 1 ≡ transacted idle a r true (0x06 ∷ []) 1
  erases : did (busy 0x00 0) 4 ≡ transacted enabled a r true (0xD7 ∷ 0x00 ∷ 0x10 ∷ 0x00 ∷ []) 4
  erase_ticks : record { next = busy 0x00 3; number = 0; done = 3 } ≡ ticked (busy 0x00 0) a r 3
  erase_array : (xs : List ℕ) → cut xs ≡ ticked_memory Array (busy 0x00 0) a r 3 xs
  erase_rows : (rs : List ℕ) → rs ≡ ticked_memory Rows (busy 0x00 0) a r 3 rs
  suspends : did (suspended 0x00) 1 ≡ transacted (busy 0x00 3) a r true (0x75 ∷ []) 1
  enables_then : did (ready 0x00) 1 ≡ transacted (suspended 0x00) a r true (0x06 ∷ []) 1
  bars : ignored_with 28 (ready failed) 5 ≡ transacted (ready 0x00) a r true (0x02 ∷ 0x00 ∷ 0x18 ∷ 0x00 ∷ 0xA5 ∷ []) 5
  programs : did nested 5 ≡ transacted (ready failed) a r true (0x02 ∷ 0x00 ∷ 0x20 ∷ 0x00 ∷ 0xA5 ∷ []) 5
  goes_on : ignored_with 25 nested 1 ≡ transacted nested a r true (0x75 ∷ []) 1
  program_ticks : record { next = suspended failed; number = 0; done = 1 } ≡ ticked nested a r 1
  program_array : (xs : List ℕ) → narrowed xs 0x002000 0xA5 ≡ ticked_memory Array nested a r 1 xs
  program_rows : (rs : List ℕ) → rs ≡ ticked_memory Rows nested a r 1 rs
  resumes : did (busy failed 3) 1 ≡ transacted (suspended failed) a r true (0x7A ∷ []) 1

answers_told : Answers (array_bytes 16) rows_bytes
unfolding transacted outcome_of ticked ticked_memory transaction_refusal tick_number size_number rows_number length_number output_number sound_number ticks_number command_number sound_of part_sound operation_ok bits_ok large_ok page_ok size_ok decoded no_data page_data address_in high_first question among block_row cell_of table_cell page_place program_of erase_of worked ◌and◌ ◌or◌ unless ◌or_else◌
answers_told =
    record { enables = refl; erases = refl; erase_ticks = refl; erase_array = λ xs. refl; erase_rows = λ rs. refl; suspends = refl; enables_then = refl; bars = refl; programs = refl; goes_on = refl; program_ticks = refl; program_array = λ xs. refl; program_rows = λ rs. refl; resumes = refl }

answers_on : (a r : ℕ) → a ≡ array_bytes 16 → r ≡ rows_bytes → Answers a r
answers_on a r e f = rw (e, f) answers_told

cut_length : (xs : List ℕ) → length (cut xs) ≡ length xs
cut_length xs = simp erased_length refl

whole : (xs rs : List ℕ) → length xs ≡ array_bytes 16 → length rs ≡ rows_bytes → Run idle xs rs calls (busy failed 3) (programmed xs) rs
whole xs rs a r =
    let b = answers_on (length xs) (length rs) a r in
    let c = answers_on (length (cut xs)) (length rs) (cut_length xs ∙ a) r in
    let d = answers_on (length (programmed xs)) (length rs) (narrowed_length (cut xs) 0x002000 0xA5 ∙ cut_length xs ∙ a) r in
    sends (did enabled 1) b.enables
    (sends (did (busy 0x00 0) 4) b.erases
    (waits (record { next = busy 0x00 3; number = 0; done = 3 }) b.erase_ticks (b.erase_array xs) (b.erase_rows rs)
    (sends (did (suspended 0x00) 1) c.suspends
    (sends (did (ready 0x00) 1) c.enables_then
    (sends (ignored_with 28 (ready failed) 5) c.bars
    (sends (did nested 5) c.programs
    (sends (ignored_with 25 nested 1) c.goes_on
    (waits (record { next = suspended failed; number = 0; done = 1 }) c.program_ticks (c.program_array (cut xs)) (c.program_rows rs)
    (sends (did (busy failed 3) 1) d.resumes done)))))))))

answered_so : (xs rs : List ℕ) (a : length xs ≡ array_bytes 16) (r : length rs ≡ rows_bytes) → course (whole xs rs a r) ≡ steps
unfolding whole page_place page_data worked
answered_so xs rs a r = refl

pub within_erase : WithinErase
within_erase = record { up = powered_up_lem; run = whole; answers = answered_so }
