-- A run worked whole on the large part: a byte of the upper bank is programmed and read with four address bytes, read with three and the bank bit, and after a reset three address bytes read the lower bank.
use Prim.Native.Nat.{ℕ, ◌-◌}
use mathlib.Core.Path.{◌≡◌, refl, sym, ◌∙◌}
use mathlib.Core.Bool.{Bool, true, false}
use mathlib.Core.List.{List, [], ◌∷◌, ◌++◌}
use native.Mathlib.Omega.{arith}
use lib.ListN.{length, get_or, set, length-set}
use lib.Seq.{get_or-set_same, get_or-set_other}
use Rattle.types.specs.declared.Memory.TheVariants.{Array, Rows}
use Rattle.types.specs.declared.Operation.TheVariants.{Program}
use Rattle.types.specs.declared.Phase.{Phase}
use Rattle.types.specs.declared.Phase.TheVariants.{Idle, Busy}
use Rattle.types.specs.declared.Record.{Record}
use Rattle.types.specs.declared.Answer.{Answer}
use Rattle.words.specs.Logic.{◌and◌, ◌or◌, unless, ◌or_else◌}
use Rattle.paper.specs.Sizes.{size_ok, array_bytes, rows_bytes}
use Rattle.paper.specs.Address.{address_in, high_first}
use Rattle.paper.specs.BlockTable.{large_row, table_cell}
use Rattle.paper.specs.Protection.{question, among}
use Rattle.paper.specs.Registers.{with_bytes}
use Rattle.paper.specs.Program.{no_data, page_data, page_place, program_of, narrowed}
use Rattle.paper.specs.Operations.{narrow}
use Rattle.paper.specs.Soundness.{operation_ok, bits_ok, large_ok, page_ok, part_sound, sound_of}
use Rattle.paper.specs.Numbers.{size_number, rows_number, length_number, output_number, sound_number, ticks_number, given_ok, power_up_number, transaction_refusal, tick_number, command_number}
use Rattle.paper.specs.Reads.{undriven, output_of}
use Rattle.paper.specs.Table.{decoded}
use Rattle.paper.specs.Ticks.{worked}
use Rattle.paper.specs.Calls.{no_stored, powered_up, outcome_of, transacted, output_after, transacted_output, ticked, ticked_memory}
use Rattle.paper.specs.History.{Call, transaction, ticks}
use Rattle.history.specs.Run.{Run, done, sends, waits}
use Rattle.history.specs.Course.{Step, sent, waited, course}
use Rattle.laws.proofs.Commanded.{did}
use Rattle.cases.proofs.Everywhere.{over-FF}
use Rattle.cases.proofs.Worked.{identity}

-- the part's record with this status, this latch and this bank register, armed or not, in this phase and with this page data
abbrev pub record_at : ℕ → Bool → ℕ → Bool → Phase → List ℕ → Record
record_at status wel bank armed f page =
    record { part = record { blocks = 512; stored = with_bytes status 0x00 no_stored; wel = wel; armed = armed; asleep = false; live = 0x00; bank = bank }; phase = f; identity = identity; page = page }

-- the records: EXTADD is 1 in the bank register 80h, the bank bit in 01h; A5h is programmed at 01000010h
abbrev pub idle : ℕ → Record
idle bank = record_at 0x00 false bank false Idle no_data

abbrev pub enabled : Record
enabled = record_at 0x02 true 0x80 false Idle no_data

abbrev pub busy : Record
busy = record_at 0x03 true 0x80 false (Busy (Program Array 0x10 0x01000000 1 0)) (page_data (0xA5 ∷ []))

abbrev pub armed : Record
armed = record_at 0x00 false 0x01 true Idle no_data

-- a read of one byte at 01000010h with four address bytes, and one at 000010h with three
abbrev pub far_read : List ℕ
far_read = 0x13 ∷ 0x01 ∷ 0x00 ∷ 0x00 ∷ 0x10 ∷ 0x00 ∷ []

abbrev pub near_read : List ℕ
near_read = 0x03 ∷ 0x00 ∷ 0x00 ∷ 0x10 ∷ 0x00 ∷ []

-- the calls: B7h, 06h, 02h with four address bytes, 1 tick, a far read; 29h, C5h 01, a near read; 66h, 99h, a near read
abbrev pub calls : List Call
calls =
    transaction true (0xB7 ∷ []) 1
    ∷ transaction true (0x06 ∷ []) 1
    ∷ transaction true (0x02 ∷ 0x01 ∷ 0x00 ∷ 0x00 ∷ 0x10 ∷ 0xA5 ∷ []) 6
    ∷ ticks 1
    ∷ transaction true far_read 6
    ∷ transaction true (0x29 ∷ []) 1
    ∷ transaction true (0xC5 ∷ 0x01 ∷ []) 2
    ∷ transaction true near_read 5
    ∷ transaction true (0x66 ∷ []) 1
    ∷ transaction true (0x99 ∷ []) 1
    ∷ transaction true near_read 5
    ∷ []

-- the answer to a read that was executed and drove from this place on
abbrev pub drove : Record → ℕ → Answer
drove q from = record { next = q; number = 0; first = from }

-- what each call answers
abbrev pub steps : List Step
steps =
    sent (did (idle 0x80) 1)
    ∷ sent (did enabled 1)
    ∷ sent (did busy 6)
    ∷ waited (record { next = idle 0x80; number = 0; done = 1 }) (narrow Array 0x01000010 0xA5 ∷ [])
    ∷ sent (drove (idle 0x80) 5)
    ∷ sent (did (idle 0x00) 1)
    ∷ sent (did (idle 0x01) 2)
    ∷ sent (drove (idle 0x01) 4)
    ∷ sent (did armed 1)
    ∷ sent (did (idle 0x00) 1)
    ∷ sent (drove (idle 0x00) 4)
    ∷ []

-- an array after the tick
abbrev pub programmed : List ℕ → List ℕ
programmed xs = set xs 0x01000010 0xA5

-- power-up is not refused; on any rows and any array with FFh at 01000010h a run of the calls is there, and each call answers as told; what the three reads drive
pub record LargeRun : Type 0 where
  pub up : powered_up 512 identity no_stored ≡ record { next = idle 0x00; number = 0 }
  pub run : (xs rs : List ℕ) → length xs ≡ array_bytes 512 → length rs ≡ rows_bytes → get_or xs 0x01000010 0 ≡ 0xFF → Run (idle 0x00) xs rs calls (idle 0x00) (programmed xs) rs
  pub answers : (xs rs : List ℕ) (a : length xs ≡ array_bytes 512) (r : length rs ≡ rows_bytes) (b : get_or xs 0x01000010 0 ≡ 0xFF) → course (run xs rs a r b) ≡ steps
  pub far_read_lem : (xs rs o : List ℕ) → length xs ≡ array_bytes 512 → length rs ≡ rows_bytes → length o ≡ 6
      → transacted_output (idle 0x80) (programmed xs) rs true far_read o ≡ 0xFF ∷ 0xFF ∷ 0xFF ∷ 0xFF ∷ 0xFF ∷ 0xA5 ∷ []
  pub upper_read : (xs rs o : List ℕ) → length xs ≡ array_bytes 512 → length rs ≡ rows_bytes → length o ≡ 5
      → transacted_output (idle 0x01) (programmed xs) rs true near_read o ≡ 0xFF ∷ 0xFF ∷ 0xFF ∷ 0xFF ∷ 0xA5 ∷ []
  pub lower_read : (xs rs o : List ℕ) → length xs ≡ array_bytes 512 → length rs ≡ rows_bytes → length o ≡ 5
      → transacted_output (idle 0x00) (programmed xs) rs true near_read o ≡ 0xFF ∷ 0xFF ∷ 0xFF ∷ 0xFF ∷ get_or xs 0x000010 0 ∷ []

powered_up_lem : powered_up 512 identity no_stored ≡ record { next = idle 0x00; number = 0 }
unfolding powered_up power_up_number given_ok size_ok ◌and◌ ◌or◌ unless ◌or_else◌
powered_up_lem = refl

-- the answers on an array of a and rows of r bytes
record Answers (a r : ℕ) : Type 0 where
  enters : did (idle 0x80) 1 ≡ transacted (idle 0x00) a r true (0xB7 ∷ []) 1
  enables : did enabled 1 ≡ transacted (idle 0x80) a r true (0x06 ∷ []) 1
  programs : did busy 6 ≡ transacted enabled a r true (0x02 ∷ 0x01 ∷ 0x00 ∷ 0x00 ∷ 0x10 ∷ 0xA5 ∷ []) 6
  ticks_run : record { next = idle 0x80; number = 0; done = 1 } ≡ ticked busy a r 1
  array_ticked_lem : (xs : List ℕ) → narrowed xs 0x01000010 0xA5 ≡ ticked_memory Array busy a r 1 xs
  rows_ticked : (rs : List ℕ) → rs ≡ ticked_memory Rows busy a r 1 rs
  reads_far : drove (idle 0x80) 5 ≡ transacted (idle 0x80) a r true far_read 6
  leaves : did (idle 0x00) 1 ≡ transacted (idle 0x80) a r true (0x29 ∷ []) 1
  sets_bank_lem : did (idle 0x01) 2 ≡ transacted (idle 0x00) a r true (0xC5 ∷ 0x01 ∷ []) 2
  reads_upper : drove (idle 0x01) 4 ≡ transacted (idle 0x01) a r true near_read 5
  arms : did armed 1 ≡ transacted (idle 0x01) a r true (0x66 ∷ []) 1
  resets : did (idle 0x00) 1 ≡ transacted armed a r true (0x99 ∷ []) 1
  reads_lower : drove (idle 0x00) 4 ≡ transacted (idle 0x00) a r true near_read 5

answers_told : Answers (array_bytes 512) rows_bytes
unfolding transacted outcome_of ticked ticked_memory transaction_refusal tick_number size_number rows_number length_number output_number sound_number ticks_number command_number sound_of part_sound operation_ok bits_ok large_ok page_ok size_ok decoded no_data page_data address_in high_first question among large_row table_cell page_place program_of worked ◌and◌ ◌or◌ unless ◌or_else◌
answers_told =
    record { enters = refl; enables = refl; programs = refl; ticks_run = refl; array_ticked_lem = λ xs. refl; rows_ticked = λ rs. refl; reads_far = refl; leaves = refl; sets_bank_lem = refl; reads_upper = refl; arms = refl; resets = refl; reads_lower = refl }

answers_on : (a r : ℕ) → a ≡ array_bytes 512 → r ≡ rows_bytes → Answers a r
answers_on a r e f = rw (e, f) answers_told

programmed_length : (xs : List ℕ) → length (programmed xs) ≡ length xs
programmed_length xs = length-set xs 0x01000010 0xA5

whole : (xs rs : List ℕ) → length xs ≡ array_bytes 512 → length rs ≡ rows_bytes → get_or xs 0x01000010 0 ≡ 0xFF → Run (idle 0x00) xs rs calls (idle 0x00) (programmed xs) rs
whole xs rs a r b =
    let before = answers_on (length xs) (length rs) a r in
    let after = answers_on (length (programmed xs)) (length rs) (programmed_length xs ∙ a) r in
    sends (did (idle 0x80) 1) before.enters
    (sends (did enabled 1) before.enables
    (sends (did busy 6) before.programs
    (waits (record { next = idle 0x80; number = 0; done = 1 }) before.ticks_run (sym (over-FF xs 0x01000010 0xA5 b) ∙ before.array_ticked_lem xs) (before.rows_ticked rs)
    (sends (drove (idle 0x80) 5) after.reads_far
    (sends (did (idle 0x00) 1) after.leaves
    (sends (did (idle 0x01) 2) after.sets_bank_lem
    (sends (drove (idle 0x01) 4) after.reads_upper
    (sends (did armed 1) after.arms
    (sends (did (idle 0x00) 1) after.resets
    (sends (drove (idle 0x00) 4) after.reads_lower done))))))))))

answered_so : (xs rs : List ℕ) (a : length xs ≡ array_bytes 512) (r : length rs ≡ rows_bytes) (b : get_or xs 0x01000010 0 ≡ 0xFF) → course (whole xs rs a r b) ≡ steps
unfolding whole page_place page_data worked
answered_so xs rs a r b = refl

-- what the reads drive from any array
module _ (xs rs o : List ℕ) (a : length xs ≡ array_bytes 512) (r : length rs ≡ rows_bytes) where
  abbrev Driven : ℕ → List ℕ → ℕ → Type 0
  Driven bank i at = transacted_output (idle bank) xs rs true i o ≡ undriven (length i - 1) ++ (get_or xs at 0 ∷ [])

  reads_drive : (length o ≡ 6 → Driven 0x80 far_read 0x01000010) × (length o ≡ 5 → Driven 0x01 near_read 0x01000010) × (length o ≡ 5 → Driven 0x00 near_read 0x000010)
  unfolding output_after output_of transaction_refusal size_number rows_number length_number output_number sound_number command_number sound_of part_sound bits_ok large_ok page_ok size_ok decoded no_data address_in high_first ◌and◌ ◌or◌ unless ◌or_else◌
  reads_drive = (λ l. rw (a, r, l), λ l. rw (a, r, l), λ l. rw (a, r, l))

-- and from the array after the tick
module _ (xs rs o : List ℕ) (a : length xs ≡ array_bytes 512) (r : length rs ≡ rows_bytes) where
  after_length : length (programmed xs) ≡ array_bytes 512
  after_length = programmed_length xs ∙ a

  there : get_or (programmed xs) 0x01000010 0 ≡ 0xA5
  there = get_or-set_same xs 0x01000010 0xA5 0 (omega (arith, a))

  far_after : length o ≡ 6 → transacted_output (idle 0x80) (programmed xs) rs true far_read o ≡ 0xFF ∷ 0xFF ∷ 0xFF ∷ 0xFF ∷ 0xFF ∷ 0xA5 ∷ []
  far_after l = (reads_drive (programmed xs) rs o after_length r).0 l ∙ rw there

  upper_after : length o ≡ 5 → transacted_output (idle 0x01) (programmed xs) rs true near_read o ≡ 0xFF ∷ 0xFF ∷ 0xFF ∷ 0xFF ∷ 0xA5 ∷ []
  upper_after l = (reads_drive (programmed xs) rs o after_length r).1 l ∙ rw there

  lower_after : length o ≡ 5 → transacted_output (idle 0x00) (programmed xs) rs true near_read o ≡ 0xFF ∷ 0xFF ∷ 0xFF ∷ 0xFF ∷ get_or xs 0x000010 0 ∷ []
  lower_after l =
      (reads_drive (programmed xs) rs o after_length r).2 l
      ∙ rw (get_or-set_other xs 0x01000010 0x000010 0xA5 0 (omega arith))

pub large_run : LargeRun
large_run =
    record { up = powered_up_lem; run = whole; answers = answered_so; far_read_lem = far_after; upper_read = upper_after; lower_read = lower_after }
