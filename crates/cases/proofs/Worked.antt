-- A run worked whole: a part of 1 block is powered up, sent 06h and a program of three bytes, waited on for two ticks, suspended, woken, armed and reset.
use Prim.Native.Nat.{ℕ}
use mathlib.Core.Path.{◌≡◌, refl, sym, ap, subst⁻¹, ◌∙◌}
use mathlib.Core.Bool.{Bool, true, false}
use mathlib.Core.List.{List, [], ◌∷◌, ◌++◌}
use native.Mathlib.Omega.{arith}
use lib.ListN.{length, get_or, set, length-set}
use lib.Seq.{get_or-set_other}
use Rattle.types.specs.declared.Memory.TheVariants.{Array, Rows}
use Rattle.types.specs.declared.Operation.{Operation}
use Rattle.types.specs.declared.Operation.TheVariants.{Program}
use Rattle.types.specs.declared.Phase.{Phase}
use Rattle.types.specs.declared.Phase.TheVariants.{Idle, Busy, Suspended}
use Rattle.types.specs.declared.Identity.{Identity}
use Rattle.types.specs.declared.PoweredUp.{PoweredUp}
use Rattle.types.specs.declared.Record.{Record}
use Rattle.words.specs.Logic.{◌and◌, ◌or◌, unless, ◌or_else◌}
use Rattle.paper.specs.Sizes.{size_ok, array_bytes, rows_bytes}
use Rattle.paper.specs.Address.{address_in, high_first}
use Rattle.paper.specs.BlockTable.{block_row, cell_of, table_cell}
use Rattle.paper.specs.Protection.{question, among}
use Rattle.paper.specs.Registers.{with_bytes}
use Rattle.paper.specs.Program.{no_data, page_data, page_place, program_of, narrowed}
use Rattle.paper.specs.Operations.{narrow}
use Rattle.paper.specs.Soundness.{operation_ok, bits_ok, large_ok, page_ok, part_sound, sound_of}
use Rattle.paper.specs.Numbers.{size_number, rows_number, length_number, output_number, sound_number, ticks_number, given_ok, power_up_number, transaction_refusal, tick_number, command_number}
use Rattle.paper.specs.Table.{decoded}
use Rattle.paper.specs.Ticks.{worked}
use Rattle.paper.specs.Calls.{no_stored, powered_up, outcome_of, transacted, ticked, ticked_memory}
use Rattle.paper.specs.History.{Call, transaction, ticks}
use Rattle.history.specs.Run.{Run, done, sends, waits}
use Rattle.history.specs.Course.{Step, sent, waited, course}
use Rattle.reset.specs.Closing.{closing}
use Rattle.reset.specs.Demand3.{FreshRun}
use Rattle.reset.proofs.Demand3.{reset_after_run}
use Rattle.cases.proofs.Paper.{filled}
use Rattle.laws.proofs.Commanded.{did}
use Rattle.cases.proofs.Parts.{filled_length, filled_at}
use Rattle.cases.proofs.Everywhere.{over-FF}

-- M T C D = 11 22 33 44h
abbrev pub identity : Identity
identity = record { maker = 0x11; kind = 0x22; capacity = 0x33; device = 0x44 }

-- the part's record with this status and function, this latch, armed or not, in this phase and with this page data
abbrev pub record_at : ℕ → ℕ → Bool → Bool → Phase → List ℕ → Record
record_at status function wel armed f page =
    record { part = record { blocks = 1; stored = with_bytes status function no_stored; wel = wel; armed = armed; asleep = false; live = 0x00; bank = 0x00 }; phase = f; identity = identity; page = page }

-- A5h, 5Ah and 3Ch programmed at 000010h, with k ticks done
abbrev pub program : ℕ → Operation
program k = Program Array 0x10 0x000000 3 k

-- the three bytes as page data
abbrev pub kept : List ℕ
kept = page_data (0xA5 ∷ 0x5A ∷ 0x3C ∷ [])

-- the records
abbrev pub idle : Record
idle = record_at 0x00 0x00 false false Idle no_data

abbrev pub enabled : Record
enabled = record_at 0x02 0x00 true false Idle no_data

abbrev pub busy : ℕ → Record
busy k = record_at 0x03 0x00 true false (Busy (program k)) kept

abbrev pub suspended : Bool → Record
suspended armed = record_at 0x00 0x04 false armed (Suspended (program 2)) kept

-- the calls until 75h
abbrev pub calls : List Call
calls =
    transaction true (0x06 ∷ []) 1
    ∷ transaction true (0x02 ∷ 0x00 ∷ 0x00 ∷ 0x10 ∷ 0xA5 ∷ 0x5A ∷ 0x3C ∷ []) 7
    ∷ ticks 2
    ∷ transaction true (0x75 ∷ []) 1
    ∷ []

-- what each call answers, with ABh, 66h and 99h after them
abbrev pub steps : List Step
steps =
    sent (did enabled 1)
    ∷ sent (did (busy 0) 7)
    ∷ waited (record { next = busy 2; number = 0; done = 2 }) (narrow Array 0x000010 0xA5 ∷ narrow Array 0x000011 0x5A ∷ [])
    ∷ sent (did (suspended false) 1)
    ∷ sent (did (suspended false) 1)
    ∷ sent (did (suspended true) 1)
    ∷ sent (did idle 1)
    ∷ []

-- array and rows before, all FFh, and the array after: two of the three bytes are programmed
abbrev pub blank_array : List ℕ
blank_array = filled (array_bytes 1) 0xFF

abbrev pub blank_rows : List ℕ
blank_rows = filled rows_bytes 0xFF

abbrev pub array_after : List ℕ
array_after = set (set blank_array 0x000010 0xA5) 0x000011 0x5A

-- power-up is not refused; a run of the calls and of ABh, 66h and 99h is there; each call answers as told, and the reset theorem speaks of the run
pub record Worked : Type 0 where
  pub up : powered_up 1 identity no_stored ≡ record { next = idle; number = 0 }
  pub run : Run idle blank_array blank_rows (calls ++ closing true true true [] []) idle array_after blank_rows
  pub answers : course run ≡ steps
  pub fresh_again : FreshRun 1 identity no_stored calls true true true [] [] blank_array blank_rows idle array_after blank_rows

powered_up_lem : powered_up 1 identity no_stored ≡ record { next = idle; number = 0 }
unfolding powered_up power_up_number given_ok size_ok ◌and◌ ◌or◌ unless ◌or_else◌
powered_up_lem = refl

-- the answers on an array of a and rows of r bytes
record Answers (a r : ℕ) : Type 0 where
  enables : did enabled 1 ≡ transacted idle a r true (0x06 ∷ []) 1
  programs : did (busy 0) 7 ≡ transacted enabled a r true (0x02 ∷ 0x00 ∷ 0x00 ∷ 0x10 ∷ 0xA5 ∷ 0x5A ∷ 0x3C ∷ []) 7
  ticks_run : record { next = busy 2; number = 0; done = 2 } ≡ ticked (busy 0) a r 2
  array_ticked_lem : (xs : List ℕ) → narrowed (narrowed xs 0x000010 0xA5) 0x000011 0x5A ≡ ticked_memory Array (busy 0) a r 2 xs
  rows_ticked : (rs : List ℕ) → rs ≡ ticked_memory Rows (busy 0) a r 2 rs
  suspends : did (suspended false) 1 ≡ transacted (busy 2) a r true (0x75 ∷ []) 1
  wakes : did (suspended false) 1 ≡ transacted (suspended false) a r true (0xAB ∷ []) 1
  arms : did (suspended true) 1 ≡ transacted (suspended false) a r true (0x66 ∷ []) 1
  resets : did idle 1 ≡ transacted (suspended true) a r true (0x99 ∷ []) 1

answers_told : Answers (array_bytes 1) rows_bytes
unfolding transacted outcome_of ticked ticked_memory transaction_refusal tick_number size_number rows_number length_number output_number sound_number ticks_number command_number sound_of part_sound operation_ok bits_ok large_ok page_ok size_ok decoded no_data page_data address_in high_first question among block_row cell_of table_cell page_place program_of worked ◌and◌ ◌or◌ unless ◌or_else◌
answers_told =
    record { enables = refl; programs = refl; ticks_run = refl; array_ticked_lem = λ xs. refl; rows_ticked = λ rs. refl; suspends = refl; wakes = refl; arms = refl; resets = refl }

answers_on : (a r : ℕ) → a ≡ array_bytes 1 → r ≡ rows_bytes → Answers a r
answers_on a r e f = rw (e, f) answers_told

array_length : length blank_array ≡ array_bytes 1
array_length = filled_length (array_bytes 1) 0xFF

rows_length : length blank_rows ≡ rows_bytes
rows_length = filled_length rows_bytes 0xFF

after_length : length array_after ≡ array_bytes 1
after_length = simp length-set array_length

programmed : narrowed (narrowed blank_array 0x000010 0xA5) 0x000011 0x5A ≡ array_after
programmed =
    let first : get_or blank_array 0x000010 0 ≡ 0xFF = filled_at (array_bytes 1) 0xFF 0x000010 (omega arith) in
    let second : get_or (set blank_array 0x000010 0xA5) 0x000011 0 ≡ 0xFF = get_or-set_other blank_array 0x000010 0x000011 0xA5 0 (omega arith) ∙ filled_at (array_bytes 1) 0xFF 0x000011 (omega arith) in
    rw (over-FF blank_array 0x000010 0xA5 first, over-FF (set blank_array 0x000010 0xA5) 0x000011 0x5A second) refl

whole : Run idle blank_array blank_rows (calls ++ closing true true true [] []) idle array_after blank_rows
whole =
    let b = answers_on (length blank_array) (length blank_rows) array_length rows_length in
    let c = answers_on (length array_after) (length blank_rows) after_length rows_length in
    sends (did enabled 1) b.enables
    (sends (did (busy 0) 7) b.programs
    (waits (record { next = busy 2; number = 0; done = 2 }) b.ticks_run (sym programmed ∙ b.array_ticked_lem blank_array) (b.rows_ticked blank_rows)
    (sends (did (suspended false) 1) c.suspends
    (sends (did (suspended false) 1) c.wakes
    (sends (did (suspended true) 1) c.arms
    (sends (did idle 1) c.resets done))))))

answered_so : course whole ≡ steps
unfolding whole page_place page_data worked
answered_so = refl

from_power_up : Run (powered_up 1 identity no_stored).next blank_array blank_rows (calls ++ closing true true true [] []) idle array_after blank_rows
from_power_up =
    subst⁻¹ (λ (p : Record). Run p blank_array blank_rows (calls ++ closing true true true [] []) idle array_after blank_rows) (ap (λ (u : PoweredUp). u.next) powered_up_lem) whole

pub worked_whole : Worked
worked_whole =
    record {
      up = powered_up_lem;
      run = whole;
      answers = answered_so;
      fresh_again = reset_after_run 1 identity no_stored calls true true true [] [] (record { unrefused = ap (λ (u : PoweredUp). u.number) powered_up_lem; own_array = array_length; own_rows = rows_length; run = from_power_up }) (record { between = refl; armed = refl });
    }
