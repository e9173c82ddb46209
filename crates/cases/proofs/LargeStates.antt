-- Which number each code answers that the large part has, or that it takes with three or four address bytes, while it is idle: sent in its length, and with one byte less and one more. The table is computed from the definitions.
use Prim.Native.Nat.{ℕ, ◌+◌, ◌-◌}
use mathlib.Core.Path.{◌≡◌, refl}
use mathlib.Core.Bool.{Bool, true, false}
use mathlib.Core.List.{List, [], ◌∷◌}
use lib.ListN.{take, replicate}
use Rattle.types.specs.declared.Phase.TheVariants.{Idle}
use Rattle.types.specs.declared.Record.{Record}
use Rattle.words.specs.Logic.{◌and◌, ◌or◌, unless, ◌or_else◌}
use Rattle.paper.specs.Sizes.{size_ok, array_bytes, rows_bytes}
use Rattle.paper.specs.Address.{address_in, high_first}
use Rattle.paper.specs.BlockTable.{large_row, table_cell}
use Rattle.paper.specs.Protection.{question, among}
use Rattle.paper.specs.Program.{no_data, program_of}
use Rattle.paper.specs.Erase.{erase_of}
use Rattle.paper.specs.Records.{registers_in}
use Rattle.paper.specs.Soundness.{bits_ok, large_ok, page_ok, part_sound, sound_of}
use Rattle.paper.specs.Table.{Entry, large_codes, far_codes, decoded, columns}
use Rattle.paper.specs.Numbers.{size_number, rows_number, length_number, output_number, sound_number, transaction_refusal, command_number}
use Rattle.paper.specs.Calls.{no_identity, no_stored, outcome_of, transacted}
use Rattle.cases.proofs.States.{least}

-- a code with zero bytes after it, so many bytes in all
abbrev pub sent_in : ℕ → Entry → List ℕ
sent_in n e = take n (e.code ∷ replicate 8 0)

-- the numbers that the codes answer, in the table's order, each sent in a length that is made of its least one
abbrev pub numbers_in : (ℕ → ℕ) → Record → List Entry → List ℕ
numbers_in f p [] = []
numbers_in f p (e ∷ es) =
    let n = f (least (columns e.command).length) in
    (transacted p (array_bytes p.part.blocks) rows_bytes true (sent_in n e) n).number ∷ numbers_in f p es

abbrev pub same : ℕ → ℕ
same l = l

abbrev pub less : ℕ → ℕ
less l = l - 1

abbrev pub more : ℕ → ℕ
more l = l + 1

-- an idle part of n blocks with nothing protected, this bank register and this latch
abbrev pub idle_with : ℕ → ℕ → Bool → Record
idle_with n bank wel =
    record {
      part = record { blocks = n; stored = registers_in Idle wel no_stored; wel = wel; armed = false; asleep = false; live = 0; bank = bank };
      identity = no_identity;
      phase = Idle;
      page = no_data;
    }

-- the codes that the large part alone has: 13 0C 12 21 5C DC, of four address bytes, and 16 C8 17 C5 B7 29. Without WEL the reads and those of the bank register are executed. One byte less than 16 C8 B7 29 is none, and no transaction
abbrev pub Own : Record → Type 0
Own p =
    (numbers_in same p large_codes ≡ 0 ∷ 0 ∷ 26 ∷ 26 ∷ 26 ∷ 26 ∷ 0 ∷ 0 ∷ 0 ∷ 0 ∷ 0 ∷ 0 ∷ [])
    × (numbers_in less p large_codes ≡ 24 ∷ 24 ∷ 24 ∷ 24 ∷ 24 ∷ 24 ∷ 3 ∷ 3 ∷ 24 ∷ 24 ∷ 3 ∷ 3 ∷ [])
    × (numbers_in more p large_codes ≡ 0 ∷ 0 ∷ 26 ∷ 24 ∷ 24 ∷ 24 ∷ 0 ∷ 0 ∷ 24 ∷ 24 ∷ 24 ∷ 24 ∷ [])

-- the codes of table 8.3, 03 0B 02 D7 20 52 D8, in a length that is made of the one that they have with four address bytes
abbrev pub Listed : (ℕ → ℕ) → Record → Type 0
Listed f p =
    (numbers_in f p far_codes ≡ 0 ∷ 0 ∷ 26 ∷ 26 ∷ 26 ∷ 26 ∷ 26 ∷ [])
    × (numbers_in (λ (l : ℕ). less (f l)) p far_codes ≡ 24 ∷ 24 ∷ 24 ∷ 24 ∷ 24 ∷ 24 ∷ 24 ∷ [])
    × (numbers_in (λ (l : ℕ). more (f l)) p far_codes ≡ 0 ∷ 0 ∷ 26 ∷ 24 ∷ 24 ∷ 24 ∷ 24 ∷ [])

-- EXTADD is 1 in the bank register 80h: table 8.3's codes then have four address bytes, and else three
pub record LargeStates : Type 0 where
  pub own_far : Own (idle_with 512 0x80 false)
  pub own_near : Own (idle_with 512 0x00 false)
  pub listed_far : Listed same (idle_with 512 0x80 false)
  pub listed_near : Listed less (idle_with 512 0x00 false)
  -- with WEL all are executed
  pub own_with_wel : numbers_in same (idle_with 512 0x80 true) large_codes ≡ replicate 12 0
  pub listed_with_wel : numbers_in same (idle_with 512 0x80 true) far_codes ≡ replicate 7 0
  -- on the four old sizes the new codes stay unknown
  pub unknown_16 : numbers_in same (idle_with 16 0x00 true) large_codes ≡ replicate 12 20
  pub unknown_8 : numbers_in same (idle_with 8 0x00 true) large_codes ≡ replicate 12 20
  pub unknown_4 : numbers_in same (idle_with 4 0x00 true) large_codes ≡ replicate 12 20
  pub unknown_1 : numbers_in same (idle_with 1 0x00 true) large_codes ≡ replicate 12 20

pub large_states : LargeStates
unfolding transacted outcome_of transaction_refusal size_number rows_number length_number output_number sound_number command_number sound_of part_sound bits_ok large_ok page_ok size_ok decoded address_in high_first question among large_row table_cell no_data program_of erase_of ◌and◌ ◌or◌ unless ◌or_else◌
large_states =
    record { own_far = (refl, refl, refl); own_near = (refl, refl, refl); listed_far = (refl, refl, refl); listed_near = (refl, refl, refl); own_with_wel = refl; listed_with_wel = refl; unknown_16 = refl; unknown_8 = refl; unknown_4 = refl; unknown_1 = refl }
