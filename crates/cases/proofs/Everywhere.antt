-- The proof of cases 4 to 11 on every part that they speak of.
use Rattle.std.specs.Prelude.{Some}
use Prim.Native.Nat.{ℕ, ◌+◌, ◌<◌, ◌≤◌}
use mathlib.Core.Path.{◌≡◌, refl, ap, ◌∙◌}
use mathlib.Core.Bool.{Bool, true, false}
use mathlib.Core.List.{List, [], ◌∷◌}
use native.Mathlib.Omega.{arith}
use native.Mathlib.Nat.{mod-eq_of_lt}
use lib.ListN.{length, get_or, set}
use lib.Seq.{get_or-set_other}
use lib.Bits.{bit_and}
use borrow.Author.Tests.{le-leb}
use Rattle.types.specs.declared.Memory.TheVariants.{Array}
use Rattle.types.specs.declared.Addressing.TheVariants.{Three}
use Rattle.types.specs.declared.Operation.TheVariants.{Program}
use Rattle.types.specs.declared.Phase.TheVariants.{Busy}
use Rattle.types.specs.declared.Command.TheVariants.{ReadStatus, WriteEnable, ChipErase, Reset, RowProgram}
use Rattle.types.specs.declared.Record.{Record}
use Rattle.types.specs.declared.Answer.{Answer}
use Rattle.types.specs.declared.Ticked.{Ticked}
use Rattle.words.specs.Logic.{◌and◌, ◌or◌, unless, ◌or_else◌}
use Rattle.paper.specs.Soundness.{sound}
use Rattle.paper.specs.Numbers.{command_number, ignored_number}
use Rattle.paper.proofs.Table.{known}
use Rattle.paper.specs.Address.{high_first, address_in, row_ok, row_place}
use Rattle.paper.specs.Program.{page_base, page_place, passed_count, page_data, program_of, narrowed}
use Rattle.paper.specs.Erase.{erase_of}
use Rattle.paper.specs.Ticks.{worked, record_after, memory_after, working_ticks}
use Rattle.paper.specs.Records.{marked}
use Rattle.paper.specs.Protection.{code_of, locked}
use Rattle.paper.proofs.Sizes.{size_range}
use Rattle.paper.proofs.Addresses.{in-page}
use Rattle.paper.proofs.Soundness.{record_of, sound_parts, marked_sound}
use Rattle.laws.proofs.Commanded.{standing, did}
use Rattle.cases.proofs.Paper.{send, Ready, Free, Case4Everywhere, Case5Everywhere, Case6Everywhere, Case7Everywhere, Case8Everywhere, Case9Everywhere, Case10Everywhere, Case11Everywhere, Everywhere}
use Rattle.paper.proofs.Answers.{executes, ignores, read_status_number, reset_number}
use Rattle.reset.proofs.Steps.{armed_now}
use Rattle.paper.proofs.Protected.{none_protected, fifteen_counted}
use Rattle.cases.proofs.EraseCut.{erase_begins, erase_runs, erase_suspends, halted_arms, halted_resets, array_cut, rows_kept}
use Rattle.cases.proofs.Parts.{known_here, enabled_so}
use Rattle.cases.proofs.ProgramSent.{program_run, program_ticks, program_array, program_tick}

abbrev number : Answer → ℕ
number t = t.number

chip_barred : (p : Record) → Ready p → code_of p.part.stored.status ≡ 15 → p.part.wel ≡ true → ignored_number (Some ChipErase) p.part p.phase (0xC7 ∷ []) true ≡ 28
unfolding command_number ◌and◌ ◌or◌ unless ◌or_else◌ erase_of
chip_barred p r c w = rw (r.awake, r.idle, w, c)

case_4 : Case4Everywhere
case_4 p r c w d (n, most) h m l = (
  ap number (program_run p r w h m l d n most (rw c (none_protected 15 p.part.blocks _ (fifteen_counted p.part.blocks r.listed)))),
  ap number (ignores p r.is_sound true ChipErase (0xC7 ∷ []) (omega arith) (omega arith) (known_here p r 0xC7 ChipErase refl) 27 (chip_barred p r c w)),
)

-- a byte programmed over FFh
pub over-FF : (xs : List ℕ) (a d : ℕ) → get_or xs a 0 ≡ 0xFF → narrowed xs a d ≡ set xs a (bit_and 0xFF d)
unfolding narrowed
over-FF xs a d e = rw e

-- PP at 0000FEh of 01 02 03
abbrev three : List ℕ
three = 0x01 ∷ 0x02 ∷ 0x03 ∷ []

at-FE : (n : ℕ) → 1 ≤ n → address_in (Three false) n (0x02 ∷ 0x00 ∷ 0x00 ∷ 0xFE ∷ three) ≡ 0xFE
unfolding address_in high_first
at-FE n h = mod-eq_of_lt (omega arith)

abbrev started : Record → Record
started p = standing p (Busy (Program Array 0xFE 0x000000 3 0)) true (page_data three)

three_begun : (p : Record) → 1 ≤ p.part.blocks → standing p (Busy (program_of Array (Three false) p.part.blocks (0x02 ∷ 0x00 ∷ 0x00 ∷ 0xFE ∷ three))) true (page_data three) ≡ started p
unfolding program_of page_place
three_begun p n = rw (at-FE p.part.blocks n)

module _ (xs : List ℕ) (a : get_or xs 0x0000FE 0 ≡ 0xFF) (b : get_or xs 0x0000FF 0 ≡ 0xFF) (c : get_or xs 0x000000 0 ≡ 0xFF) where
  three_written : narrowed (narrowed (narrowed xs 0x0000FE 0x01) 0x0000FF 0x02) 0x000000 0x03 ≡ set (set (set xs 0x0000FE 0x01) 0x0000FF 0x02) 0x000000 0x03
  three_written =
      let ys = set xs 0x0000FE 0x01 in
      let zs = set ys 0x0000FF 0x02 in
      let y : get_or ys 0x0000FF 0 ≡ 0xFF = get_or-set_other xs 0x0000FE 0x0000FF 0x01 0 (omega arith) ∙ b in
      let z : get_or zs 0x000000 0 ≡ 0xFF = get_or-set_other ys 0x0000FF 0x000000 0x02 0 (omega arith) ∙ get_or-set_other xs 0x0000FE 0x000000 0x01 0 (omega arith) ∙ c in
      rw (over-FF xs 0x0000FE 0x01 a, over-FF ys 0x0000FF 0x02 y, over-FF zs 0x000000 0x03 z)

  three_run : (p : Record) → memory_after Array 3 (started p) xs ≡ set (set (set xs 0x0000FE 0x01) 0x0000FF 0x02) 0x000000 0x03
  unfolding worked page_place page_data
  three_run p = three_written

case_5 : Case5Everywhere
unfolding worked
case_5 p r w f xs l a b c =
    let n : 1 ≤ p.part.blocks = (size_range p.part.blocks (sound_parts p r.is_sound).size).0 in
    let g : Free (code_of p.part.stored.status) p.part.blocks (address_in (Three false) p.part.blocks (0x02 ∷ 0x00 ∷ 0x00 ∷ 0xFE ∷ three)) = rw (at-FE p.part.blocks n) f in (
      ap number (program_run p r w 0x00 0x00 0xFE three (omega arith) (omega arith) g),
      program_array p r w 0x00 0x00 0xFE three (omega arith) (omega arith) g xs l 3 (omega arith) ∙ ap (λ (q : Record). memory_after Array 3 q xs) (three_begun p n) ∙ three_run xs a b c p,
      ap (λ (t : Ticked). t.next.phase) (program_ticks p r w 0x00 0x00 0xFE three (omega arith) (omega arith) g 3 (omega arith)) ∙ ap (λ (q : Record). (record_after 3 q).phase) (three_begun p n),
      ap (λ (t : Ticked). t.done) (program_ticks p r w 0x00 0x00 0xFE three (omega arith) (omega arith) g 4 (omega arith)) ∙ ap (working_ticks 4) (three_begun p n),
    )

offset_2 : (n h m : ℕ) (d : List ℕ)
    → let a = address_in (Three false) n (0x02 ∷ h ∷ m ∷ 0x00 ∷ d) in
    page_base a + page_place a 2 ≡ a + 2
unfolding high_first page_place
offset_2 n h m d = omega (arith, in-page (Three false) n (0x02 ∷ h ∷ m ∷ 0x00 ∷ d))

case_6 : Case6Everywhere
unfolding narrowed
case_6 p r w h m d n f xs e =
    let two : passed_count d ≡ 2 = omega arith in (
      ap number (program_run p r w h m 0x00 d (omega arith) (omega arith) f),
      program_tick p r w h m 0x00 d (omega arith) (omega arith) f xs e ∙ rw (two, offset_2 p.part.blocks h m d),
    )

over_5_a : (xs : List ℕ) (a : ℕ) → get_or xs a 0 ≡ 0x5A → narrowed xs (page_base a + page_place a 0) 0xA5 ≡ set xs a 0x00
unfolding narrowed page_place
over_5_a xs a b =
    let e : page_base a + page_place a 0 ≡ a = omega arith in
    rw (e, b)

case_7 : Case7Everywhere
case_7 p r w h m l f xs e b = (
  ap number (program_run p r w h m l (0xA5 ∷ []) (omega arith) (omega arith) f),
  program_tick p r w h m l (0xA5 ∷ []) (omega arith) (omega arith) f xs e ∙ over_5_a xs (address_in (Three false) p.part.blocks (0x02 ∷ h ∷ m ∷ l ∷ 0xA5 ∷ [])) b,
)

two_bytes : (p : Record) (b : ℕ) → Ready p → ignored_number (Some WriteEnable) p.part p.phase (0x06 ∷ b ∷ []) true ≡ 24
unfolding command_number ◌or◌ unless ◌or_else◌
two_bytes p b r = rw (r.awake, r.idle)

case_8 : Case8Everywhere
case_8 p r b = ap number (ignores p r.is_sound true WriteEnable (0x06 ∷ b ∷ []) (omega arith) (omega arith) (known_here p r 0x06 WriteEnable refl) 23 (two_bytes p b r))

-- the record the same but for the armed mark
abbrev armed_as : Record → Bool → Record
armed_as p armed = record_of p.identity (marked p.part armed) p.phase p.page

armed_sound : (p : Record) (armed : Bool) → sound p ≡ true → sound (armed_as p armed) ≡ true
armed_sound p armed s = marked_sound p.part p.phase p.page armed s

case_9 : Case9Everywhere
unfolding unless
case_9 p s e =
    let a : send p (0x66 ∷ []) ≡ did (armed_as p true) 1 = armed_now p s true e in
    let b : send (armed_as p true) (0x05 ∷ []) ≡ did (armed_as p false) 1 = executes (armed_as p true) (armed_sound p true s) true ReadStatus (0x05 ∷ []) (omega arith) (omega arith) (known 0x05 ReadStatus refl refl p.part.blocks p.part.bank) (read_status_number (marked p.part true) p.phase e true) in
    let c : (send (armed_as p false) (0x99 ∷ [])).number ≡ 25 = ap number (ignores (armed_as p false) (armed_sound p false s) true Reset (0x99 ∷ []) (omega arith) (omega arith) (known 0x99 Reset refl refl p.part.blocks p.part.bank) 24 (reset_number (marked p.part false) p.phase e true false refl)) in
    rw (a, b, c) (refl, refl, refl)

locked_row : (p : Record) → Ready p → p.part.wel ≡ true → locked p.part.stored.function 1 ≡ true → (d : List ℕ) → 1 ≤ length d
    → ignored_number (Some RowProgram) p.part p.phase (0x62 ∷ 0x00 ∷ 0x10 ∷ 0x00 ∷ d) true ≡ 28
unfolding command_number ◌and◌ ◌or◌ unless ◌or_else◌ row_ok row_place program_of
locked_row p r w k d n = rw (r.awake, r.idle, le-leb 5 (length (0x62 ∷ 0x00 ∷ 0x10 ∷ 0x00 ∷ d)) (omega arith), w, k)

no_row : (p : Record) → Ready p → p.part.wel ≡ true → (d : List ℕ) → 1 ≤ length d
    → ignored_number (Some RowProgram) p.part p.phase (0x62 ∷ 0x00 ∷ 0x01 ∷ 0x00 ∷ d) true ≡ 27
unfolding command_number ◌and◌ ◌or◌ unless ◌or_else◌ row_ok
no_row p r w d n = rw (r.awake, r.idle, le-leb 5 (length (0x62 ∷ 0x00 ∷ 0x01 ∷ 0x00 ∷ d)) (omega arith), w)

case_10 : Case10Everywhere
case_10 p r w k d (n, most) = (
  ap number (ignores p r.is_sound true RowProgram (0x62 ∷ 0x00 ∷ 0x10 ∷ 0x00 ∷ d) (omega arith) (omega arith) (known_here p r 0x62 RowProgram refl) 27 (locked_row p r w k d n)),
  ap number (ignores p r.is_sound true RowProgram (0x62 ∷ 0x00 ∷ 0x01 ∷ 0x00 ∷ d) (omega arith) (omega arith) (known_here p r 0x62 RowProgram refl) 26 (no_row p r w d n)),
)

case_11 : Case11Everywhere
case_11 p r has free m l hm hl xs rs e f =
    let k : 100 < 256 = omega arith in
    rw (enabled_so p r, erase_begins p r has free m l hm hl, erase_runs p r has free 100 k, erase_suspends p r has free 100 k, halted_arms p r has free 100 k, halted_resets p r has free 100 k)
    (refl, refl, refl, refl, refl, refl, refl, refl, refl, array_cut p r has free 100 k m l hm hl xs rs e f, rows_kept p r has free 100 k m l hm hl xs rs e f)

pub everywhere : Everywhere
everywhere =
    record { case_4 = case_4; case_5 = case_5; case_6 = case_6; case_7 = case_7; case_8 = case_8; case_9 = case_9; case_10 = case_10; case_11 = case_11 }
