-- 02h sent to a ready part with WEL 1 at a free address: it fits, so that it is executed, and the ticks that follow run.
use Rattle.types.specs.declared.Command.{Command}
use Rattle.std.specs.Prelude.{Option}
use Prim.Native.Nat.{ℕ, ◌+◌, ◌/◌, ◌≤◌}
use mathlib.Core.Path.{◌≡◌, refl, sym, ap, ◌∙◌}
use mathlib.Core.Bool.{true, false, not}
use mathlib.Core.List.{List, ◌∷◌}
use native.Mathlib.Omega.{arith}
use native.Mathlib.Nat.{add-zero}
use lib.ListN.{length, get_or}
use borrow.Author.Tests.{le-leb}
use Rattle.types.specs.declared.Memory.TheVariants.{Array}
use Rattle.types.specs.declared.Addressing.{Addressing}
use Rattle.types.specs.declared.Addressing.TheVariants.{Three}
use Rattle.types.specs.declared.Phase.TheVariants.{Busy}
use Rattle.types.specs.declared.Command.TheVariants.{PageProgram}
use Rattle.types.specs.declared.Record.{Record}
use Rattle.paper.specs.Sizes.{block_bytes, array_bytes}
use Rattle.paper.specs.Address.{address_in}
use Rattle.paper.specs.Protection.{code_of, whole_code, protected}
use Rattle.paper.specs.Program.{page_base, page_place, data_sent, passed_count, page_data, program_of, narrowed}
use Rattle.paper.specs.Operations.{target_free}
use Rattle.paper.specs.Soundness.{sound}
use Rattle.paper.specs.Ticks.{record_after, memory_after, working_ticks}
use Rattle.paper.proofs.KeptBytes.{kept_byte}
use Rattle.paper.proofs.Answers.{ticks_run, ticks_memory}
use Rattle.laws.specs.Writes.{program, addressing_by, sent_as, Fitting}
use Rattle.laws.proofs.Commanded.{standing, did, commanded, started_sound}
use Rattle.cases.proofs.Paper.{send, tick, array_ticked, Ready, Free}
use Rattle.cases.proofs.Parts.{known_here, ticks_most, three_bytes, free_alone}

module _ (p : Record) (r : Ready p) (w : p.part.wel ≡ true) (h m l : ℕ) (d : List ℕ) (n : 1 ≤ length d) (most : length d ≤ 4092) where
  abbrev input : List ℕ
  input = 0x02 ∷ h ∷ m ∷ l ∷ d

  -- A
  abbrev address : ℕ
  address = address_in (Three false) p.part.blocks input

  -- the part as the program begins, its address sent in one way or the other
  abbrev begun_by : Addressing → Record
  begun_by g = standing p (Busy (program_of Array g p.part.blocks input)) true (page_data (data_sent g input))

  abbrev pub begun : Record
  begun = begun_by (Three false)

  -- it has three bytes
  three : sent_as p input ≡ Three false
  three = ap (λ (c : Option Command). addressing_by c p.part.bank) (known_here p r 0x02 PageProgram refl) ∙ three_bytes p r

  module _ (free : Free (code_of p.part.stored.status) p.part.blocks address) where
    page_free : target_free (program_of Array (Three false) p.part.blocks input) p.part.blocks p.part.stored ≡ true
    unfolding program_of
    page_free =
        let e : page_base address / block_bytes ≡ address / block_bytes = omega arith in
        ap not (ap (protected (whole_code p.part.stored) p.part.blocks) e ∙ free_alone p r address free)

    abbrev fits : Fitting p (program Array) input
    fits =
        record {
          code = record { command = PageProgram; known = known_here p r 0x02 PageProgram refl; does = refl };
          some = omega arith;
          most = omega arith;
          right_length = le-leb 5 (length input) (omega arith);
          right_address = refl;
          free_target = ap (λ (g : Addressing). target_free (program_of Array g p.part.blocks input) p.part.blocks p.part.stored) three ∙ page_free;
        }

    begun_sound : sound begun ≡ true
    begun_sound =
        ap (λ (g : Addressing). sound (begun_by g)) (sym three) ∙ started_sound p r.is_sound r.idle r.awake w (program Array) input fits

    pub program_run : send p input ≡ did begun (length input)
    program_run =
        commanded p r.is_sound r.idle r.awake w (program Array) input fits true
        ∙ ap (λ (g : Addressing). did (begun_by g) (length input)) three

    pub program_ticks : (k : ℕ) → k ≤ 4096 → tick (send p input).next k ≡ record { next = record_after k begun; number = 0; done = working_ticks k begun }
    program_ticks k b = rw program_run (ticks_run begun begun_sound k (omega (arith, b, ticks_most p r)))

    module _ (xs : List ℕ) (e : length xs ≡ array_bytes p.part.blocks) where
      pub program_array : (k : ℕ) → k ≤ 4096 → array_ticked (send p input).next k xs ≡ memory_after Array k begun xs
      program_array k b = rw program_run (ticks_memory begun begun_sound Array (length xs) k xs e (omega (arith, b, ticks_most p r)))

      first_kept : get_or (page_data d) 0 0 ≡ get_or d (passed_count d) 0
      first_kept = kept_byte d 0 (omega arith) ∙ ap (λ (k : ℕ). get_or d k 0) (add-zero (passed_count d))

      -- the first tick
      pub program_tick : array_ticked (send p input).next 1 xs ≡ narrowed xs (page_base address + page_place address (passed_count d)) (get_or d (passed_count d) 0)
      unfolding program_of page_place
      program_tick =
          program_array 1 (omega arith)
          ∙ ap (λ (k : ℕ). narrowed xs (page_base address + k) (get_or (page_data d) 0 0)) (omega arith)
          ∙ ap (narrowed xs (page_base address + page_place address (passed_count d))) first_kept
