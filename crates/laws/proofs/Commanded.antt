-- A write in its parts. On an idle, awake part with WEL 1 an input that fits answers 0, and a wait runs the operation that it begins to its end. On an idle, awake part 06h answers 0.
use Rattle.std.specs.Prelude.{Option, Some}
use Prim.Native.Nat.{ℕ, ◌≤◌}
use mathlib.Core.Path.{◌≡◌, refl, sym, ap, ◌∙◌}
use mathlib.Core.Bool.{Bool, true, false}
use mathlib.Core.List.{List, [], ◌∷◌}
use native.Mathlib.Omega.{arith}
use lib.ListN.{length, get_or}
use lib.Dec.{eqb}
use Rattle.types.specs.declared.Memory.{Memory}
use Rattle.types.specs.declared.Addressing.{Addressing}
use Rattle.types.specs.declared.Operation.{Operation}
use Rattle.types.specs.declared.Phase.{Phase}
use Rattle.types.specs.declared.Phase.TheVariants.{Idle, Busy}
use Rattle.types.specs.declared.Effect.{Effect}
use Rattle.types.specs.declared.Command.{Command}
use Rattle.types.specs.declared.Command.TheVariants.{WriteEnable}
use Rattle.types.specs.declared.Stored.{Stored}
use Rattle.types.specs.declared.Record.{Record}
use Rattle.types.specs.declared.Answer.{Answer}
use Rattle.words.specs.Logic.{◌or◌, unless, ◌or_else◌}
use Rattle.paper.specs.Sizes.{array_bytes, rows_bytes}
use Rattle.paper.specs.Program.{data_sent, page_data, no_data, program_of}
use Rattle.paper.specs.Erase.{erase_of}
use Rattle.paper.specs.Registers.{stored_after}
use Rattle.paper.specs.Records.{made, settled}
use Rattle.paper.specs.Operations.{ticks_in_all, Touch}
use Rattle.paper.specs.Soundness.{sound}
use Rattle.paper.specs.Table.{columns, addressing_on}
use Rattle.paper.specs.Commands.{changed, begins, begun, unarmed, change_by, errors_of}
use Rattle.paper.specs.Numbers.{address_ok, write_ok, command_number, ignored_number}
use Rattle.paper.specs.Reads.{first_driven}
use Rattle.paper.specs.Calls.{transacted}
use Rattle.paper.specs.ByPlace.{byte_ended}
use Rattle.paper.specs.History.{Call, answer_to_byte, record_after_calls, history, byte_after_all}
use Rattle.paper.proofs.Table.{known, write_state}
use Rattle.paper.proofs.MadeSound.{registers_again, target_stored}
use Rattle.paper.proofs.Soundness.{record_of}
use Rattle.paper.proofs.ManyTicks.{rest_record}
use Rattle.paper.proofs.TransactionKept.{transaction_sound}
use Rattle.paper.proofs.Answers.{executes}
use Rattle.paper.proofs.Histories.{rest_bytes}
use Rattle.paper.proofs.RunToEnd.{run_ends, run_leaves}
use Rattle.paper.proofs.AtRest.{at_rest_number}
use Rattle.laws.specs.Waiting.{all_wait, ticks_given}
use Rattle.laws.specs.Writes.{Kind, program, erase, effect_of, operation_of, enable, addressing_by, sent_as, begun_by, OfKind, Fitting, at_rest}
use Rattle.laws.proofs.Waiting.{Quiet, waited_record, waited_touches}

-- the record in another phase, with this latch and page data, unarmed; all else as it was
abbrev pub standing : Record → Phase → Bool → List ℕ → Record
standing p f wel g = record_of p.identity (unarmed (settled p.part f wel)) f g

pub standing_again : (p : Record) (f : Phase) (wel : Bool) (g : List ℕ) (h : Phase) (w : Bool) (k : List ℕ) → standing (standing p f wel g) h w k ≡ standing p h w k
standing_again p f wel g h w k = rw (registers_again f wel p.part.stored h w)

-- what is so of both kinds: the operation that the command begins; its error bits; no pin bars it; it writes no register; and which page data it keeps
kind_begins : (d : Kind) (g : Addressing) (n : ℕ) (i : List ℕ) → begins (effect_of d) g n i ≡ Some (operation_of d g n i)
kind_begins (program m) g n i = refl
kind_begins (erase u) g n i = refl

pub kind_errors : (d : Kind) → eqb (errors_of (effect_of d)) 0 ≡ false
kind_errors (program m) = refl
kind_errors (erase u) = refl

module _ (g : Addressing) (n : ℕ) (i : List ℕ) where
  kind_pin : (d : Kind) (s : Stored) (wp : Bool) → write_ok (operation_of d g n i) s wp ≡ true
  unfolding program_of erase_of
  kind_pin (program m) s wp = refl
  kind_pin (erase u) s wp = refl

  kind_stores : (d : Kind) (s : Stored) → stored_after (operation_of d g n i) s ≡ s
  unfolding program_of erase_of
  kind_stores (program m) s = refl
  kind_stores (erase u) s = refl

abbrev pub kept_for : Kind → Addressing → List ℕ → List ℕ → List ℕ
kept_for (program m) g i page = page_data (data_sent g i)
kept_for (erase u) g i page = page

kind_changes : (d : Kind) (g : Addressing) (o : Operation) (i : List ℕ) (p : Record) → p.phase ≡ Idle
    → changed (change_by (effect_of d) g (Some o) p.part p.phase i) i p ≡ standing p (Busy o) true (kept_for d g i p.page)
kind_changes (program m) g o i p e = ap (λ (f : Phase). changed (change_by (effect_of (program m)) g (Some o) p.part f i) i (record_of p.identity p.part f p.page)) e
kind_changes (erase u) g o i p e = ap (λ (f : Phase). changed (change_by (effect_of (erase u)) g (Some o) p.part f i) i (record_of p.identity p.part f p.page)) e

-- an executed transaction's answer
abbrev pub did : Record → ℕ → Answer
did q n = record { next = q; number = 0; first = n }

-- the record as an operation begins
abbrev pub started : Record → Kind → List ℕ → Record
started p d i = standing p (Busy (begun_by p d i)) true (kept_for d (sent_as p i) i p.page)

-- an input of a kind: how its address is sent, and what it begins
module _ (p : Record) (d : Kind) (i : List ℕ) (k : OfKind p.part.blocks p.part.bank d i) where
  pub sent_as_lem : addressing_on (columns k.command) p.part ≡ sent_as p i
  sent_as_lem = sym (ap (λ (c : Option Command). addressing_by c p.part.bank) k.known)

  pub begun_as_lem : begun (columns k.command) p.part i ≡ Some (begun_by p d i)
  begun_as_lem =
      ap (λ (x : Effect). begins x (addressing_on (columns k.command) p.part) p.part.blocks i) k.does
      ∙ ap (λ (g : Addressing). begins (effect_of d) g p.part.blocks i) sent_as_lem
      ∙ kind_begins d (sent_as p i) p.part.blocks i

-- an idle, awake part with WEL 1, and an input that fits it
module _ (p : Record) (s : sound p ≡ true) (idle : p.phase ≡ Idle) (awake : p.part.asleep ≡ false) (wel : p.part.wel ≡ true) (d : Kind) (i : List ℕ) (f : Fitting p d i) where
  abbrev working : Operation
  working = begun_by p d i

  abbrev command : Command
  command = f.code.command

  no_number : (wp : Bool) → ignored_number (Some command) p.part p.phase i wp ≡ 0
  no_number wp =
      let k = columns command in
      let g = addressing_on k p.part in
      ap (λ (h : Phase). command_number k g (begun k p.part i) p.part h i wp) idle
      ∙ ap (λ (w : Option Operation). command_number k g w p.part Idle i wp) (begun_as_lem p d i f.code)
      ∙ at_rest_number k g working p.part i wp awake wel f.right_length
      (write_state p.part.blocks p.part.bank (get_or i 0 0) command p.part Idle f.code.known (ap (λ (e : Effect). eqb (errors_of e) 0) f.code.does ∙ kind_errors d))
      (ap (λ (a : Addressing). address_ok k.named a i) (sent_as_lem p d i f.code) ∙ f.right_address)
      f.free_target
      (kind_pin (sent_as p i) p.part.blocks i d p.part.stored wp)

  begins_so : changed (change_by (columns command).effect (addressing_on (columns command) p.part) (begun (columns command) p.part i) p.part p.phase i) i p ≡ started p d i
  begins_so =
      let g = addressing_on (columns command) p.part in
      ap (λ (w : Option Operation). changed (change_by (columns command).effect g w p.part p.phase i) i p) (begun_as_lem p d i f.code)
      ∙ ap (λ (e : Effect). changed (change_by e g (Some working) p.part p.phase i) i p) f.code.does
      ∙ ap (λ (a : Addressing). changed (change_by (effect_of d) a (Some working) p.part p.phase i) i p) (sent_as_lem p d i f.code)
      ∙ kind_changes d (sent_as p i) working i p idle

  -- it answers 0, and the operation begins
  pub commanded : (wp : Bool) → transacted p (array_bytes p.part.blocks) rows_bytes wp i (length i) ≡ did (started p d i) (first_driven (columns command) (length i))
  commanded wp =
      executes p s wp command i f.some f.most f.code.known (no_number wp)
      ∙ ap (λ (q : Record). did q (first_driven (columns command) (length i))) begins_so

  pub started_sound : sound (started p d i) ≡ true
  started_sound =
      sym (ap (λ (a : Answer). sound a.next) (commanded true)) ∙ transaction_sound p (array_bytes p.part.blocks) rows_bytes true i (length i) s

  started_quiet : Quiet p.part.blocks p.part.bank (started p d i)
  started_quiet = record { is_sound = started_sound; awake = awake; unarmed = refl; size = refl; bank_is = refl }

  -- a wait that gives the ticks that it takes, or more, runs it to its end
  module _ (cs : List Call) (h : all_wait p.part.blocks p.part.bank cs ≡ true) (l : ticks_in_all working p.part.blocks ≤ ticks_given p.part.blocks cs) where
    pub rested : record_after_calls cs (started p d i) ≡ at_rest p
    rested =
        waited_record p.part.blocks p.part.bank cs (started p d i) started_quiet h
        ∙ run_ends (started p d i) working refl started_sound (ticks_given p.part.blocks cs) (omega (arith, l))
        ∙ ap (λ (g : Stored). record_of p.identity (made (started p d i).part g Idle false) Idle no_data) (kind_stores (sent_as p i) p.part.blocks i d (started p d i).part.stored)
        ∙ standing_again p (Busy working) true (kept_for d (sent_as p i) i p.page) Idle false no_data

    pub rested_bytes : (m : Memory) (at x : ℕ) → byte_after_all m at (history cs (started p d i)) x ≡ byte_ended working p.part.blocks (kept_for d (sent_as p i) i p.page) m at x
    rested_bytes m at x =
        ap (λ (ts : List Touch). byte_after_all m at ts x) (waited_touches p.part.blocks p.part.bank cs (started p d i) started_quiet h)
        ∙ run_leaves (started p d i) working refl started_sound (ticks_given p.part.blocks cs) (omega (arith, l)) m at x

-- an idle, awake part, and 06h
abbrev pub enabled : Record → Record
enabled p = standing p Idle true p.page

module _ (p : Record) (s : sound p ≡ true) (idle : p.phase ≡ Idle) (awake : p.part.asleep ≡ false) where
  enable_number : (wp : Bool) → ignored_number (Some WriteEnable) p.part p.phase (0x06 ∷ []) wp ≡ 0
  unfolding command_number ◌or◌ unless ◌or_else◌
  enable_number wp = rw (awake, idle)

  pub enables : (wp : Bool) → answer_to_byte wp 0x06 p ≡ did (enabled p) 1
  enables wp =
      executes p s wp WriteEnable (0x06 ∷ []) (omega arith) (omega arith) (known 0x06 WriteEnable refl refl p.part.blocks p.part.bank) (enable_number wp)
      ∙ ap (λ (f : Phase). did (standing p f true p.page) 1) idle

  pub enabled_sound : sound (enabled p) ≡ true
  enabled_sound =
      sym (ap (λ (a : Answer). sound a.next) (enables true)) ∙ transaction_sound p (array_bytes p.part.blocks) rows_bytes true (0x06 ∷ []) 1 s

  enabled_quiet : Quiet p.part.blocks p.part.bank (enabled p)
  enabled_quiet = record { is_sound = enabled_sound; awake = awake; unarmed = refl; size = refl; bank_is = refl }

  -- and checks
  module _ (wp : Bool) (cs : List Call) (h : all_wait p.part.blocks p.part.bank cs ≡ true) where
    pub opened : record_after_calls (enable wp ∷ cs) p ≡ enabled p
    opened =
        ap (λ (a : Answer). record_after_calls cs a.next) (enables wp)
        ∙ waited_record p.part.blocks p.part.bank cs (enabled p) enabled_quiet h
        ∙ rest_record (enabled p) refl (ticks_given p.part.blocks cs)

    pub opened_bytes : (m : Memory) (at x : ℕ) → byte_after_all m at (history (enable wp ∷ cs) p) x ≡ x
    opened_bytes m at x =
        ap (λ (a : Answer). byte_after_all m at (history cs a.next) x) (enables wp)
        ∙ ap (λ (ts : List Touch). byte_after_all m at ts x) (waited_touches p.part.blocks p.part.bank cs (enabled p) enabled_quiet h)
        ∙ rest_bytes m at (ticks_given p.part.blocks cs) (enabled p) x refl

-- what fits a part fits it in another phase and with another latch, and the other way round
module _ (p : Record) (h : Phase) (wel : Bool) (g : List ℕ) (d : Kind) (i : List ℕ) where
  pub fits_standing : Fitting p d i → Fitting (standing p h wel g) d i
  fits_standing f =
      record {
        code = f.code;
        some = f.some;
        most = f.most;
        right_length = f.right_length;
        right_address = f.right_address;
        free_target = target_stored h wel p.part.stored (begun_by p d i) p.part.blocks ∙ f.free_target;
      }

  pub standing_fits : Fitting (standing p h wel g) d i → Fitting p d i
  standing_fits f =
      record {
        code = f.code;
        some = f.some;
        most = f.most;
        right_length = f.right_length;
        right_address = f.right_address;
        free_target = sym (target_stored h wel p.part.stored (begun_by p d i) p.part.blocks) ∙ f.free_target;
      }
