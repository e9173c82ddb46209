-- What a transaction keeps: refused, ignored or executed, it keeps a record sound, and its size and identity.
use Rattle.std.specs.Prelude.{None, Option, Some}
use Prim.Native.Nat.{ℕ, ◌+◌, ◌≤◌}
use mathlib.Core.Path.{◌≡◌, refl, sym, ap, ◌∙◌, subst}
use mathlib.Core.Bool.{Bool, true, false, not, cond, false≢true}
use mathlib.Core.List.{List}
use lib.ListN.{length, get_or}
use lib.Dec.{eqb}
use native.Mathlib.Omega.{arith}
use borrow.Author.Tests.{eqb-true, eq-eqb, leb-true, not-true}
use Rattle.types.specs.declared.Memory.{Memory}
use Rattle.types.specs.declared.Memory.TheVariants.{Array, Rows}
use Rattle.types.specs.declared.Addressing.{Addressing}
use Rattle.types.specs.declared.Addressing.TheVariants.{Three, Four}
use Rattle.types.specs.declared.EraseUnit.{EraseUnit}
use Rattle.types.specs.declared.EraseUnit.TheVariants.{Sector, Block32, Block64, Chip, Row}
use Rattle.types.specs.declared.Register.{Register}
use Rattle.types.specs.declared.Register.TheVariants.{Status, Function, Extended}
use Rattle.types.specs.declared.Operation.{Operation}
use Rattle.types.specs.declared.Phase.{Phase}
use Rattle.types.specs.declared.Phase.TheVariants.{Idle, Busy, Suspended, Nested}
use Rattle.types.specs.declared.Command.{Command}
use Rattle.types.specs.declared.Command.TheVariants.{Read, FastRead, ReadStatus, ReadFunction, ReadIdentity, ReadMakerDevice, Wake, ReadRow, WriteEnable, WriteDisable, WriteStatus, WriteFunction, PageProgram, SectorErase, BlockErase32, BlockErase64, ChipErase, Suspend, Resume, Sleep, ArmReset, Reset, RowErase, RowProgram, ReadExtended, SetStored, SetLive, ClearErrors, FarRead, FarFastRead, FarPageProgram, FarPageProgramAtRest, FarSectorErase, FarBlockErase32, FarBlockErase64, ReadBank, WriteBank, EnterFar, LeaveFar}
use Rattle.types.specs.declared.Length.{Length}
use Rattle.types.specs.declared.Length.TheVariants.{Exactly, AtLeast}
use Rattle.types.specs.declared.Taken.TheVariants.{Rest, Esus}
use Rattle.types.specs.declared.Named.{Named}
use Rattle.types.specs.declared.Named.TheVariants.{Bare}
use Rattle.types.specs.declared.Wanted.{Wanted}
use Rattle.types.specs.declared.Wanted.TheVariants.{Any}
use Rattle.types.specs.declared.Source.TheVariants.{Void}
use Rattle.types.specs.declared.Effect.{Effect}
use Rattle.types.specs.declared.Effect.TheVariants.{Looks, Enables, Disables, Programs, Erases, Writes, Suspends, Resumes, Sleeps, Wakes, Arms, Resets, SetsLive, ClearsErrors, SetsBank, SetsFar}
use Rattle.types.specs.declared.Part.{Part}
use Rattle.types.specs.declared.Record.{Record}
use Rattle.types.specs.declared.Data.{Data}
use Rattle.types.specs.declared.Data.TheVariants.{Kept, Sent}
use Rattle.types.specs.declared.Change.TheVariants.{Marked, Live}
use Rattle.types.specs.declared.Outcome.{Outcome}
use Rattle.words.specs.Logic.{◌or◌}
use Rattle.words.specs.Lists.{all_zero}
use Rattle.words.proofs.Tests.{and_l, and_r, and_in, or_true, or_false}
use Rattle.paper.specs.Sizes.{is_large}
use Rattle.paper.specs.Address.{address_count}
use Rattle.paper.specs.Program.{data_sent, page_data, program_of}
use Rattle.paper.specs.Erase.{memory_of, erase_of}
use Rattle.paper.specs.Registers.{bits_at, write_of, live_set, live_cleared, live_failed, extadd, upper_bank, bank_turned}
use Rattle.paper.specs.Phases.{halted, is_erase, erase_halted, is_busy, is_suspended, working_on, suspended_in, resumed_in}
use Rattle.paper.specs.Records.{settled, marked, resting, with_live, with_bank}
use Rattle.paper.specs.Operations.{target_free, outside_of}
use Rattle.paper.specs.Suspend.{suspendable, resumable}
use Rattle.paper.specs.Soundness.{sleep_ok, latch_ok, large_ok, page_ok, sound, sound_of}
use Rattle.paper.specs.Table.{decoded, line, WEL, columns, addressing_on}
use Rattle.paper.specs.Commands.{changed, begun, starts, change_by, errors_of, change_barred, change_ignored}
use Rattle.paper.specs.Numbers.{free_ok, ignored_number, transaction_refusal}
use Rattle.paper.specs.Calls.{refused, ignored, executed, outcome_to, outcome_of, transacted}
use Rattle.paper.proofs.Phases.{idle_of}
use Rattle.paper.proofs.Bits.{large_as}
use Rattle.paper.proofs.MadeSound.{made_sound}
use Rattle.paper.proofs.Table.{bank_large}
use Rattle.paper.proofs.Soundness.{sound_parts, sound_of_lem, sound_whole, sound_in, marked_sound, live_sound, awake_ok}
use Rattle.paper.proofs.Numbers.{CommandTaken, command_taken}
use Rattle.paper.proofs.Begun.{Valid, settled_sound, program_begun, program_nested, erase_begun, write_begun, idle_empty}
use Rattle.paper.proofs.Kept.{fresh_sound, unbanked}

-- what holds of each refusal, of each way to be ignored, and of a command that no number applies to, holds of a transaction's outcome
module _ (Q : Outcome → Type 0) (p : Part) (f : Phase) (wp : Bool) (i : List ℕ)
    (turned-away : (n : ℕ) → Q (refused n)) (passed_over : (d : Option Command) (n : ℕ) → Q (ignored d n p (length i)))
    (did : (k : Command) → decoded p.blocks p.bank (get_or i 0 0) ≡ Some k → ignored_number (Some k) p f i wp ≡ 0 → Q (executed (columns k) p f i)) where
  answered_to : (k : Command) → decoded p.blocks p.bank (get_or i 0 0) ≡ Some k → (t : Bool) → eqb (ignored_number (Some k) p f i wp) 0 ≡ t
      → Q (cond t (executed (columns k) p f i) (ignored (Some k) (ignored_number (Some k) p f i wp) p (length i)))
  answered_to k c true e = did k c (eqb-true _ _ e)
  answered_to k c false e = passed_over (Some k) (ignored_number (Some k) p f i wp)

  outcome_to_lem : (d : Option Command) → decoded p.blocks p.bank (get_or i 0 0) ≡ d → Q (outcome_to d p f wp i)
  outcome_to_lem (Some k) c = answered_to k c (eqb (ignored_number (Some k) p f i wp) 0) refl
  outcome_to_lem None c = passed_over None 20

  refused_or_not : (n : ℕ) (t : Bool) → Q (cond t (outcome_to (decoded p.blocks p.bank (get_or i 0 0)) p f wp i) (refused n))
  refused_or_not n true = outcome_to_lem (decoded p.blocks p.bank (get_or i 0 0)) refl
  refused_or_not n false = turned-away n

  pub any_outcome : (s : Bool) (a r o : ℕ) → Q (outcome_of p f s a r wp i o)
  unfolding outcome_of
  any_outcome s a r o =
      let n = transaction_refusal p.blocks s a r (length i) o in
      refused_or_not n (eqb n 0)

-- what holds of the record before, of it unarmed, with any live byte too, and of one after a command that no number applies to, holds of the record after a transaction
module _ (P : Record → Type 0) (p : Record) (wp : Bool) (i : List ℕ) (same : P p)
    (unmarked : P (changed (Marked false) i p)) (lived : (v : ℕ) → P (changed (Live v) i p))
    (did : (k : Command) → decoded p.part.blocks p.part.bank (get_or i 0 0) ≡ Some k → ignored_number (Some k) p.part p.phase i wp ≡ 0 → P (changed (executed (columns k) p.part p.phase i).change i p)) where
  -- ignored with 28, or with another number
  barred_or_not : (e : Effect) (t : Bool) → P (changed (cond t (change_barred e p.part) (Marked false)) i p)
  barred_or_not e true = lived (live_failed (errors_of e) p.part.live)
  barred_or_not e false = unmarked

  ignored_so : (d : Option Command) (n : ℕ) → P (changed (change_ignored d n p.part) i p)
  ignored_so (Some k) n = barred_or_not (columns k).effect (eqb n 28)
  ignored_so None n = unmarked

  pub after_transaction : (a r o : ℕ) → P (transacted p a r wp i o).next
  unfolding transacted
  after_transaction = any_outcome (λ (u : Outcome). P (changed u.change i p)) p.part p.phase wp i (λ n. same) ignored_so did (sound p)

-- a part of the same size
abbrev SameSize : Part → Record → Type 0
SameSize p q = q.part.blocks ≡ p.blocks

module _ (p : Record) (i : List ℕ) where
  starts_same : (w : Option Operation) (d : Data) → SameSize p.part (changed (starts w p.part p.phase d) i p)
  starts_same None d = refl
  starts_same (Some o) d = refl

  change_same : (e : Effect) (a : Addressing) (w : Option Operation) → SameSize p.part (changed (change_by e a w p.part p.phase i) i p)
  change_same Looks a w = refl
  change_same Enables a w = refl
  change_same Disables a w = refl
  change_same (Programs m) a w = starts_same w (Sent a)
  change_same (Erases u) a w = starts_same w Kept
  change_same (Writes r) a w = starts_same w Kept
  change_same Suspends a w = refl
  change_same Resumes a w = refl
  change_same Sleeps a w = refl
  change_same Wakes a w = refl
  change_same Arms a w = refl
  change_same Resets a w = refl
  change_same SetsLive a w = refl
  change_same ClearsErrors a w = refl
  change_same SetsBank a w = refl
  change_same (SetsFar far) a w = refl

  module _ (a r : ℕ) (wp : Bool) (o : ℕ) where
    pub transaction_size : (transacted p a r wp i o).next.part.blocks ≡ p.part.blocks
    transaction_size =
        after_transaction (SameSize p.part) p wp i refl refl (λ v. refl)
        (λ k c e. change_same (columns k).effect (addressing_on (columns k) p.part) (begun (columns k) p.part i)) a r o

    pub transaction_identity : (transacted p a r wp i o).next.identity ≡ p.identity
    unfolding transacted
    transaction_identity = refl

-- a bank register that is written has bits 6..1 zero
turned_large : (n function : ℕ) (far : Bool) (b : ℕ) → is_large n ≡ true → large_ok n function (bank_turned far b) ≡ true
turned_large n function true b e =
    rw (large_as n function (bank_turned true b), e) (eq-eqb (bits_at 6 1 (bank_turned true b)) 0 (omega arith))
turned_large n function false b e =
    rw (large_as n function (bank_turned false b), e) (eq-eqb (bits_at 6 1 (bank_turned false b)) 0 (omega arith))

-- what commands that are taken make of a sound record
module _ (p : Record) (s : sound p ≡ true) where
  marks : (armed : Bool) → sound_of (marked p.part armed) p.phase p.page ≡ true
  marks armed = marked_sound p.part p.phase p.page armed s

  -- the live byte does not matter
  lives : (v : ℕ) → sound_of (with_live (marked p.part false) v) p.phase p.page ≡ true
  lives v = live_sound (marked p.part false) p.phase p.page v (marks false)

  -- a part that is made anew, unarmed
  unarms : (q : Part) (f : Phase) (g : List ℕ) → sound_of q f g ≡ true → sound_of (marked q false) f g ≡ true
  unarms q f g h = marked_sound q f g false h

  suspends : (f : Phase) → p.phase ≡ f → suspendable f ≡ true → sound_of (settled p.part (suspended_in f) false) (suspended_in f) p.page ≡ true
  unfolding page_ok
  suspends Idle e h = absurd (false≢true (and_l _ _ h))
  suspends (Busy o) e h =
      let q = sound_in p (Busy o) e s in
      sound_of_lem (settled p.part (Suspended o) false) (Suspended o) p.page
      (made_sound p.part p.part.stored (Suspended o) false q.size q.sleep (or_true (is_erase o)) (and_in (and_l _ _ h) q.phase_ok_lem) q.large) q.page_ok_lem
  suspends (Suspended o) e h = absurd (false≢true (and_l _ _ h))
  suspends (Nested o x) e h = absurd (false≢true (and_r _ _ h))

  resumes : (f : Phase) → p.phase ≡ f → resumable f ≡ true → sound_of (settled p.part (resumed_in f) true) (resumed_in f) p.page ≡ true
  unfolding page_ok
  resumes Idle e h = absurd (false≢true h)
  resumes (Busy o) e h = absurd (false≢true h)
  resumes (Suspended o) e h =
      let q = sound_in p (Suspended o) e s in
      sound_of_lem (settled p.part (Busy o) true) (Busy o) p.page
      (made_sound p.part p.part.stored (Busy o) true q.size q.sleep refl (and_r _ _ q.phase_ok_lem) q.large) q.page_ok_lem
  resumes (Nested o x) e h = absurd (false≢true h)

  rests : (asleep : Bool) → sleep_ok p.phase asleep ≡ true → sound_of (resting p.part asleep) p.phase p.page ≡ true
  rests asleep h =
      let q = sound_parts p s in
      sound_whole (resting p.part asleep) p.phase p.page (record { size = q.size; sleep = h; latch = q.latch; phase_ok_lem = q.phase_ok_lem; bits = q.bits; large = q.large; page_ok_lem = q.page_ok_lem })

  -- what is taken by an awake part that is idle or suspended from an erase
  module _ (awake : p.part.asleep ≡ false) where
    -- WEL is set or cleared
    latches : (wel : Bool) (f : Phase) → p.phase ≡ f → is_busy f ≡ false → (erase_halted f or not (is_suspended f)) ≡ true → sound_of (settled p.part f wel) f p.page ≡ true
    unfolding ◌or◌
    latches wel Idle e b h =
        let q = sound_in p Idle e s in
        settled_sound p.part q.size q.large awake Idle wel p.page refl refl q.page_ok_lem
    latches wel (Busy o) e b h = absurd (false≢true (sym b))
    latches wel (Suspended o) e b h =
        let q = sound_in p (Suspended o) e s in
        let l : latch_ok (Suspended o) wel ≡ true = ap (λ (t : Bool). t or not wel) (sym (or_false (is_erase o)) ∙ h) in
        settled_sound p.part q.size q.large awake (Suspended o) wel p.page l q.phase_ok_lem q.page_ok_lem
    latches wel (Nested o x) e b h = absurd (false≢true (sym b))

    -- a program begins; where an erase is suspended, outside of its unit
    begins_program : (w : Addressing) (i : List ℕ) → 2 + address_count w ≤ length i → (f : Phase) → p.phase ≡ f → is_busy f ≡ false → (erase_halted f or not (is_suspended f)) ≡ true
        → let o = program_of Array w p.part.blocks i in
        target_free o p.part.blocks p.part.stored ≡ true → outside_of (halted f) p.part.blocks o ≡ true
        → sound_of (settled p.part (working_on f o) true) (working_on f o) (page_data (data_sent w i)) ≡ true
    begins_program w i l Idle e b h g a =
        let q = sound_in p Idle e s in
        program_begun p.part q.size q.large awake w i l Array tt g
    begins_program w i l (Busy o) e b h g a = absurd (false≢true (sym b))
    begins_program w i l (Suspended o) e b h g a =
        let q = sound_in p (Suspended o) e s in
        program_nested p.part q.size q.large awake w i l o (sym (or_false (is_erase o)) ∙ h) q.phase_ok_lem g a
    begins_program w i l (Nested o x) e b h g a = absurd (false≢true (sym b))

  module _ (i : List ℕ) (wp : Bool) where
    module _ {l : Length} {v : Bool} {a : Named} {g : Wanted} {c : Effect} {w : Option Operation} (t : CommandTaken (line l v Esus a g Void 0 c) w p.part p.phase i wp) where
      awake_then : p.part.asleep ≡ false
      unfolding ◌or◌
      awake_then = not-true p.part.asleep t.not_asleep

      not_busy_then : is_busy p.phase ≡ false
      unfolding ◌or◌
      not_busy_then = not-true (is_busy p.phase) t.not_busy

      latched : (wel : Bool) → sound_of (settled p.part p.phase wel) p.phase p.page ≡ true
      latched wel = latches awake_then wel p.phase refl not_busy_then t.not_suspended

    -- a command that is taken only by an awake and idle part
    module _ {l : Length} {v : Bool} {a : Named} {g : Wanted} {c : Effect} {w : Option Operation} (t : CommandTaken (line l v Rest a g Void 0 c) w p.part p.phase i wp) where
      awake : p.part.asleep ≡ false
      unfolding ◌or◌
      awake = not-true p.part.asleep t.not_asleep

      idle : p.phase ≡ Idle
      unfolding ◌or◌
      idle = idle_of p.phase (not-true (is_busy p.phase) t.not_busy) (not-true (is_suspended p.phase) t.not_suspended)

      empty : all_zero p.page ≡ true
      empty = idle_empty p idle s

      -- what it begins runs alone
      starting : (o : Operation) (d : List ℕ) → sound_of (settled p.part (Busy o) true) (Busy o) d ≡ true
          → sound_of (settled p.part (working_on p.phase o) true) (working_on p.phase o) d ≡ true
      starting o d h =
          ap (λ (f : Phase). sound_of (settled p.part (working_on f o) true) (working_on f o) d) idle ∙ h

      sleeps : sound_of (resting p.part true) p.phase p.page ≡ true
      unfolding ◌or◌
      sleeps = rests true (ap (λ (f : Phase). sleep_ok f true) idle)

    -- what begins is free
    open_to : (o : Operation) → free_ok (Some o) p.part p.phase wp ≡ true → target_free o p.part.blocks p.part.stored ≡ true
    open_to o h = and_l _ _ h

    -- a program whose address is sent so, behind which a byte of data stands at least
    module _ {l : ℕ} {a : Named} (w : Addressing) (long : l ≡ 2 + address_count w) where
      programs_page : CommandTaken (line (AtLeast l) WEL Esus a Any Void 0 (Programs Array)) (Some (program_of Array w p.part.blocks i)) p.part p.phase i wp
          → sound (changed (starts (Some (program_of Array w p.part.blocks i)) p.part p.phase (Sent w)) i p) ≡ true
      programs_page t =
          unarms _ _ _
          (begins_program (awake_then t) w i (subst (λ (n : ℕ). n ≤ length i) long (leb-true l (length i) t.length_ok_lem)) p.phase refl (not_busy_then t) t.not_suspended (and_l _ _ t.free_ok_lem) (and_l _ _ (and_r _ _ t.free_ok_lem)))

      programs_at_rest : (m : Memory) → Valid m w i → CommandTaken (line (AtLeast l) WEL Rest a Any Void 0 (Programs m)) (Some (program_of m w p.part.blocks i)) p.part p.phase i wp
          → sound (changed (starts (Some (program_of m w p.part.blocks i)) p.part p.phase (Sent w)) i p) ≡ true
      programs_at_rest m v t =
          let o = program_of m w p.part.blocks i in
          let q = sound_parts p s in
          unarms _ _ _
          (starting t o (page_data (data_sent w i))
          (program_begun p.part q.size q.large (awake t) w i (subst (λ (n : ℕ). n ≤ length i) long (leb-true l (length i) t.length_ok_lem)) m v (open_to o t.free_ok_lem)))

    erases : {l : Length} {a : Named} (u : EraseUnit) (w : Addressing) → Valid (memory_of u) w i → CommandTaken (line l WEL Rest a Any Void 0 (Erases u)) (Some (erase_of u w p.part.blocks i)) p.part p.phase i wp
        → sound (changed (starts (Some (erase_of u w p.part.blocks i)) p.part p.phase Kept) i p) ≡ true
    erases u w v t =
        let o = erase_of u w p.part.blocks i in
        let q = sound_parts p s in
        unarms _ _ _ (starting t o p.page (erase_begun p.part q.size q.large (awake t) p.page (empty t) u w i v (open_to o t.free_ok_lem)))

    writes : (r : Register) → CommandTaken (line (Exactly 2) WEL Rest Bare Any Void 0 (Writes r)) (Some (write_of r i)) p.part p.phase i wp
        → sound (changed (starts (Some (write_of r i)) p.part p.phase Kept) i p) ≡ true
    writes r t =
        unarms _ _ _ (starting t (write_of r i) p.page (write_begun p.part (sound_parts p s).size (sound_parts p s).large (awake t) p.page (empty t) r i))

    -- the bank register is written, on the large part
    banks : (far : Bool) (b : ℕ) → is_large p.part.blocks ≡ true → sound_of (marked (with_bank p.part (bank_turned far b)) false) p.phase p.page ≡ true
    banks far b e =
        let q = sound_parts p s in
        unarms _ _ _
        (sound_whole (with_bank p.part (bank_turned far b)) p.phase p.page (record { size = q.size; sleep = q.sleep; latch = q.latch; phase_ok_lem = q.phase_ok_lem; bits = q.bits; large = turned_large p.part.blocks p.part.stored.function far b e; page_ok_lem = q.page_ok_lem }))

    executed_sound : (k : Command) → decoded p.part.blocks p.part.bank (get_or i 0 0) ≡ Some k → CommandTaken (columns k) (begun (columns k) p.part i) p.part p.phase i wp
        → sound (changed (executed (columns k) p.part p.phase i).change i p) ≡ true
    executed_sound Read c t = marks false
    executed_sound FastRead c t = marks false
    executed_sound ReadStatus c t = marks false
    executed_sound ReadFunction c t = marks false
    executed_sound ReadIdentity c t = marks false
    executed_sound ReadMakerDevice c t = marks false
    executed_sound Wake c t = unarms _ _ _ (rests false (awake_ok p.phase))
    executed_sound ReadRow c t = marks false
    executed_sound WriteEnable c t = unarms _ _ _ (latched t true)
    executed_sound WriteDisable c t = unarms _ _ _ (latched t false)
    executed_sound WriteStatus c t = writes Status t
    executed_sound WriteFunction c t = writes Function t
    executed_sound PageProgram c t = programs_page (Three (upper_bank p.part.bank)) refl t
    executed_sound SectorErase c t = erases Sector (Three (upper_bank p.part.bank)) tt t
    executed_sound BlockErase32 c t = erases Block32 (Three (upper_bank p.part.bank)) tt t
    executed_sound BlockErase64 c t = erases Block64 (Three (upper_bank p.part.bank)) tt t
    executed_sound ChipErase c t = erases Chip (Three false) tt t
    executed_sound Suspend c t = unarms _ _ _ (suspends p.phase refl t.state_ok_lem)
    executed_sound Resume c t = unarms _ _ _ (resumes p.phase refl t.state_ok_lem)
    executed_sound Sleep c t = unarms _ _ _ (sleeps t)
    executed_sound ArmReset c t = marks true
    executed_sound Reset c t = fresh_sound p.part.blocks p.identity p.part.stored (sound_parts p s).size (unbanked p.part.blocks p.part.stored.function p.part.bank (sound_parts p s).large)
    executed_sound RowErase c t = erases Row (Three false) t.address_ok_lem t
    executed_sound RowProgram c t = programs_at_rest (Three false) refl Rows t.address_ok_lem t
    executed_sound ReadExtended c t = marks false
    executed_sound SetStored c t = writes Extended t
    executed_sound SetLive c t = lives (live_set (get_or i 1 0) p.part.live)
    executed_sound ClearErrors c t = lives (live_cleared p.part.live)
    executed_sound FarRead c t = marks false
    executed_sound FarFastRead c t = marks false
    executed_sound FarPageProgram c t = programs_page Four refl t
    executed_sound FarPageProgramAtRest c t = programs_at_rest Four refl Array tt t
    executed_sound FarSectorErase c t = erases Sector Four tt t
    executed_sound FarBlockErase32 c t = erases Block32 Four tt t
    executed_sound FarBlockErase64 c t = erases Block64 Four tt t
    executed_sound ReadBank c t = marks false
    executed_sound WriteBank c t = banks (extadd (get_or i 1 0)) (get_or i 1 0) (bank_large p.part.blocks p.part.bank (get_or i 0 0) WriteBank c refl)
    executed_sound EnterFar c t = banks true p.part.bank (bank_large p.part.blocks p.part.bank (get_or i 0 0) EnterFar c refl)
    executed_sound LeaveFar c t = banks false p.part.bank (bank_large p.part.blocks p.part.bank (get_or i 0 0) LeaveFar c refl)

pub transaction_sound : (p : Record) (a r : ℕ) (wp : Bool) (i : List ℕ) (o : ℕ) → sound p ≡ true → sound (transacted p a r wp i o).next ≡ true
transaction_sound p a r wp i o s =
    after_transaction (λ (q : Record). sound q ≡ true) p wp i s (marks p s false) (lives p s)
    (λ k c e. executed_sound p s i wp k c (command_taken (columns k) (begun (columns k) p.part i) p.part p.phase i wp e))
    a r o
