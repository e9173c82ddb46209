-- What is suspended stays as it was, with the same target and as many ticks done, over every call but a resume or a reset that is executed.
use Rattle.std.specs.Prelude.{None, Option, Some}
use Prim.Native.Nat.{ℕ, zero, suc, ◌+◌}
use mathlib.Core.Path.{◌≡◌, refl, sym, ap, ◌∙◌, subst⁻¹}
use mathlib.Core.Bool.{Bool, true, false, not, cond, false≢true}
use mathlib.Core.List.{List, [], ◌∷◌, ◌++◌}
use mathlib.Core.Logic.{◌⊎◌, inl, inr}
use lib.ListN.{length, get_or}
use lib.Dec.{eqb, ltb}
use borrow.Author.Tests.{eqb-true, not-true}
use Rattle.types.specs.declared.Operation.{Operation}
use Rattle.types.specs.declared.Phase.{Phase}
use Rattle.types.specs.declared.Phase.TheVariants.{Idle}
use Rattle.types.specs.declared.Command.{Command}
use Rattle.types.specs.declared.Command.TheVariants.{Read, FastRead, ReadStatus, ReadFunction, ReadIdentity, ReadMakerDevice, Wake, ReadRow, WriteEnable, WriteDisable, WriteStatus, WriteFunction, PageProgram, SectorErase, BlockErase32, BlockErase64, ChipErase, Suspend, Resume, Sleep, ArmReset, Reset, RowErase, RowProgram, ReadExtended, SetStored, SetLive, ClearErrors, FarRead, FarFastRead, FarPageProgram, FarPageProgramAtRest, FarSectorErase, FarBlockErase32, FarBlockErase64, ReadBank, WriteBank, EnterFar, LeaveFar}
use Rattle.types.specs.declared.Effect.{Effect}
use Rattle.types.specs.declared.Effect.TheVariants.{Looks, Enables, Disables, Programs, Erases, Writes, Suspends, Resumes, Sleeps, Wakes, Arms, Resets, SetsLive, ClearsErrors, SetsBank, SetsFar}
use Rattle.types.specs.declared.Columns.{Columns}
use Rattle.types.specs.declared.Record.{Record}
use Rattle.types.specs.declared.Answer.{Answer}
use Rattle.types.specs.declared.Addressing.{Addressing}
use Rattle.types.specs.declared.Addressing.TheVariants.{Three, Four}
use Rattle.types.specs.declared.Data.{Data}
use Rattle.types.specs.declared.Data.TheVariants.{Kept, Sent}
use Rattle.types.specs.declared.Change.TheVariants.{Marked}
use Rattle.words.specs.Logic.{◌and◌}
use Rattle.words.proofs.Tests.{and_l, and_r}
use Rattle.paper.specs.Sizes.{array_bytes, rows_bytes}
use Rattle.paper.specs.Phases.{running, halted, work_is, any_operation, resumed_in}
use Rattle.paper.specs.Operations.{ticks_in_all, ticks_done, advanced_by}
use Rattle.paper.specs.Suspend.{suspendable}
use Rattle.paper.specs.Soundness.{sound}
use Rattle.paper.specs.Registers.{upper_bank}
use Rattle.paper.specs.Table.{codes, large_codes, far_codes, decoded, columns, addressing_on}
use Rattle.paper.specs.Commands.{changed, begun, starts, change_by, change_barred}
use Rattle.paper.specs.Numbers.{state_ok, transaction_refusal, ignored_number}
use Rattle.paper.specs.Calls.{refused, ignored, executed, outcome_to, outcome_of, transacted}
use Rattle.paper.specs.Ticks.{finished, advanced, worked, ticked_at, record_after}
use Rattle.paper.specs.History.{Call, transaction, ticks, record_after_call, record_after_calls}
use Rattle.paper.specs.Halted.{lets_go, lets_go_by, releases}
use Rattle.paper.proofs.Phases.{phase_halts, other_halts}
use Rattle.paper.proofs.Table.{codes_of}
use Rattle.paper.proofs.CallKept.{after_tick_call}
use Rattle.paper.proofs.Numbers.{command_taken}
use Rattle.paper.proofs.Answers.{executed_so}
use Rattle.suspended.specs.Interrupted.{none_releases}

-- what is suspended stays so where something goes on, and when it ends
worked_halted : (p : Record) (o : Operation) (t : Bool) → halted (cond t (advanced p (advanced_by 1 o)) (finished p o)).phase ≡ halted p.phase
worked_halted p o true = other_halts p.phase (Some (advanced_by 1 o))
worked_halted p o false = other_halts p.phase None

ticked_halted : (p : Record) (w : Option Operation) → halted (ticked_at p w).phase ≡ halted p.phase
unfolding worked
ticked_halted p None = refl
ticked_halted p (Some o) = worked_halted p o (ltb (ticks_done o + 1) (ticks_in_all o p.part.blocks))

-- ticks leave it
pub run_halted : (n : ℕ) (p : Record) → halted (record_after n p).phase ≡ halted p.phase
run_halted zero p = refl
run_halted (suc n) p = ticked_halted (record_after n p) (running (record_after n p).phase) ∙ run_halted n p

-- the codes that let what is suspended go are 7Ah, 30h and 99h, on the large part too
pub letting_go : codes_of (λ (k : Columns). lets_go k.effect) (far_codes ++ (codes ++ large_codes)) ≡ 0x7A ∷ 0x30 ∷ 0x99 ∷ []
letting_go = refl

-- where something is suspended, no suspend is executed
no_suspend : (f : Phase) (e : Operation) → halted f ≡ Some e → suspendable f ≡ true → ⊥
no_suspend f e h t = false≢true (sym (ap (λ (w : Option Operation). not (work_is any_operation w)) h) ∙ and_r _ _ t)

-- what each transaction makes of a part that is suspended from e
module _ (p : Record) (e : Operation) (h : halted p.phase ≡ Some e) where
  starts_halted : (w : Option Operation) (d : Data) (i : List ℕ) → halted (changed (starts w p.part p.phase d) i p).phase ≡ Some e
  starts_halted None d i = h
  starts_halted (Some o) d i = other_halts p.phase (Some o) ∙ h

  begun_halted : (k : Command) (d : Data) (i : List ℕ) → halted (changed (starts (begun (columns k) p.part i) p.part p.phase d) i p).phase ≡ Some e
  begun_halted k d i = starts_halted (begun (columns k) p.part i) d i

  executed_halted : (k : Command) (i : List ℕ) → lets_go (columns k).effect ≡ false → state_ok (columns k).wanted p.part p.phase ≡ true
      → halted (changed (executed (columns k) p.part p.phase i).change i p).phase ≡ Some e
  executed_halted Read i n t = h
  executed_halted FastRead i n t = h
  executed_halted ReadStatus i n t = h
  executed_halted ReadFunction i n t = h
  executed_halted ReadIdentity i n t = h
  executed_halted ReadMakerDevice i n t = h
  executed_halted Wake i n t = h
  executed_halted ReadRow i n t = h
  executed_halted WriteEnable i n t = h
  executed_halted WriteDisable i n t = h
  executed_halted WriteStatus i n t = begun_halted WriteStatus Kept i
  executed_halted WriteFunction i n t = begun_halted WriteFunction Kept i
  executed_halted PageProgram i n t = begun_halted PageProgram (Sent (Three (upper_bank p.part.bank))) i
  executed_halted SectorErase i n t = begun_halted SectorErase Kept i
  executed_halted BlockErase32 i n t = begun_halted BlockErase32 Kept i
  executed_halted BlockErase64 i n t = begun_halted BlockErase64 Kept i
  executed_halted ChipErase i n t = begun_halted ChipErase Kept i
  executed_halted Suspend i n t = absurd (no_suspend p.phase e h t)
  executed_halted Resume i n t = absurd (false≢true (sym n))
  executed_halted Sleep i n t = h
  executed_halted ArmReset i n t = h
  executed_halted Reset i n t = absurd (false≢true (sym n))
  executed_halted RowErase i n t = begun_halted RowErase Kept i
  executed_halted RowProgram i n t = begun_halted RowProgram (Sent (Three false)) i
  executed_halted ReadExtended i n t = h
  executed_halted SetStored i n t = begun_halted SetStored Kept i
  executed_halted SetLive i n t = h
  executed_halted ClearErrors i n t = h
  executed_halted FarRead i n t = h
  executed_halted FarFastRead i n t = h
  executed_halted FarPageProgram i n t = begun_halted FarPageProgram (Sent Four) i
  executed_halted FarPageProgramAtRest i n t = begun_halted FarPageProgramAtRest (Sent Four) i
  executed_halted FarSectorErase i n t = begun_halted FarSectorErase Kept i
  executed_halted FarBlockErase32 i n t = begun_halted FarBlockErase32 Kept i
  executed_halted FarBlockErase64 i n t = begun_halted FarBlockErase64 Kept i
  executed_halted ReadBank i n t = h
  executed_halted WriteBank i n t = h
  executed_halted EnterFar i n t = h
  executed_halted LeaveFar i n t = h

  module _ (wp : Bool) (i : List ℕ) where
    barred_halted : (c : Effect) (t : Bool) → halted (changed (cond t (change_barred c p.part) (Marked false)) i p).phase ≡ Some e
    barred_halted c true = h
    barred_halted c false = h

    taken_halted : (k : Command) (t : Bool) (n : ℕ) → (t ≡ true → state_ok (columns k).wanted p.part p.phase ≡ true)
        → let u = cond t (executed (columns k) p.part p.phase i) (ignored (Some k) n p.part (length i)) in
        (eqb u.number 0 and lets_go (columns k).effect) ≡ false → halted (changed u.change i p).phase ≡ Some e
    unfolding ◌and◌
    taken_halted k true n t g = executed_halted k i g (t refl)
    taken_halted k false n t g = barred_halted (columns k).effect (eqb n 28)

    decoded_halted : (d : Option Command) → let u = outcome_to d p.part p.phase wp i in
        (eqb u.number 0 and lets_go_by d) ≡ false → halted (changed u.change i p).phase ≡ Some e
    decoded_halted (Some k) g =
        let n = ignored_number (Some k) p.part p.phase i wp in
        taken_halted k (eqb n 0) n (λ t. (command_taken (columns k) (begun (columns k) p.part i) p.part p.phase i wp (eqb-true n 0 t)).state_ok_lem) g
    decoded_halted None g = h

    refused_halted : (t : Bool) (n : ℕ) → let u = cond t (outcome_to (decoded p.part.blocks p.part.bank (get_or i 0 0)) p.part p.phase wp i) (refused n) in
        (eqb u.number 0 and lets_go_by (decoded p.part.blocks p.part.bank (get_or i 0 0))) ≡ false → halted (changed u.change i p).phase ≡ Some e
    refused_halted true n g = decoded_halted (decoded p.part.blocks p.part.bank (get_or i 0 0)) g
    refused_halted false n g = h

-- an operation that is suspended stays so, with the same target and as many ticks done, over every call that does not let it go
pub call_halted : (c : Call) (p : Record) (e : Operation) → halted p.phase ≡ Some e → releases c p ≡ false → halted (record_after_call c p).phase ≡ Some e
unfolding transacted outcome_of
call_halted (transaction wp i o) p e h g =
    let n = transaction_refusal p.part.blocks (sound p) (array_bytes p.part.blocks) rows_bytes (length i) o in
    refused_halted p e h wp i (eqb n 0) n g
call_halted (ticks n) p e h g =
    after_tick_call (λ (q : Record). halted q.phase ≡ Some e) p n h (run_halted n p ∙ h) (array_bytes p.part.blocks) rows_bytes

-- and over a list of such calls
pub calls_halted : (cs : List Call) (p : Record) (e : Operation) → halted p.phase ≡ Some e → none_releases cs p ≡ true → halted (record_after_calls cs p).phase ≡ Some e
calls_halted [] p e h g = h
calls_halted (c ∷ cs) p e h g =
    calls_halted cs (record_after_call c p) e (call_halted c p e h (not-true _ (and_l _ _ g))) (and_r _ _ g)

-- a command that is executed and lets it go: what was suspended goes on, or the part is idle
abbrev pub LetGo : Phase → Phase → Type 0
LetGo f g = (g ≡ resumed_in f) ⊎ (g ≡ Idle)

module _ (p : Record) (i : List ℕ) where
  effect_releases : (c : Effect) (a : Addressing) (w : Option Operation) → lets_go c ≡ true → LetGo p.phase (changed (change_by c a w p.part p.phase i) i p).phase
  effect_releases Looks a w h = absurd (false≢true h)
  effect_releases Enables a w h = absurd (false≢true h)
  effect_releases Disables a w h = absurd (false≢true h)
  effect_releases (Programs m) a w h = absurd (false≢true h)
  effect_releases (Erases u) a w h = absurd (false≢true h)
  effect_releases (Writes r) a w h = absurd (false≢true h)
  effect_releases Suspends a w h = absurd (false≢true h)
  effect_releases Resumes a w h = inl refl
  effect_releases Sleeps a w h = absurd (false≢true h)
  effect_releases Wakes a w h = absurd (false≢true h)
  effect_releases Arms a w h = absurd (false≢true h)
  effect_releases Resets a w h = inr refl
  effect_releases SetsLive a w h = absurd (false≢true h)
  effect_releases ClearsErrors a w h = absurd (false≢true h)
  effect_releases SetsBank a w h = absurd (false≢true h)
  effect_releases (SetsFar far) a w h = absurd (false≢true h)

  decoded_releases : (wp : Bool) (o : ℕ) (d : Option Command) → decoded p.part.blocks p.part.bank (get_or i 0 0) ≡ d → lets_go_by d ≡ true → (transacted p (array_bytes p.part.blocks) rows_bytes wp i o).number ≡ 0
      → LetGo p.phase (record_after_call (transaction wp i o) p).phase
  decoded_releases wp o (Some k) e h z =
      subst⁻¹ (λ (t : Answer). LetGo p.phase t.next.phase) (executed_so p (array_bytes p.part.blocks) rows_bytes wp i o k e z) (effect_releases (columns k).effect (addressing_on (columns k) p.part) (begun (columns k) p.part i) h)
  decoded_releases wp o None e h z = absurd (false≢true h)

-- and so does every call that lets it go
pub call_lets_go : (c : Call) (p : Record) → releases c p ≡ true → LetGo p.phase (record_after_call c p).phase
call_lets_go (transaction wp i o) p h = decoded_releases p i wp o (decoded p.part.blocks p.part.bank (get_or i 0 0)) refl (and_r _ _ h) (eqb-true _ _ (and_l _ _ h))
call_lets_go (ticks n) p h = absurd (false≢true h)

-- nothing is suspended then
none_halted : (f g : Phase) → LetGo f g → halted g ≡ None
none_halted f g (inl e) = ap halted e ∙ phase_halts (halted f) None
none_halted f g (inr e) = ap halted e

pub call_releases : (c : Call) (p : Record) → releases c p ≡ true → halted (record_after_call c p).phase ≡ None
call_releases c p h = none_halted p.phase (record_after_call c p).phase (call_lets_go c p h)
