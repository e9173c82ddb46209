-- A locked row stays locked over every call: the tick of 42h sets IRL bits and clears none, and nothing else writes them.
use Rattle.std.specs.Prelude.{None, Option, Some}
use Prim.Native.Nat.{ℕ, zero, suc, ◌+◌, ◌*◌, ◌/◌, ◌%◌, ◌^◌}
use mathlib.Core.Path.{◌≡◌, sym, ap, ◌∙◌}
use mathlib.Core.Bool.{Bool, true, false, cond}
use mathlib.Core.List.{List}
use native.Mathlib.Omega.{arith}
use lib.Dec.{ltb}
use lib.Bits.{bit_or}
use borrow.Author.Tests.{eqb-true, eq-eqb}
use Rattle.types.specs.declared.Register.{Register}
use Rattle.types.specs.declared.Register.TheVariants.{Status, Function, Extended}
use Rattle.types.specs.declared.Operation.{Operation}
use Rattle.types.specs.declared.Operation.TheVariants.{Program, Erase, Write}
use Rattle.types.specs.declared.Phase.{Phase}
use Rattle.types.specs.declared.Phase.TheVariants.{Idle}
use Rattle.types.specs.declared.Effect.{Effect}
use Rattle.types.specs.declared.Effect.TheVariants.{Looks, Enables, Disables, Programs, Erases, Writes, Suspends, Resumes, Sleeps, Wakes, Arms, Resets, SetsLive, ClearsErrors, SetsBank, SetsFar}
use Rattle.types.specs.declared.Stored.{Stored}
use Rattle.types.specs.declared.Record.{Record}
use Rattle.types.specs.declared.Addressing.{Addressing}
use Rattle.types.specs.declared.Data.{Data}
use Rattle.types.specs.declared.Data.TheVariants.{Kept, Sent}
use Rattle.paper.specs.Sizes.{array_bytes, rows_bytes}
use Rattle.paper.specs.Protection.{locked}
use Rattle.paper.specs.Registers.{TBS, register_written, stored_after}
use Rattle.paper.specs.Phases.{running, working_on, suspended_in, resumed_in, rest_of}
use Rattle.paper.specs.Records.{registers_in}
use Rattle.paper.specs.Operations.{ticks_in_all, ticks_done, advanced_by}
use Rattle.paper.specs.Commands.{changed, begun, starts, change_by}
use Rattle.paper.specs.Table.{columns, addressing_on}
use Rattle.paper.specs.Ticks.{finished, advanced, worked, ticked_at, record_after}
use Rattle.paper.specs.History.{Call, transaction, ticks, record_after_call}
use Rattle.paper.proofs.Extended.{or_bit}
use Rattle.paper.proofs.MadeSound.{high_half, locks_made}
use Rattle.paper.proofs.TransactionKept.{after_transaction}
use Rattle.paper.proofs.CallKept.{after_tick_call}

-- a bit that is 1 is 1 in every OR with it
or_keeps : (a b k : ℕ) → a / 2 ^ k % 2 ≡ 1 → bit_or a b / 2 ^ k % 2 ≡ 1
or_keeps a b k h = or_bit a b k ∙ omega (arith, h)

-- what an operation's last tick makes of the function register
module _ (fn k : ℕ) (h : locked fn k ≡ true) where
  or_locked : (v : ℕ) → locked (bit_or (fn / 16) (v / 16) * 16 + 2 * TBS fn) k ≡ true
  unfolding locked
  or_locked v =
      let b : fn / 16 / 2 ^ k % 2 ≡ 1 = ap (λ (t : ℕ). t % 2) (sym (high_half fn k)) ∙ eqb-true _ _ h in
      let s : (bit_or (fn / 16) (v / 16) * 16 + 2 * TBS fn) / 16 ≡ bit_or (fn / 16) (v / 16) = omega arith in
      eq-eqb _ _ (ap (λ (t : ℕ). t % 2) (high_half (bit_or (fn / 16) (v / 16) * 16 + 2 * TBS fn) k ∙ ap (λ (t : ℕ). t / 2 ^ k) s) ∙ or_keeps (fn / 16) (v / 16) k b)

-- row k is locked under some registers
abbrev pub LockedIn : ℕ → Stored → Type 0
LockedIn k g = locked g.function k ≡ true

module _ (k : ℕ) (g : Stored) (h : LockedIn k g) where
  written_locked : (r : Register) (v : ℕ) → LockedIn k (register_written r v g)
  written_locked Status v = h
  written_locked Function v = or_locked g.function k h v
  written_locked Extended v = h

  after_locked : (o : Operation) → LockedIn k (stored_after o g)
  after_locked (Program m s b c d) = h
  after_locked (Erase u b d) = h
  after_locked (Write r v) = written_locked r v

  -- the registers of a part that is made in a phase
  made_locked : (f : Phase) (wel : Bool) → LockedIn k (registers_in f wel g)
  made_locked f wel = locks_made f wel g k ∙ h

-- row k is locked in a record
abbrev pub Locked : ℕ → Record → Type 0
Locked k p = LockedIn k p.part.stored

module _ (k : ℕ) (p : Record) (h : Locked k p) where
  starts_locked : (w : Option Operation) (d : Data) (i : List ℕ) → Locked k (changed (starts w p.part p.phase d) i p)
  starts_locked None d i = h
  starts_locked (Some o) d i = made_locked k p.part.stored h (working_on p.phase o) true

  effect_locked : (e : Effect) (a : Addressing) (w : Option Operation) (i : List ℕ) → Locked k (changed (change_by e a w p.part p.phase i) i p)
  effect_locked Looks a w i = h
  effect_locked Enables a w i = made_locked k p.part.stored h p.phase true
  effect_locked Disables a w i = made_locked k p.part.stored h p.phase false
  effect_locked (Programs m) a w i = starts_locked w (Sent a) i
  effect_locked (Erases u) a w i = starts_locked w Kept i
  effect_locked (Writes r) a w i = starts_locked w Kept i
  effect_locked Suspends a w i = made_locked k p.part.stored h (suspended_in p.phase) false
  effect_locked Resumes a w i = made_locked k p.part.stored h (resumed_in p.phase) true
  effect_locked Sleeps a w i = h
  effect_locked Wakes a w i = h
  effect_locked Arms a w i = h
  effect_locked Resets a w i = made_locked k p.part.stored h Idle false
  effect_locked SetsLive a w i = h
  effect_locked ClearsErrors a w i = h
  effect_locked SetsBank a w i = h
  effect_locked (SetsFar far) a w i = h

  worked_locked : (o : Operation) (t : Bool) → Locked k (cond t (advanced p (advanced_by 1 o)) (finished p o))
  worked_locked o true = h
  worked_locked o false = made_locked k (stored_after o p.part.stored) (after_locked k p.part.stored h o) (rest_of p.phase) false

  ticked_locked : (w : Option Operation) → Locked k (ticked_at p w)
  unfolding worked
  ticked_locked None = h
  ticked_locked (Some o) = worked_locked o (ltb (ticks_done o + 1) (ticks_in_all o p.part.blocks))

run_locked : (k n : ℕ) (p : Record) → Locked k p → Locked k (record_after n p)
run_locked k zero p h = h
run_locked k (suc n) p h = ticked_locked k (record_after n p) (run_locked k n p h) (running (record_after n p).phase)

pub call_locked : (c : Call) (k : ℕ) (p : Record) → Locked k p → Locked k (record_after_call c p)
call_locked (transaction wp i o) k p h =
    after_transaction (Locked k) p wp i h h (λ v. h)
    (λ c d e. effect_locked k p h (columns c).effect (addressing_on (columns c) p.part) (begun (columns c) p.part i) i) (array_bytes p.part.blocks) rows_bytes o
call_locked (ticks n) k p h =
    after_tick_call (Locked k) p n h (run_locked k n p h) (array_bytes p.part.blocks) rows_bytes
