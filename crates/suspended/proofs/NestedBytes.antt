-- The bytes of a suspended erase's unit: no program that runs within reaches one, so that they stay over every list of calls none of which lets the erase go.
use Rattle.std.specs.Prelude.{Some}
use Prim.Native.Nat.{ℕ, zero, suc, ◌+◌, ◌%◌, ◌≤◌, ◌<◌}
use mathlib.Core.Path.{◌≡◌, refl, sym, ap, ◌∙◌, subst}
use mathlib.Core.Bool.{Bool, true, false, not, cond, false≢true}
use mathlib.Core.List.{List, [], ◌∷◌}
use native.Mathlib.Omega.{arith}
use lib.ListN.{get_or}
use lib.Dec.{eqb}
use borrow.Author.Tests.{eqb-true, leb-true, ltb-true, le-leb, lt-ltb, not-true}
use Rattle.types.specs.declared.Memory.{Memory}
use Rattle.types.specs.declared.EraseUnit.{EraseUnit}
use Rattle.types.specs.declared.EraseUnit.TheVariants.{Sector, Block32, Block64, Chip, Row}
use Rattle.types.specs.declared.Operation.{Operation}
use Rattle.types.specs.declared.Operation.TheVariants.{Program, Erase, Write}
use Rattle.types.specs.declared.Phase.{Phase}
use Rattle.types.specs.declared.Phase.TheVariants.{Idle, Busy, Suspended, Nested}
use Rattle.types.specs.declared.Stored.{Stored}
use Rattle.types.specs.declared.Record.{Record}
use Rattle.words.specs.Logic.{◌and◌}
use Rattle.words.proofs.Tests.{and_l, and_r, and_in, fails}
use Rattle.paper.specs.Sizes.{array_bytes, rows_bytes, same_memory, page_bytes}
use Rattle.paper.specs.Program.{page_base, page_place, narrowed_byte}
use Rattle.paper.specs.Erase.{memory_of, unit_bytes, unit_base}
use Rattle.paper.specs.Phases.{running, halted}
use Rattle.paper.specs.Operations.{unit_suspends, in_unit, next_touch}
use Rattle.paper.specs.Soundness.{sound}
use Rattle.paper.specs.Ticks.{record_after, touch_at, touch_of}
use Rattle.paper.specs.Calls.{ticked}
use Rattle.paper.specs.History.{Call, transaction, ticks, record_after_call, tick_touches, call_touches, history, byte_after, byte_after_all}
use Rattle.paper.proofs.Sizes.{same_is}
use Rattle.paper.proofs.Phases.{no_work_at, at_same}
use Rattle.paper.proofs.Soundness.{InOrder, in_order, InNest, in-nest, sound_in}
use Rattle.paper.proofs.Kept.{run_sound, run_size}
use Rattle.paper.proofs.CallKept.{call_sound, call_size}
use Rattle.paper.proofs.Histories.{bytes_append}
use Rattle.suspended.specs.Interrupted.{none_releases}
use Rattle.suspended.proofs.HaltedKept.{run_halted, call_halted}

-- a unit that can be suspended begins where a page does, so that it holds a page whole, or no place of it
page_within : (u : EraseUnit) (n b c at : ℕ) → unit_suspends u ≡ true → unit_base u n b ≡ b → page_base c ≡ c → c ≤ at → at < c + page_bytes
    → b ≤ at → at < b + unit_bytes u n → (b ≤ c) × (c < b + unit_bytes u n)
page_within Sector n b c at s e f l h x y = (omega arith, omega arith)
page_within Block32 n b c at s e f l h x y = (omega arith, omega arith)
page_within Block64 n b c at s e f l h x y = (omega arith, omega arith)
page_within Chip n b c at s e f l h x y = absurd (false≢true s)
page_within Row n b c at s e f l h x y = absurd (false≢true s)

-- a program in order, in a page outside of a unit, writes next outside of it
module _ (n : ℕ) (g : Stored) (m : Memory) (at : ℕ) where
  reached_in : (u : EraseUnit) (b d : ℕ) (w : Memory) (c s k j : ℕ) → unit_suspends u ≡ true → InOrder (Erase u b d) n g → InOrder (Program w s c k j) n g
      → in_unit (Erase u b d) n m at ≡ true → (same_memory m w and eqb at (c + page_place s j)) ≡ true → in_unit (Erase u b d) n w c ≡ true
  unfolding page_place
  reached_in u b d w c s k j f x y i t =
      let q : at ≡ c + (s + j) % page_bytes = eqb-true _ _ (and_r _ _ t) in
      let l : b ≤ at = leb-true _ _ (and_l _ _ (and_r _ _ i)) in
      let h : at < b + unit_bytes u n = ltb-true _ _ (and_r _ _ (and_r _ _ i)) in
      let r = page_within u n b c at f (eqb-true _ _ x.begins) (eqb-true _ _ y.begins) (omega (arith, q)) (omega (arith, q)) l h in
      and_in (subst (λ (z : Memory). same_memory z (memory_of u) ≡ true) (same_is m w (and_l _ _ t)) (and_l _ _ i)) (and_in (le-leb _ _ r.0) (lt-ltb _ _ r.1))

  spared_next : (e o : Operation) (d : List ℕ) (x : ℕ) → InNest e o n → InOrder e n g → InOrder o n g → in_unit e n m at ≡ true → byte_after m at (next_touch o d) x ≡ x
  spared_next (Program w s b k c) o d x a y z i = absurd (false≢true i)
  spared_next (Write r v) o d x a y z i = absurd (false≢true i)
  spared_next (Erase u b c) (Erase v q j) d x a y z i = absurd (false≢true a.programs)
  spared_next (Erase u b c) (Write r v) d x a y z i = absurd (false≢true a.programs)
  spared_next (Erase u b c) (Program w s q k j) d x a y z i =
      let t = fails (same_memory m w and eqb at (q + page_place s j)) (λ t. false≢true (ap not (sym (reached_in u b c w q s k j a.suspends y z i t)) ∙ a.apart)) in
      ap (λ (b : Bool). cond b (narrowed_byte x (get_or d j 0)) x) t

-- a place in the unit of the erase that a sound part is suspended from
module _ (m : Memory) (at : ℕ) (e : Operation) where
  -- the inner program's next tick leaves it
  pub nested_spares : (p : Record) (o : Operation) (x : ℕ) → p.phase ≡ Nested o e → sound p ≡ true → in_unit e p.part.blocks m at ≡ true → byte_after m at (touch_of p) x ≡ x
  nested_spares p o x f s i =
      let n = p.part.blocks in
      let h = (sound_in p (Nested o e) f s).phase_ok_lem in
      ap (λ (g : Phase). byte_after m at (touch_at (running g) p.page) x) f
      ∙ spared_next n p.part.stored m at e o p.page x (in-nest e o n (and_l _ _ h)) (in_order e n p.part.stored (and_l _ _ (and_r _ _ h))) (in_order o n p.part.stored (and_r _ _ (and_r _ _ h))) i

  -- and so does the next tick of any part that is suspended from it
  spared_in : (p : Record) (f : Phase) (x : ℕ) → p.phase ≡ f → halted f ≡ Some e → sound p ≡ true → in_unit e p.part.blocks m at ≡ true → byte_after m at (touch_of p) x ≡ x
  spared_in p Idle x q h s i = absurd (no_work_at h)
  spared_in p (Busy o) x q h s i = absurd (no_work_at h)
  spared_in p (Suspended o) x q h s i = ap (λ (g : Phase). byte_after m at (touch_at (running g) p.page) x) q
  spared_in p (Nested o y) x q h s i = nested_spares p o x (q ∙ ap (λ (z : Operation). Nested o z) (at_same h)) s i

  halted_spares : (p : Record) (x : ℕ) → halted p.phase ≡ Some e → sound p ≡ true → in_unit e p.part.blocks m at ≡ true → byte_after m at (touch_of p) x ≡ x
  halted_spares p x = spared_in p p.phase x refl

  -- n ticks leave it
  pub ticks_spare_unit : (n : ℕ) (p : Record) (x : ℕ) → halted p.phase ≡ Some e → sound p ≡ true → in_unit e p.part.blocks m at ≡ true → byte_after_all m at (tick_touches n p) x ≡ x
  ticks_spare_unit zero p x h s i = refl
  ticks_spare_unit (suc n) p x h s i =
      bytes_append m at (tick_touches n p) (touch_of (record_after n p) ∷ []) x
      ∙ ap (byte_after m at (touch_of (record_after n p))) (ticks_spare_unit n p x h s i)
      ∙ halted_spares (record_after n p) x (run_halted n p ∙ h) (run_sound n p s) (ap (λ (b : ℕ). in_unit e b m at) (run_size n p) ∙ i)

  called_spares : (n : ℕ) (p : Record) (x : ℕ) (t : Bool) → byte_after_all m at (tick_touches n p) x ≡ x → byte_after_all m at (cond t (tick_touches n p) []) x ≡ x
  called_spares n p x true h = h
  called_spares n p x false h = refl

  -- so does a call
  call_spares_unit : (c : Call) (p : Record) (x : ℕ) → halted p.phase ≡ Some e → sound p ≡ true → in_unit e p.part.blocks m at ≡ true → byte_after_all m at (call_touches c p) x ≡ x
  call_spares_unit (transaction wp i o) p x h s k = refl
  call_spares_unit (ticks n) p x h s k =
      called_spares n p x (eqb (ticked p (array_bytes p.part.blocks) rows_bytes n).number 0) (ticks_spare_unit n p x h s k)

  -- and so do calls none of which lets the erase go
  pub calls_spare_unit : (cs : List Call) (p : Record) (x : ℕ) → halted p.phase ≡ Some e → sound p ≡ true → in_unit e p.part.blocks m at ≡ true → none_releases cs p ≡ true → byte_after_all m at (history cs p) x ≡ x
  calls_spare_unit [] p x h s i g = refl
  calls_spare_unit (c ∷ cs) p x h s i g =
      bytes_append m at (call_touches c p) (history cs (record_after_call c p)) x
      ∙ ap (byte_after_all m at (history cs (record_after_call c p))) (call_spares_unit c p x h s i)
      ∙ calls_spare_unit cs (record_after_call c p) x (call_halted c p e h (not-true _ (and_l _ _ g))) (call_sound c p s) (ap (λ (b : ℕ). in_unit e b m at) (call_size c p) ∙ i) (and_r _ _ g)
