-- A byte whose block is protected throughout, or whose row is locked throughout, holds its starting value after any run of calls: no touch reaches it.
use Rattle.std.specs.Prelude.{None, Option, Some}
use Prim.Native.Nat.{ℕ, zero, suc, ◌+◌, ◌*◌, ◌/◌, ◌%◌, ◌≤◌, ◌<◌}
use mathlib.Core.Path.{◌≡◌, refl, sym, ap, ◌∙◌}
use mathlib.Core.Bool.{Bool, true, false, not, cond, false≢true}
use mathlib.Core.List.{List, [], ◌∷◌}
use mathlib.Core.Logic.{◌↔◌}
use native.Mathlib.Omega.{arith}
use lib.ListN.{length, get_or}
use lib.Dec.{eqb, leb, ltb}
use borrow.Author.Tests.{eqb-true, leb-true, ltb-true, not-true}
use Rattle.types.specs.declared.Memory.{Memory}
use Rattle.types.specs.declared.Memory.TheVariants.{Array, Rows}
use Rattle.types.specs.declared.EraseUnit.{EraseUnit}
use Rattle.types.specs.declared.EraseUnit.TheVariants.{Sector, Block32, Block64, Chip, Row}
use Rattle.types.specs.declared.Operation.{Operation}
use Rattle.types.specs.declared.Operation.TheVariants.{Program, Erase, Write}
use Rattle.types.specs.declared.Stored.{Stored}
use Rattle.types.specs.declared.Record.{Record}
use Rattle.words.specs.Logic.{◌and◌}
use Rattle.words.proofs.Tests.{and_l, and_r, fails}
use Rattle.paper.specs.Sizes.{array_bytes, rows_bytes, page_bytes, block_bytes, same_memory}
use Rattle.paper.specs.Protection.{code_of, whole_code, protected, locked}
use Rattle.paper.specs.Program.{page_base, page_place, narrowed_byte}
use Rattle.paper.specs.Erase.{memory_of, unit_bytes, unit_base, erased_byte}
use Rattle.paper.specs.Phases.{running, work_is, any_operation, is_busy}
use Rattle.paper.specs.Operations.{ticks_in_all, ticks_done, advanced_by, free, unit_free, next_touch}
use Rattle.paper.specs.Soundness.{sound}
use Rattle.paper.specs.Ticks.{finished, advanced, worked, ticked_at, record_after, touch_at, touch_of}
use Rattle.paper.specs.Calls.{ticked}
use Rattle.paper.specs.History.{Call, transaction, ticks, record_after_call, tick_touches, call_touches, history, byte_after, byte_after_all, shielded, shielded_throughout}
use Rattle.paper.proofs.Protected.{Blocked, not_free_exactly, none_protected, none_counted}
use Rattle.paper.proofs.Phases.{other_runs}
use Rattle.paper.proofs.Soundness.{InOrder, running_in_order}
use Rattle.paper.proofs.Kept.{run_sound}
use Rattle.paper.proofs.CallKept.{call_sound}
use Rattle.paper.proofs.Histories.{bytes_append}
use Rattle.history.specs.Run.{Run}
use Rattle.history.proofs.Told.{run_told}

-- the bytes of the array that are shielded are those of the protected blocks: first <= block < first + count, under the record's registers
pub shielded_exactly : (at : ℕ) (p : Record) → (shielded Array at p ≡ true) ↔ Blocked at p.part.blocks p.part.stored
shielded_exactly at p =
    let e = not_free_exactly at p.part.blocks p.part.stored in
    (λ h. e.0 (not-true _ h), λ w. ap not (e.1 w))

-- places of one block, or of one row, are free together
module _ (n : ℕ) (g : Stored) (at b : ℕ) where
  same_block : at / block_bytes ≡ b / block_bytes → free Array b n g ≡ true → free Array at n g ≡ true
  same_block e h = ap (λ (k : ℕ). not (protected (whole_code g) n k)) e ∙ h

  same_row : at / page_bytes ≡ b / page_bytes → free Rows b n g ≡ true → free Rows at n g ≡ true
  same_row e h = ap (λ (k : ℕ). not (locked g.function k)) e ∙ h

  -- a place of a page that begins at b
  page_free : (m : Memory) → page_base b ≡ b → b ≤ at → at < b + page_bytes → free m b n g ≡ true → free m at n g ≡ true
  page_free Array e l u h = same_block (omega arith) h
  page_free Rows e l u h = same_row (omega arith) h

  -- a place of a unit that begins at b
  unit_free_lem : (u : EraseUnit) → unit_base u n b ≡ b → b ≤ at → at < b + unit_bytes u n → unit_free u b n g ≡ true → free (memory_of u) at n g ≡ true
  unit_free_lem Sector e l h f = same_block (omega arith) f
  unit_free_lem Block32 e l h f = same_block (omega arith) f
  unit_free_lem Block64 e l h f = same_block (omega arith) f
  unit_free_lem Chip e l h f =
      let z : code_of g.status ≡ 0 = eqb-true _ _ f in
      ap not (none_protected (whole_code g) n (at / block_bytes) (none_counted n g z))
  unit_free_lem Row e l h f = same_row (omega arith) f

-- a test that only a free place can pass is failed at a place that is not free
failed : (m : Memory) (at n : ℕ) (g : Stored) (t : Bool) → not (free m at n g) ≡ true → (t ≡ true → free m at n g ≡ true) → t ≡ false
failed m at n g t shut h = fails t (λ e. false≢true (ap not (sym (h e)) ∙ shut))

-- what the next tick of an operation that is in order reaches, at a place that is not free
module _ (at n : ℕ) (g : Stored) where
  -- a test of a place of a memory w that only a free place of w can pass
  spares : (m w : Memory) (t : Bool) → (t ≡ true → free w at n g ≡ true) → not (free m at n g) ≡ true → (same_memory m w and t) ≡ false
  unfolding ◌and◌
  spares Array Array t h shut = failed Array at n g t shut h
  spares Array Rows t h shut = refl
  spares Rows Array t h shut = refl
  spares Rows Rows t h shut = failed Rows at n g t shut h

  -- the place that a program narrows next
  program_free : (m : Memory) (b s k d : ℕ) → InOrder (Program m s b k d) n g → eqb at (b + page_place s d) ≡ true → free m at n g ≡ true
  unfolding page_place
  program_free m b s k d i t =
      let e : at ≡ b + (s + d) % page_bytes = eqb-true _ _ t in
      page_free n g at b m (eqb-true _ _ i.begins) (omega arith) (omega arith) i.open_target

  -- a place of the page that an erase sets next
  erase_free : (u : EraseUnit) (b d : ℕ) → InOrder (Erase u b d) n g → (leb (b + d * page_bytes) at and ltb at (b + d * page_bytes + page_bytes)) ≡ true → free (memory_of u) at n g ≡ true
  erase_free u b d i t =
      let l : b + d * page_bytes ≤ at = leb-true _ _ (and_l _ _ t) in
      let h : at < b + d * page_bytes + page_bytes = ltb-true _ _ (and_r _ _ t) in
      unit_free_lem n g at b u (eqb-true _ _ i.begins) (omega arith) (omega (arith, i.going)) i.open_target

  next_spares : (m : Memory) (o : Operation) (d : List ℕ) (x : ℕ) → InOrder o n g → not (free m at n g) ≡ true → byte_after m at (next_touch o d) x ≡ x
  next_spares m (Program w s b k c) d x i shut = ap (λ (t : Bool). cond t (narrowed_byte x (get_or d c 0)) x) (spares m w (eqb at (b + page_place s c)) (program_free w b s k c i) shut)
  next_spares m (Erase u b c) d x i shut = ap (λ (t : Bool). cond t erased_byte x) (spares m (memory_of u) (leb (b + c * page_bytes) at and ltb at (b + c * page_bytes + page_bytes)) (erase_free u b c i) shut)
  next_spares m (Write r v) d x i shut = refl

module _ (m : Memory) (at : ℕ) where
  -- while a part is busy, the place is shielded
  abbrev Guarded : Record → Type 0
  Guarded p = is_busy p.phase ≡ true → shielded m at p ≡ true

  touch_spares : (p : Record) (w : Option Operation) (x : ℕ) → running p.phase ≡ w → sound p ≡ true → Guarded p → byte_after m at (touch_at w p.page) x ≡ x
  touch_spares p None x e s g = refl
  touch_spares p (Some o) x e s g = next_spares at p.part.blocks p.part.stored m o p.page x (running_in_order p o e s) (g (ap (work_is any_operation) e))

  -- a tick keeps it so: a register changes with the last tick alone, after which nothing runs
  worked_guarded : (p : Record) (o : Operation) (t : Bool) → shielded m at p ≡ true → Guarded (cond t (advanced p (advanced_by 1 o)) (finished p o))
  worked_guarded p o true g b = g
  worked_guarded p o false g b = absurd (false≢true (sym (ap (work_is any_operation) (other_runs p.phase None)) ∙ b))

  tick_guarded : (p : Record) (w : Option Operation) → running p.phase ≡ w → Guarded p → Guarded (ticked_at p w)
  unfolding worked
  tick_guarded p None e g = g
  tick_guarded p (Some o) e g =
      worked_guarded p o (ltb (ticks_done o + 1) (ticks_in_all o p.part.blocks)) (g (ap (work_is any_operation) e))

  run_guarded : (n : ℕ) (p : Record) → shielded m at p ≡ true → Guarded (record_after n p)
  run_guarded zero p h = λ b. h
  run_guarded (suc n) p h = tick_guarded (record_after n p) (running (record_after n p).phase) refl (run_guarded n p h)

  -- n ticks, a call and a list of calls spare the byte
  ticks_spare : (n : ℕ) (p : Record) (x : ℕ) → sound p ≡ true → shielded m at p ≡ true → byte_after_all m at (tick_touches n p) x ≡ x
  ticks_spare zero p x s h = refl
  ticks_spare (suc n) p x s h =
      bytes_append m at (tick_touches n p) (touch_of (record_after n p) ∷ []) x
      ∙ ap (byte_after m at (touch_of (record_after n p))) (ticks_spare n p x s h)
      ∙ touch_spares (record_after n p) (running (record_after n p).phase) x refl (run_sound n p s) (run_guarded n p h)

  call_as : (n : ℕ) (p : Record) (x : ℕ) (t : Bool) → byte_after_all m at (tick_touches n p) x ≡ x → byte_after_all m at (cond t (tick_touches n p) []) x ≡ x
  call_as n p x true e = e
  call_as n p x false e = refl

  call_spares : (c : Call) (p : Record) (x : ℕ) → sound p ≡ true → shielded m at p ≡ true → byte_after_all m at (call_touches c p) x ≡ x
  call_spares (transaction wp i o) p x s h = refl
  call_spares (ticks n) p x s h = call_as n p x (eqb (ticked p (array_bytes p.part.blocks) rows_bytes n).number 0) (ticks_spare n p x s h)

  history_spares : (cs : List Call) (p : Record) (x : ℕ) → sound p ≡ true → shielded_throughout m at cs p ≡ true → byte_after_all m at (history cs p) x ≡ x
  history_spares [] p x s h = refl
  history_spares (c ∷ cs) p x s h =
      bytes_append m at (call_touches c p) (history cs (record_after_call c p)) x
      ∙ ap (byte_after_all m at (history cs (record_after_call c p))) (call_spares c p x s (and_l _ _ h))
      ∙ history_spares cs (record_after_call c p) x (call_sound c p s) (and_r _ _ h)

-- a run of calls from a sound record over the part's own memory
module _ {cs : List Call} {p q : Record} {xs rs ys ts : List ℕ} (run : Run p xs rs cs q ys ts) (s : sound p ≡ true) (a : length xs ≡ array_bytes p.part.blocks) (r : length rs ≡ rows_bytes) where
  pub protected_kept : (at : ℕ) → at < length xs → shielded_throughout Array at cs p ≡ true → get_or ys at 0 ≡ get_or xs at 0
  protected_kept at l h = (run_told run s a r).array at l ∙ history_spares Array at cs p (get_or xs at 0) s h

  pub locked_kept : (at : ℕ) → at < length rs → shielded_throughout Rows at cs p ≡ true → get_or ts at 0 ≡ get_or rs at 0
  locked_kept at l h = (run_told run s a r).rows at l ∙ history_spares Rows at cs p (get_or rs at 0) s h
