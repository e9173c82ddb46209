-- What power-up and ticks keep: the record that power-up gives is sound and, not refused, as asked; ticks keep a record sound and its size; at most as many ticks do work as are asked.
use Rattle.std.specs.Prelude.{None, Option, Some}
use Prim.Native.Nat.{ℕ, zero, suc, ◌+◌, ◌≤◌, ◌<◌}
use mathlib.Core.Path.{◌≡◌, refl, sym, ap, ◌∙◌, subst}
use mathlib.Core.Bool.{Bool, true, false, cond, false≢true}
use mathlib.Core.List.{List}
use native.Mathlib.Omega.{arith}
use lib.ListN.{drop}
use lib.Dec.{eqb, ltb}
use borrow.Author.Tests.{eqb-true, eqb-false, ltb-true}
use Rattle.types.specs.declared.Operation.{Operation}
use Rattle.types.specs.declared.Operation.TheVariants.{Program, Erase, Write}
use Rattle.types.specs.declared.Register.TheVariants.{Status, Function, Extended}
use Rattle.types.specs.declared.Phase.{Phase}
use Rattle.types.specs.declared.Phase.TheVariants.{Idle, Busy, Suspended, Nested}
use Rattle.types.specs.declared.Identity.{Identity}
use Rattle.types.specs.declared.Stored.{Stored}
use Rattle.types.specs.declared.Part.{Part}
use Rattle.types.specs.declared.PoweredUp.{PoweredUp}
use Rattle.types.specs.declared.Record.{Record}
use Rattle.words.specs.Logic.{◌and◌, ◌or◌}
use Rattle.words.specs.Lists.{all_zero}
use Rattle.words.proofs.Tests.{and_l, and_r, and_in, or_true, unless_zero, or_else_zero, bit_le}
use Rattle.paper.specs.Sizes.{size_ok}
use Rattle.paper.specs.Program.{no_data}
use Rattle.paper.specs.Phases.{running, is_program, is_erase, is_busy, working_on, rest_of}
use Rattle.paper.specs.Records.{made, fresh_part, fresh}
use Rattle.paper.specs.Operations.{ticks_in_all, ticks_done, advanced_by, kept_by}
use Rattle.paper.specs.Registers.{TBS, stored_after, bank_loaded}
use Rattle.paper.specs.Soundness.{latch_ok, nest_ok, bits_ok, large_ok, page_ok, sound, sound_of}
use Rattle.paper.specs.Numbers.{power_up_number}
use Rattle.paper.specs.Calls.{no_identity, no_stored, zero_record, powered_up}
use Rattle.paper.specs.Ticks.{finished_part, finished, advanced, worked, ticked_at, tick_once, record_after, working_ticks}
use Rattle.paper.proofs.Phases.{no_work_at, at_same}
use Rattle.paper.proofs.Bits.{given_as}
use Rattle.paper.proofs.MadeSound.{made_sound}
use Rattle.paper.proofs.Soundness.{Sound, sound_parts, sound_of_lem, sound_whole, InOrder, in_order, in-order-whole, in-nest}

no_data_zero : all_zero no_data ≡ true
unfolding no_data ◌and◌
no_data_zero = refl

-- an idle part with WEL 0 and page data zero, asleep or awake
pub idle_sound : (p : Part) (g : Stored) → size_ok p.blocks ≡ true → large_ok p.blocks g.function p.bank ≡ true → sound_of (made p g Idle false) Idle no_data ≡ true
unfolding ◌or◌ page_ok
idle_sound p g s b =
    sound_of_lem (made p g Idle false) Idle no_data (made_sound p g Idle false s refl refl refl b) no_data_zero

pub fresh_sound : (n : ℕ) (id : Identity) (g : Stored) → size_ok n ≡ true → large_ok n g.function bank_loaded ≡ true → sound (fresh n id g) ≡ true
fresh_sound n id g s b = idle_sound (fresh_part n g) g s b

-- a bank register of 0 goes with TBS as any does
pub unbanked : (n function bank : ℕ) → large_ok n function bank ≡ true → large_ok n function bank_loaded ≡ true
unfolding large_ok
unbanked n function bank h = and_in (and_l _ _ h) (and_in refl (or_true _))

module _ (n : ℕ) (id : Identity) (g : Stored) where
  number_zero : power_up_number n g ≡ 0 → (size_ok n ≡ true) × (large_ok n g.function bank_loaded ≡ true)
  unfolding power_up_number
  number_zero e =
      let z = or_else_zero _ _ e in
      (unless_zero _ 0 z.0, and_r _ _ (sym (given_as n g) ∙ unless_zero _ 4 z.1))

  power_up_as : (t : Bool) → eqb (power_up_number n g) 0 ≡ t
      → sound (cond {A = PoweredUp} t (record { next = fresh n id g; number = 0 }) (record { next = zero_record; number = power_up_number n g })).next ≡ true
  unfolding size_ok large_ok ◌and◌ ◌or◌
  power_up_as true e =
      let z = number_zero (eqb-true _ _ e) in
      fresh_sound n id g z.0 z.1
  power_up_as false e = fresh_sound 1 no_identity no_stored refl refl

  -- refused or not
  pub power_up_sound : sound (powered_up n id g).next ≡ true
  unfolding powered_up
  power_up_sound = power_up_as (eqb (power_up_number n g) 0) refl

  powered_as_lem : (t : Bool) → eqb (power_up_number n g) 0 ≡ t
      → (cond {A = PoweredUp} t (record { next = fresh n id g; number = 0 }) (record { next = zero_record; number = power_up_number n g })).number ≡ 0
      → (cond {A = PoweredUp} t (record { next = fresh n id g; number = 0 }) (record { next = zero_record; number = power_up_number n g })).next ≡ fresh n id g
  powered_as_lem true e h = refl
  powered_as_lem false e h = absurd (eqb-false _ _ e h)

  -- not refused, it is of what was asked
  pub powered_fresh : (powered_up n id g).number ≡ 0 → (powered_up n id g).next ≡ fresh n id g
  unfolding powered_up
  powered_fresh = powered_as_lem (eqb (power_up_number n g) 0) refl

-- an operation with ticks more done that are not the last is in order, and keeps as many bytes
module _ (t n : ℕ) (g : Stored) where
  advanced_in_order : (o : Operation) → InOrder o n g → ticks_done o + t < ticks_in_all o n → InOrder (advanced_by t o) n g
  advanced_in_order (Program m s b k d) i h = record { begins = i.begins; within = i.within; open_target = i.open_target; going = h; content = i.content }
  advanced_in_order (Erase u b d) i h = record { begins = i.begins; within = i.within; open_target = i.open_target; going = h; content = i.content }
  advanced_in_order (Write r v) i h = i

advanced_keeps : (t : ℕ) (o : Operation) → kept_by (advanced_by t o) ≡ kept_by o
advanced_keeps t (Program m s b k d) = refl
advanced_keeps t (Erase u b d) = refl
advanced_keeps t (Write r v) = refl

-- and lies as far from a suspended unit
advanced_nests : (t : ℕ) (e o : Operation) (n : ℕ) → nest_ok e (advanced_by t o) n ≡ nest_ok e o n
advanced_nests t e (Program m s b k d) n = refl
advanced_nests t e (Erase u b d) n = refl
advanced_nests t e (Write r v) n = refl

-- a program's last tick writes no register, and an erase keeps no byte of page data
program_stores : (o : Operation) (g : Stored) → is_program o ≡ true → stored_after o g ≡ g
program_stores (Program m s b k d) g e = refl
program_stores (Erase u b d) g e = refl
program_stores (Write r v) g e = absurd (false≢true e)

-- no last tick, and so no register write, changes TBS
pub after_tbs : (o : Operation) (g : Stored) → TBS (stored_after o g).function ≡ TBS g.function
after_tbs (Program m s b k d) g = refl
after_tbs (Erase u b d) g = refl
after_tbs (Write Status v) g = refl
after_tbs (Write Function v) g = omega arith
after_tbs (Write Extended v) g = refl

after_large : (o : Operation) (n : ℕ) (g : Stored) (bank : ℕ) → large_ok n (stored_after o g).function bank ≡ large_ok n g.function bank
unfolding large_ok
after_large o n g bank = rw (after_tbs o g)

erase_keeps : (o : Operation) → is_erase o ≡ true → kept_by o ≡ 0
erase_keeps (Program m s b k d) e = absurd (false≢true e)
erase_keeps (Erase u b d) e = refl
erase_keeps (Write r v) e = refl

-- a tick that is not the last
module _ (p : Part) (g : List ℕ) where
  busy_sound : (o : Operation) → Sound p (Busy o) g → ticks_done o + 1 < ticks_in_all o p.blocks → sound_of p (Busy (advanced_by 1 o)) g ≡ true
  unfolding bits_ok page_ok
  busy_sound o s h =
      let i = advanced_in_order 1 p.blocks p.stored o (in_order o p.blocks p.stored s.phase_ok_lem) h in
      sound_whole p (Busy (advanced_by 1 o)) g
      (record { size = s.size; sleep = s.sleep; latch = s.latch; phase_ok_lem = in-order-whole (advanced_by 1 o) p.blocks p.stored i; bits = s.bits; large = s.large; page_ok_lem = ap (λ (k : ℕ). all_zero (drop k g)) (advanced_keeps 1 o) ∙ s.page_ok_lem })

  nested_sound : (e o : Operation) → Sound p (Nested o e) g → ticks_done o + 1 < ticks_in_all o p.blocks → sound_of p (Nested (advanced_by 1 o) e) g ≡ true
  unfolding bits_ok page_ok
  nested_sound e o s h =
      let both_ok = and_r _ _ s.phase_ok_lem in
      let i = advanced_in_order 1 p.blocks p.stored o (in_order o p.blocks p.stored (and_r _ _ both_ok)) h in
      sound_whole p (Nested (advanced_by 1 o) e) g
      (record {
        size = s.size;
        sleep = s.sleep;
        latch = s.latch;
        phase_ok_lem = and_in (advanced_nests 1 e o p.blocks ∙ and_l _ _ s.phase_ok_lem) (and_in (and_l _ _ both_ok) (in-order-whole (advanced_by 1 o) p.blocks p.stored i));
        bits = s.bits;
        large = s.large;
        page_ok_lem = ap (λ (k : ℕ). all_zero (drop k g)) (advanced_keeps 1 o) ∙ s.page_ok_lem;
      })

  going_sound : (f : Phase) (o : Operation) → running f ≡ Some o → Sound p f g → ticks_done o + 1 < ticks_in_all o p.blocks → sound_of p (working_on f (advanced_by 1 o)) g ≡ true
  going_sound Idle o e s h = absurd (no_work_at e)
  going_sound (Busy x) o e s h = busy_sound o (subst (λ (y : Operation). Sound p (Busy y) g) (at_same e) s) h
  going_sound (Suspended x) o e s h = absurd (no_work_at e)
  going_sound (Nested x y) o e s h = nested_sound y o (subst (λ (z : Operation). Sound p (Nested z y) g) (at_same e) s) h

  -- and the last: a part that was nested is suspended from the outer erase again
  outer_sound : (e o : Operation) → Sound p (Nested o e) g → sound_of (finished_part p (Nested o e) o) (Suspended e) no_data ≡ true
  unfolding page_ok
  outer_sound e o s =
      let i = in-nest e o p.blocks (and_l _ _ s.phase_ok_lem) in
      let l : latch_ok (Suspended e) false ≡ true = or_true (is_erase e) in
      let k : page_ok (Suspended e) no_data ≡ true = ap (λ (j : ℕ). all_zero (drop j no_data)) (erase_keeps e i.erases) ∙ no_data_zero in
      rw (program_stores o p.stored i.programs)
      (sound_of_lem (made p p.stored (Suspended e) false) (Suspended e) no_data
      (made_sound p p.stored (Suspended e) false s.size s.sleep l (and_in i.suspends (and_l _ _ (and_r _ _ s.phase_ok_lem))) s.large) k)

  finished_sound : (f : Phase) (o : Operation) → running f ≡ Some o → Sound p f g → sound_of (finished_part p f o) (rest_of f) no_data ≡ true
  finished_sound Idle o e s = absurd (no_work_at e)
  finished_sound (Busy x) o e s = idle_sound p (stored_after o p.stored) s.size (after_large o p.blocks p.stored p.bank ∙ s.large)
  finished_sound (Suspended x) o e s = absurd (no_work_at e)
  finished_sound (Nested x y) o e s = outer_sound y o (subst (λ (z : Operation). Sound p (Nested z y) g) (at_same e) s)

module _ (p : Record) where
  worked_as : (o : Operation) → running p.phase ≡ Some o → sound p ≡ true → (t : Bool) → ltb (ticks_done o + 1) (ticks_in_all o p.part.blocks) ≡ t
      → sound (cond t (advanced p (advanced_by 1 o)) (finished p o)) ≡ true
  worked_as o e s true h = going_sound p.part p.page p.phase o e (sound_parts p s) (ltb-true _ _ h)
  worked_as o e s false h = finished_sound p.part p.page p.phase o e (sound_parts p s)

  ticked_sound : (w : Option Operation) → running p.phase ≡ w → sound p ≡ true → sound (ticked_at p w) ≡ true
  unfolding worked
  ticked_sound None e s = s
  ticked_sound (Some o) e s = worked_as o e s (ltb (ticks_done o + 1) (ticks_in_all o p.part.blocks)) refl

  pub tick_sound : sound p ≡ true → sound (tick_once p) ≡ true
  tick_sound = ticked_sound (running p.phase) refl

-- n ticks
pub run_sound : (n : ℕ) (p : Record) → sound p ≡ true → sound (record_after n p) ≡ true
run_sound zero p s = s
run_sound (suc n) p s = tick_sound (record_after n p) (run_sound n p s)

-- what is as it was wherever a part is made anew, no tick changes
module _ {A : Type 0} (f : Part → A) (kept : (q : Part) (g : Stored) (h : Phase) (wel : Bool) → f (made q g h wel) ≡ f q) where
  worked_keeps : (p : Record) (o : Operation) (t : Bool) → f (cond t (advanced p (advanced_by 1 o)) (finished p o)).part ≡ f p.part
  worked_keeps p o true = refl
  worked_keeps p o false = kept p.part (stored_after o p.part.stored) (rest_of p.phase) false

  ticked_keeps : (p : Record) (w : Option Operation) → f (ticked_at p w).part ≡ f p.part
  unfolding worked
  ticked_keeps p None = refl
  ticked_keeps p (Some o) = worked_keeps p o (ltb (ticks_done o + 1) (ticks_in_all o p.part.blocks))

  pub run_keeps : (n : ℕ) (p : Record) → f (record_after n p).part ≡ f p.part
  run_keeps zero p = refl
  run_keeps (suc n) p = ticked_keeps (record_after n p) (running (record_after n p).phase) ∙ run_keeps n p

pub run_size : (n : ℕ) (p : Record) → (record_after n p).part.blocks ≡ p.part.blocks
run_size = run_keeps (λ (q : Part). q.blocks) (λ q g h wel. refl)

pub works_at_most : (n : ℕ) (p : Record) → working_ticks n p ≤ n
works_at_most zero p = omega arith
works_at_most (suc n) p = omega (arith, works_at_most n p, bit_le (is_busy (record_after n p).phase))
