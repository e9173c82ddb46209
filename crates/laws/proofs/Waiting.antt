-- Waiting is ticks: calls that wait leave an awake, unarmed part as the ticks that they give do, and reach what these reach.
use Rattle.types.specs.declared.Command.{Command}
use Rattle.std.specs.Prelude.{None, Option, Some}
use Prim.Native.Nat.{ℕ}
use mathlib.Core.Path.{◌≡◌, refl, sym, ap, ◌∙◌, subst}
use mathlib.Core.Bool.{Bool, true, false, false≢true}
use mathlib.Core.List.{List, [], ◌∷◌, ◌++◌}
use lib.ListN.{get_or}
use Rattle.types.specs.declared.Part.{Part}
use Rattle.types.specs.declared.Record.{Record}
use Rattle.words.proofs.Tests.{and_l, and_r}
use Rattle.paper.specs.Sizes.{array_bytes, rows_bytes}
use Rattle.paper.specs.Records.{marked}
use Rattle.paper.specs.Operations.{Touch}
use Rattle.paper.specs.Soundness.{sound}
use Rattle.paper.specs.Table.{decoded}
use Rattle.paper.specs.Ticks.{record_after}
use Rattle.paper.specs.History.{Call, transaction, ticks, record_after_call, ticks_by, record_after_calls, tick_touches, call_touches, history}
use Rattle.paper.proofs.Soundness.{record_of}
use Rattle.paper.proofs.Kept.{run_sound, run_keeps}
use Rattle.paper.proofs.ManyTicks.{ticks_more}
use Rattle.paper.proofs.ReadsKept.{after_read}
use Rattle.paper.proofs.TickCalls.{Passes, ticks_pass}
use Rattle.paper.proofs.Histories.{touches_more}
use Rattle.laws.specs.Waiting.{is_read_by, waits, all_wait, ticks_given}

-- a sound, awake and unarmed part of n blocks under a bank register
pub record Quiet (n bank : ℕ) (p : Record) : Type 0 where
  pub is_sound : sound p ≡ true
  pub awake : p.part.asleep ≡ false
  pub unarmed : p.part.armed ≡ false
  pub size : p.part.blocks ≡ n
  pub bank_is : p.part.bank ≡ bank

-- a call leaves a record, and reaches what was told
record Does (c : Call) (p q : Record) (ts : List Touch) : Type 0 where
  next : record_after_call c p ≡ q
  reached : call_touches c p ≡ ts

module _ (n bank : ℕ) (p : Record) (r : Quiet n bank p) where
  -- a read
  read_by : (wp : Bool) (i : List ℕ) (o : ℕ) (d : Option Command) → decoded p.part.blocks p.part.bank (get_or i 0 0) ≡ d → is_read_by d ≡ true → record_after_call (transaction wp i o) p ≡ p
  read_by wp i o (Some k) e h =
      after_read (λ (q : Record). q ≡ p) p r.awake wp i refl (ap (λ (t : Bool). record_of p.identity (marked p.part t) p.phase p.page) (sym r.unarmed)) k e h (array_bytes p.part.blocks) rows_bytes o
  read_by wp i o None e h = absurd (false≢true h)

  waits_one : (c : Call) → waits n bank c ≡ true → Does c p (record_after (ticks_by n c) p) (tick_touches (ticks_by n c) p)
  waits_one (transaction wp i o) h =
      let e : decoded p.part.blocks p.part.bank (get_or i 0 0) ≡ decoded n bank (get_or i 0 0) = rw (r.size, r.bank_is) refl in
      record { next = read_by wp i o (decoded n bank (get_or i 0 0)) e h; reached = refl }
  waits_one (ticks k) h =
      let d = subst (λ (b : ℕ). Passes p k (ticks_by b (ticks k))) r.size (ticks_pass p r.is_sound k) in
      record { next = d.next; reached = d.reached }

  -- ticks leave it so
  quiet_after : (k : ℕ) → Quiet n bank (record_after k p)
  quiet_after k =
      record {
        is_sound = run_sound k p r.is_sound;
        awake = run_keeps (λ (q : Part). q.asleep) (λ q g h wel. refl) k p ∙ r.awake;
        unarmed = run_keeps (λ (q : Part). q.armed) (λ q g h wel. refl) k p ∙ r.unarmed;
        size = run_keeps (λ (q : Part). q.blocks) (λ q g h wel. refl) k p ∙ r.size;
        bank_is = run_keeps (λ (q : Part). q.bank) (λ q g h wel. refl) k p ∙ r.bank_is;
      }

-- calls that wait
module _ (n bank : ℕ) where
  pub waited_record : (cs : List Call) (p : Record) → Quiet n bank p → all_wait n bank cs ≡ true → record_after_calls cs p ≡ record_after (ticks_given n cs) p
  waited_record [] p r h = refl
  waited_record (c ∷ cs) p r h =
      let k = ticks_by n c in
      ap (record_after_calls cs) (waits_one n bank p r c (and_l _ _ h)).next
      ∙ waited_record cs (record_after k p) (quiet_after n bank p r k) (and_r _ _ h)
      ∙ sym (ticks_more k (ticks_given n cs) p)

  pub waited_touches : (cs : List Call) (p : Record) → Quiet n bank p → all_wait n bank cs ≡ true → history cs p ≡ tick_touches (ticks_given n cs) p
  waited_touches [] p r h = refl
  waited_touches (c ∷ cs) p r h =
      let k = ticks_by n c in
      let d = waits_one n bank p r c (and_l _ _ h) in
      ap (λ (ts : List Touch). ts ++ history cs (record_after_call c p)) d.reached
      ∙ ap (λ (q : Record). tick_touches k p ++ history cs q) d.next
      ∙ ap (λ (ts : List Touch). tick_touches k p ++ ts) (waited_touches cs (record_after k p) (quiet_after n bank p r k) (and_r _ _ h))
      ∙ sym (touches_more k (ticks_given n cs) p)
