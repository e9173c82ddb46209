-- An erase that is under way: over calls after none of which the part is idle its pages that are done hold FFh, and its other pages hold what they held; at its end its whole unit holds FFh. Programs that run within a suspend reach no place of its unit.
use Rattle.std.specs.Prelude.{Some}
use Prim.Native.Nat.{ℕ, ◌+◌, ◌-◌, ◌*◌, ◌≤◌, ◌<◌}
use mathlib.Core.Path.{◌≡◌, refl, sym, ap, ◌∙◌, subst, subst⁻¹}
use mathlib.Core.Bool.{Bool, true, false, cond, false≢true}
use mathlib.Core.List.{List, [], ◌∷◌, ◌++◌}
use native.Mathlib.Omega.{arith}
use lib.Dec.{ltb}
use borrow.Author.Tests.{ltb-true, ltb-false, not-true}
use Rattle.types.specs.declared.Memory.{Memory}
use Rattle.types.specs.declared.EraseUnit.{EraseUnit}
use Rattle.types.specs.declared.Operation.{Operation}
use Rattle.types.specs.declared.Operation.TheVariants.{Erase}
use Rattle.types.specs.declared.Phase.{Phase}
use Rattle.types.specs.declared.Phase.TheVariants.{Idle, Busy, Suspended, Nested}
use Rattle.types.specs.declared.Record.{Record}
use Rattle.types.specs.declared.Ticked.{Ticked}
use Rattle.words.specs.Logic.{◌and◌, ◌or◌}
use Rattle.words.proofs.Tests.{and_l, and_r, and_in}
use Rattle.paper.specs.Sizes.{same_memory, from_on, page_bytes}
use Rattle.paper.specs.Erase.{memory_of, unit_pages, unit_bytes, erased_byte}
use Rattle.paper.specs.Phases.{running, halted, is_idle, working_on}
use Rattle.paper.specs.Operations.{Touch, ticks_done, in_unit}
use Rattle.paper.specs.Soundness.{sound}
use Rattle.paper.specs.Ticks.{record_after}
use Rattle.paper.specs.History.{Call, transaction, ticks, record_after_call, ticks_by, record_after_calls, tick_touches, call_touches, history, byte_after_all}
use Rattle.paper.specs.Halted.{in_done}
use Rattle.paper.proofs.Phases.{no_work_at, at_same, idle_is}
use Rattle.paper.proofs.Soundness.{sound_parts, running_in_order}
use Rattle.paper.proofs.ManyTicks.{run_record}
use Rattle.paper.proofs.CallKept.{call_sound, call_size}
use Rattle.paper.proofs.Answers.{ticks_run}
use Rattle.paper.proofs.TickCalls.{ticks_pass}
use Rattle.paper.proofs.Histories.{bytes_append}
use Rattle.paper.proofs.ByPlace.{from_on_lem, on_from, ran_bytes, erased_on}
use Rattle.paper.proofs.RunToEnd.{run_rests, run_leaves, pages_few}
use Rattle.history.proofs.Calls.{calls_sound, calls_size, bytes_joined}
use Rattle.suspended.specs.UnderWay.{under_way, done_of, done_in, Erasing, never_idle, runs_to_end}
use Rattle.suspended.proofs.HaltedKept.{run_halted}
use Rattle.suspended.proofs.NestedBytes.{ticks_spare_unit}
use Rattle.suspended.proofs.UnderWay.{halted_under, sent_under}

-- an erase that begins has done no page; and the pages that one has done lie in its unit
pub nothing_done : (m : Memory) (at : ℕ) (u : EraseUnit) (b : ℕ) → in_done (Erase u b 0) m at ≡ true → ⊥
nothing_done m at u b h = let r = on_from b (0 * page_bytes) at (and_r _ _ h) in omega (arith, r)

pub done_in_unit : (m : Memory) (at : ℕ) (u : EraseUnit) (b d n : ℕ) → d < unit_pages u n → in_done (Erase u b d) m at ≡ true → in_unit (Erase u b d) n m at ≡ true
done_in_unit m at u b d n l h =
    let r = on_from b (d * page_bytes) at (and_r _ _ h) in
    and_in (and_l _ _ h) (from_on_lem b (unit_bytes u n) at r.0 (omega (arith, r, l)))

-- what an erase with d ticks done leaves of the byte x at a place of its unit: FFh in the pages that are done; so in a phase where it is under way
abbrev left_by : EraseUnit → ℕ → ℕ → Memory → ℕ → ℕ → ℕ
left_by u b d m at x = cond (in_done (Erase u b d) m at) erased_byte x

abbrev pub left_in : EraseUnit → ℕ → Phase → Memory → ℕ → ℕ → ℕ
left_in u b f m at x = left_by u b (done_in f) m at x

-- the erase of the unit u that begins at b, on a part of n blocks
module _ (u : EraseUnit) (b n : ℕ) where
  -- what was reached from one phase to another: the erase is still under way, and each byte of its unit is as its ticks leave it
  pub record Proceeds (ts : List Touch) (f g : Phase) : Type 0 where
    pub erasing : Erasing u b g
    pub bytes : (m : Memory) (at x : ℕ) → in_unit (Erase u b 0) n m at ≡ true → byte_after_all m at ts (left_in u b f m at x) ≡ left_in u b g m at x

  -- no tick of it was done
  stands : (ts : List Touch) (f g : Phase) → Erasing u b f → under_way g ≡ under_way f → ((m : Memory) (at y : ℕ) → in_unit (Erase u b 0) n m at ≡ true → byte_after_all m at ts y ≡ y) → Proceeds ts f g
  stands ts f g r h k =
      let d : done_in f ≡ done_in g = ap done_of (sym h) in
      record {
        erasing = h ∙ r ∙ ap (λ (c : ℕ). Some (Erase u b c)) d;
        bytes = λ m at x i. k m at (left_in u b f m at x) i ∙ ap (λ (c : ℕ). left_by u b c m at x) d;
      }

  -- one after the other
  proceeds_on : (ts us : List Touch) (f g h : Phase) → Proceeds ts f g → Proceeds us g h → Proceeds (ts ++ us) f h
  proceeds_on ts us f g h one two =
      record {
        erasing = two.erasing;
        bytes = λ m at x i. bytes_append m at ts us (left_in u b f m at x) ∙ ap (byte_after_all m at us) (one.bytes m at x i) ∙ two.bytes m at x i;
      }

  -- k ticks on a sound part of n blocks
  module _ (p : Record) (s : sound p ≡ true) (size : p.part.blocks ≡ n) (k : ℕ) where
    module _ (d : ℕ) (f : p.phase ≡ Busy (Erase u b d)) where
      -- that are fewer than those left
      runs_on : d + k < unit_pages u p.part.blocks → (record_after k p).phase ≡ Busy (Erase u b (d + k))
      runs_on l =
          ap (λ (q : Record). q.phase) (run_record p (Erase u b d) (ap running f) k l) ∙ ap (λ (h : Phase). working_on h (Erase u b (d + k))) f

      -- in one call
      pub ticks_go_on : d + k < unit_pages u p.part.blocks → (record_after_call (ticks k) p).phase ≡ Busy (Erase u b (d + k))
      ticks_go_on l =
          ap (λ (t : Ticked). t.next.phase) (ticks_run p s k (omega (arith, l, pages_few u p.part.blocks (sound_parts p s).size))) ∙ runs_on l

      -- or not
      runs_out : unit_pages u p.part.blocks ≤ d + k → (record_after k p).phase ≡ Idle
      runs_out l = (run_rests p (Erase u b d) (ap running f) s k (omega arith) (Busy (Erase u b d)) f).phase_is

      pages_more : (j : ℕ) (m : Memory) (at x : ℕ) → cond (same_memory m (memory_of u) and from_on (b + d * page_bytes) (j * page_bytes) at) erased_byte (left_by u b d m at x) ≡ left_by u b (d + j) m at x
      pages_more j m at x =
          let z : d * page_bytes + j * page_bytes ≡ (d + j) * page_bytes = omega arith in
          erased_on (same_memory m (memory_of u)) b (d * page_bytes) (j * page_bytes) at x
          ∙ ap (λ (c : ℕ). cond (same_memory m (memory_of u) and from_on b c at) erased_byte x) z

      busy_proceeds : (t : Bool) → ltb (d + k) (unit_pages u p.part.blocks) ≡ t → is_idle (record_after k p).phase ≡ false → Proceeds (tick_touches k p) (Busy (Erase u b d)) (record_after k p).phase
      busy_proceeds true e g =
          let l = ltb-true _ _ e in
          subst⁻¹ (Proceeds (tick_touches k p) (Busy (Erase u b d))) (runs_on l)
          (record {
            erasing = refl;
            bytes = λ m at x i. ran_bytes p (Erase u b d) (ap running f) (running_in_order p (Erase u b d) (ap running f) s) m at (left_by u b d m at x) k (omega (arith, l)) ∙ pages_more k m at x;
          })
      busy_proceeds false e g = absurd (false≢true (sym g ∙ ap is_idle (runs_out (ltb-false _ _ e))))

      busy_fills : (t : Bool) → ltb (d + k) (unit_pages u p.part.blocks) ≡ t → is_idle (record_after k p).phase ≡ true → (m : Memory) (at x : ℕ) → in_unit (Erase u b 0) n m at ≡ true
          → byte_after_all m at (tick_touches k p) (left_by u b d m at x) ≡ erased_byte
      busy_fills true e g m at x i = absurd (false≢true (sym (ap is_idle (runs_on (ltb-true _ _ e))) ∙ g))
      busy_fills false e g m at x i =
          let l : unit_pages u p.part.blocks ≤ d + k = ltb-false _ _ e in
          let o = (running_in_order p (Erase u b d) (ap running f) s).going in
          let z : d + (unit_pages u p.part.blocks - d) ≡ unit_pages u n = omega (arith, o, ap (unit_pages u) size) in
          run_leaves p (Erase u b d) (ap running f) s k (omega (arith, l)) m at (left_by u b d m at x)
          ∙ pages_more (unit_pages u p.part.blocks - d) m at x
          ∙ ap (λ (c : ℕ). left_by u b c m at x) z
          ∙ ap (λ (t : Bool). cond t erased_byte x) i

    -- while it is suspended
    halted_proceeds : (e : Operation) → Erasing u b p.phase → halted p.phase ≡ Some e → under_way p.phase ≡ Some e → Proceeds (tick_touches k p) p.phase (record_after k p).phase
    halted_proceeds e r h w =
        let is : e ≡ Erase u b (done_in p.phase) = at_same (sym w ∙ r) in
        stands (tick_touches k p) p.phase (record_after k p).phase r (halted_under (record_after k p).phase e (run_halted k p ∙ h) ∙ sym w)
        (λ m at y i. ticks_spare_unit m at e k p y h s (ap (λ (o : Operation). in_unit o p.part.blocks m at) is ∙ ap (λ (c : ℕ). in_unit (Erase u b 0) c m at) size ∙ i))

    ran_proceeds : (f : Phase) → p.phase ≡ f → Erasing u b f → is_idle (record_after k p).phase ≡ false → Proceeds (tick_touches k p) f (record_after k p).phase
    ran_proceeds Idle q r g = absurd (no_work_at r)
    ran_proceeds (Busy o) q r g =
        let e : Busy o ≡ Busy (Erase u b (ticks_done o)) = ap Busy (at_same r) in
        subst⁻¹ (λ (f : Phase). Proceeds (tick_touches k p) f (record_after k p).phase) e (busy_proceeds (ticks_done o) (q ∙ e) (ltb (ticks_done o + k) (unit_pages u p.part.blocks)) refl g)
    ran_proceeds (Suspended o) q r g =
        subst (λ (f : Phase). Proceeds (tick_touches k p) f (record_after k p).phase) q (halted_proceeds o (subst⁻¹ (Erasing u b) q r) (ap halted q) (ap under_way q))
    ran_proceeds (Nested o x) q r g =
        subst (λ (f : Phase). Proceeds (tick_touches k p) f (record_after k p).phase) q (halted_proceeds x (subst⁻¹ (Erasing u b) q r) (ap halted q) (ap under_way q))

    -- ticks that make the part idle end it
    not_halted : (e : Operation) → halted p.phase ≡ Some e → is_idle (record_after k p).phase ≡ true → ⊥
    not_halted e h g = no_work_at (sym (ap halted (idle_is (record_after k p).phase g)) ∙ run_halted k p ∙ h)

    ran_fills : (f : Phase) → p.phase ≡ f → Erasing u b f → is_idle (record_after k p).phase ≡ true → (m : Memory) (at x : ℕ) → in_unit (Erase u b 0) n m at ≡ true
        → byte_after_all m at (tick_touches k p) (left_in u b f m at x) ≡ erased_byte
    ran_fills Idle q r g m at x i = absurd (no_work_at r)
    ran_fills (Busy o) q r g m at x i =
        busy_fills (ticks_done o) (q ∙ ap Busy (at_same r)) (ltb (ticks_done o + k) (unit_pages u p.part.blocks)) refl g m at x i
    ran_fills (Suspended o) q r g m at x i = absurd (not_halted o (ap halted q) g)
    ran_fills (Nested o y) q r g m at x i = absurd (not_halted y (ap halted q) g)

  -- a call after which the part is not idle
  call_proceeds : (c : Call) (p : Record) → sound p ≡ true → p.part.blocks ≡ n → Erasing u b p.phase → is_idle (record_after_call c p).phase ≡ false → Proceeds (call_touches c p) p.phase (record_after_call c p).phase
  call_proceeds (transaction wp i o) p s z r g =
      stands [] p.phase (record_after_call (transaction wp i o) p).phase r (sent_under p p.phase (Erase u b (done_in p.phase)) wp i o refl r g ∙ sym r) (λ m at y k. refl)
  call_proceeds (ticks m) p s z r g =
      let k = ticks_by p.part.blocks (ticks m) in
      let d = ticks_pass p s m in
      let to = ap (λ (q : Record). q.phase) d.next in
      subst⁻¹ (Proceeds (call_touches (ticks m) p) p.phase) to
      (subst⁻¹ (λ (ts : List Touch). Proceeds ts p.phase (record_after k p).phase) d.reached (ran_proceeds p s z k p.phase refl r (sym (ap is_idle to) ∙ g)))

  -- calls after none of which it is
  pub calls_proceed : (cs : List Call) (p : Record) → sound p ≡ true → p.part.blocks ≡ n → Erasing u b p.phase → never_idle cs p ≡ true → Proceeds (history cs p) p.phase (record_after_calls cs p).phase
  calls_proceed [] p s z r g = stands [] p.phase p.phase r refl (λ m at y k. refl)
  calls_proceed (c ∷ cs) p s z r g =
      let q = record_after_call c p in
      let one = call_proceeds c p s z r (not-true _ (and_l _ _ g)) in
      proceeds_on (call_touches c p) (history cs q) p.phase q.phase (record_after_calls cs q).phase one (calls_proceed cs q (call_sound c p s) (call_size c p ∙ z) one.erasing (and_r _ _ g))

  -- a tick call that makes the part idle fills it
  tick_fills : (k : ℕ) (p : Record) → sound p ≡ true → p.part.blocks ≡ n → Erasing u b p.phase → is_idle (record_after_call (ticks k) p).phase ≡ true → (m : Memory) (at x : ℕ) → in_unit (Erase u b 0) n m at ≡ true
      → byte_after_all m at (history (ticks k ∷ []) p) (left_in u b p.phase m at x) ≡ erased_byte
  tick_fills k p s z r g m at x i =
      let d = ticks_pass p s k in
      bytes_append m at (call_touches (ticks k) p) [] (left_in u b p.phase m at x)
      ∙ ap (λ (ts : List Touch). byte_after_all m at ts (left_in u b p.phase m at x)) d.reached
      ∙ ran_fills p s z (ticks_by p.part.blocks (ticks k)) p.phase refl r (sym (ap (λ (q : Record). is_idle q.phase) d.next) ∙ g) m at x i

  -- so calls after none of which it is idle, and then ticks that make it so, leave FFh in the whole unit
  pub erase_whole : (cs : List Call) (k : ℕ) (p : Record) → sound p ≡ true → p.part.blocks ≡ n → Erasing u b p.phase → never_idle cs p ≡ true → is_idle (record_after_call (ticks k) (record_after_calls cs p)).phase ≡ true
      → (m : Memory) (at x : ℕ) → in_unit (Erase u b 0) n m at ≡ true → byte_after_all m at (history (cs ++ (ticks k ∷ [])) p) (left_in u b p.phase m at x) ≡ erased_byte
  erase_whole cs k p s z r g e m at x i =
      let q = record_after_calls cs p in
      let on = calls_proceed cs p s z r g in
      bytes_joined m at cs (ticks k ∷ []) p (left_in u b p.phase m at x)
      ∙ ap (byte_after_all m at (history (ticks k ∷ []) q)) (on.bytes m at x i)
      ∙ tick_fills k q (calls_sound cs p s) (calls_size cs p ∙ z) on.erasing e m at x i

  -- calls over which it runs to its end: up to its last tick, after which the part is idle and the whole unit holds FFh, and those after it
  pub record Ended (cs : List Call) (p : Record) : Type 0 where
    pub until : List Call
    pub after : List Call
    pub parts : cs ≡ until ++ after
    pub idle : (record_after_calls until p).phase ≡ Idle
    pub filled : (m : Memory) (at x : ℕ) → in_unit (Erase u b 0) n m at ≡ true → byte_after_all m at (history until p) (left_in u b p.phase m at x) ≡ erased_byte

  ended_later : (c : Call) (cs : List Call) (p : Record) → Proceeds (call_touches c p) p.phase (record_after_call c p).phase → Ended cs (record_after_call c p) → Ended (c ∷ cs) p
  ended_later c cs p one e =
      let q = record_after_call c p in
      record {
        until = c ∷ e.until;
        after = e.after;
        parts = ap (λ (ds : List Call). c ∷ ds) e.parts;
        idle = e.idle;
        filled = λ m at x i.
            bytes_append m at (call_touches c p) (history e.until q) (left_in u b p.phase m at x)
            ∙ ap (byte_after_all m at (history e.until q)) (one.bytes m at x i)
            ∙ e.filled m at x i;
      }

  ended_now : (k : ℕ) (cs : List Call) (p : Record) → sound p ≡ true → p.part.blocks ≡ n → Erasing u b p.phase → is_idle (record_after_call (ticks k) p).phase ≡ true → Ended (ticks k ∷ cs) p
  ended_now k cs p s z r g =
      record { until = ticks k ∷ []; after = cs; parts = refl; idle = idle_is (record_after_call (ticks k) p).phase g; filled = tick_fills k p s z r g }

  ticks_end : (k : ℕ) (cs : List Call) (p : Record) (t : Bool) → sound p ≡ true → p.part.blocks ≡ n → Erasing u b p.phase → is_idle (record_after_call (ticks k) p).phase ≡ t
      → (Erasing u b (record_after_call (ticks k) p).phase → t ≡ false → Ended cs (record_after_call (ticks k) p)) → Ended (ticks k ∷ cs) p
  ticks_end k cs p true s z r e on = ended_now k cs p s z r e
  ticks_end k cs p false s z r e on =
      let one = call_proceeds (ticks k) p s z r e in
      ended_later (ticks k) cs p one (on one.erasing refl)

  pub calls_end : (cs : List Call) (p : Record) → sound p ≡ true → p.part.blocks ≡ n → Erasing u b p.phase → runs_to_end cs p ≡ true → Ended cs p
  unfolding ◌or◌
  calls_end [] p s z r g = absurd (false≢true g)
  calls_end (transaction wp i o ∷ cs) p s z r g =
      let c = transaction wp i o in
      let one = call_proceeds c p s z r (not-true _ (and_l _ _ g)) in
      ended_later c cs p one (calls_end cs (record_after_call c p) (call_sound c p s) (call_size c p ∙ z) one.erasing (and_r _ _ g))
  calls_end (ticks k ∷ cs) p s z r g =
      let q = record_after_call (ticks k) p in
      ticks_end k cs p (is_idle q.phase) s z r refl
      (λ e f. calls_end cs q (call_sound (ticks k) p s) (call_size (ticks k) p ∙ z) e (sym (ap (λ (t : Bool). t or runs_to_end cs q) f) ∙ g))
