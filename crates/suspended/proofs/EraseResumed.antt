-- An erase that is suspended, whatever is sent and runs within, and resumed: it goes on where it was, and run to its end leaves FFh in its whole unit.
use Rattle.std.specs.Prelude.{None, Some}
use Prim.Native.Nat.{ℕ, ◌+◌, ◌-◌, ◌<◌, ◌≤◌}
use mathlib.Core.Path.{◌≡◌, refl, sym, ap, ◌∙◌, subst⁻¹}
use mathlib.Core.Bool.{Bool, true, false, not, cond, false≢true}
use mathlib.Core.List.{List, [], ◌∷◌, ◌++◌}
use native.Mathlib.Omega.{arith}
use borrow.Author.Tests.{not-true}
use Rattle.types.specs.declared.Memory.{Memory}
use Rattle.types.specs.declared.EraseUnit.{EraseUnit}
use Rattle.types.specs.declared.Operation.{Operation}
use Rattle.types.specs.declared.Operation.TheVariants.{Erase}
use Rattle.types.specs.declared.Phase.{Phase}
use Rattle.types.specs.declared.Phase.TheVariants.{Idle, Busy, Suspended, Nested}
use Rattle.types.specs.declared.Command.TheVariants.{Suspend, Resume}
use Rattle.types.specs.declared.Part.{Part}
use Rattle.types.specs.declared.Record.{Record}
use Rattle.types.specs.declared.Answer.{Answer}
use Rattle.words.specs.Logic.{◌and◌, ◌or◌, unless, ◌or_else◌}
use Rattle.words.proofs.Tests.{and_in}
use Rattle.paper.specs.Sizes.{tick_limit}
use Rattle.paper.specs.Erase.{unit_pages, erased_byte}
use Rattle.paper.specs.Phases.{running, halted, is_busy, is_idle, suspended_in, resumed_in}
use Rattle.paper.specs.Records.{settled}
use Rattle.paper.specs.Operations.{unit_suspends, can_suspend, in_unit}
use Rattle.paper.specs.Soundness.{sound}
use Rattle.paper.specs.Table.{columns, addressing_on}
use Rattle.paper.specs.Commands.{unarmed}
use Rattle.paper.specs.Numbers.{command_number, ignored_number}
use Rattle.paper.specs.History.{Call, ticks, one_byte, record_after_call, answer_to_byte, record_after_calls, history, byte_after_all}
use Rattle.paper.specs.Halted.{in_done}
use Rattle.paper.proofs.Phases.{no_work_at, at_same}
use Rattle.paper.proofs.Soundness.{record_of, sound_parts, sound_in}
use Rattle.paper.proofs.Table.{Always, known}
use Rattle.paper.proofs.Answers.{executes}
use Rattle.paper.proofs.CallKept.{call_sound}
use Rattle.paper.proofs.RunToEnd.{call_rests, pages_few}
use Rattle.history.proofs.Calls.{calls_sound, calls_size, calls_append}
use Rattle.suspended.specs.Interrupted.{none_releases, interrupted}
use Rattle.suspended.specs.UnderWay.{Erasing, never_idle}
use Rattle.suspended.proofs.HaltedKept.{calls_halted}
use Rattle.suspended.proofs.UnderWay.{never_halted, never_both}
use Rattle.suspended.proofs.Proceeds.{nothing_done, left_in, ticks_go_on, erase_whole}

-- 75h and B0h are suspends, 7Ah and 30h resumes
pub suspend_codes : Always 0x75 Suspend × Always 0xB0 Suspend
suspend_codes = (known 0x75 Suspend refl refl, known 0xB0 Suspend refl refl)

pub resume_codes : Always 0x7A Resume × Always 0x30 Resume
resume_codes = (known 0x7A Resume refl refl, known 0x30 Resume refl refl)

-- no number applies to a suspend where what runs alone can be suspended, nor to a resume where something is
suspend_number : (p : Part) (o : Operation) (c : ℕ) (wp : Bool) → p.asleep ≡ false → can_suspend o ≡ true → command_number (columns Suspend) (addressing_on (columns Suspend) p) None p (Busy o) (c ∷ []) wp ≡ 0
unfolding command_number ◌and◌ ◌or◌ unless ◌or_else◌
suspend_number p o c wp a h = rw (a, h)

resume_number : (p : Part) (o : Operation) (c : ℕ) (wp : Bool) → p.asleep ≡ false → command_number (columns Resume) (addressing_on (columns Resume) p) None p (Suspended o) (c ∷ []) wp ≡ 0
unfolding command_number ◌or◌ unless ◌or_else◌
resume_number p o c wp a = rw a

module _ (p : Record) (o : Operation) (s : sound p ≡ true) (wp : Bool) (c : ℕ) where
  -- a suspend of what runs alone and can be suspended is executed
  pub suspends_now : p.phase ≡ Busy o → can_suspend o ≡ true → Always c Suspend
      → answer_to_byte wp c p ≡ record { next = record_of p.identity (unarmed (settled p.part (Suspended o) false)) (Suspended o) p.page; number = 0; first = 1 }
  unfolding ◌or◌
  suspends_now f h e =
      let a : p.part.asleep ≡ false = not-true _ (sound_in p (Busy o) f s).sleep in
      let n : ignored_number (Some Suspend) p.part p.phase (c ∷ []) wp ≡ 0 = ap (λ (g : Phase). command_number (columns Suspend) (addressing_on (columns Suspend) p.part) None p.part g (c ∷ []) wp) f ∙ suspend_number p.part o c wp a h in
      executes p s wp Suspend (c ∷ []) (omega arith) (omega arith) (e p.part.blocks p.part.bank) n
      ∙ ap (λ (g : Phase). record { next = record_of p.identity (unarmed (settled p.part (suspended_in g) false)) (suspended_in g) p.page; number = 0; first = 1 }) f

  -- and so is a resume of what is suspended
  pub resumes_now : p.phase ≡ Suspended o → Always c Resume
      → answer_to_byte wp c p ≡ record { next = record_of p.identity (unarmed (settled p.part (Busy o) true)) (Busy o) p.page; number = 0; first = 1 }
  unfolding ◌or◌
  resumes_now f e =
      let a : p.part.asleep ≡ false = not-true _ (sound_in p (Suspended o) f s).sleep in
      let n : ignored_number (Some Resume) p.part p.phase (c ∷ []) wp ≡ 0 = ap (λ (g : Phase). command_number (columns Resume) (addressing_on (columns Resume) p.part) None p.part g (c ∷ []) wp) f ∙ resume_number p.part o c wp a in
      executes p s wp Resume (c ∷ []) (omega arith) (omega arith) (e p.part.blocks p.part.bank) n
      ∙ ap (λ (g : Phase). record { next = record_of p.identity (unarmed (settled p.part (resumed_in g) true)) (resumed_in g) p.page; number = 0; first = 1 }) f

-- a byte that is FFh where a test holds
held_so : (t : Bool) (x : ℕ) → (t ≡ true → x ≡ erased_byte) → cond t erased_byte x ≡ x
held_so true x h = sym (h refl)
held_so false x h = refl

-- an operation is suspended and nothing runs
at_rest : (f : Phase) (e : Operation) → halted f ≡ Some e → is_busy f ≡ false → f ≡ Suspended e
at_rest Idle e h n = absurd (no_work_at h)
at_rest (Busy o) e h n = absurd (no_work_at h)
at_rest (Suspended o) e h n = ap Suspended (at_same h)
at_rest (Nested o x) e h n = absurd (false≢true (sym n))

-- a part runs an erase that can be suspended, from its first tick on
module _ (p : Record) (u : EraseUnit) (b : ℕ) (s : sound p ≡ true) (f : p.phase ≡ Busy (Erase u b 0)) (g : unit_suspends u ≡ true) where
  few : unit_pages u p.part.blocks ≤ tick_limit p.part.blocks
  few = pages_few u p.part.blocks (sound_parts p s).size

  -- d ticks that are not its last, and a suspend
  module _ (d : ℕ) (l : d < unit_pages u p.part.blocks) (w : Bool) (c : ℕ) (dc : Always c Suspend) where
    ran_phase : (record_after_call (ticks d) p).phase ≡ Busy (Erase u b d)
    ran_phase =
        let z : 0 + d ≡ d = omega arith in
        ticks_go_on u b p.part.blocks p s refl d 0 f (omega arith) ∙ ap (λ (k : ℕ). Busy (Erase u b k)) z

    -- leave it suspended
    pub suspended_phase : (record_after_calls (ticks d ∷ one_byte w c ∷ []) p).phase ≡ Suspended (Erase u b d)
    suspended_phase =
        ap (λ (t : Answer). t.next.phase) (suspends_now (record_after_call (ticks d) p) (Erase u b d) (call_sound (ticks d) p s) w c ran_phase g dc)

    -- then calls none of which lets it go, after which nothing runs, and a resume
    module _ (cs : List Call) (none : none_releases cs (record_after_calls (ticks d ∷ one_byte w c ∷ []) p) ≡ true)
        (still : is_busy (record_after_calls cs (record_after_calls (ticks d ∷ one_byte w c ∷ []) p)).phase ≡ false)
        (v : Bool) (r : ℕ) (dr : Always r Resume) where
      abbrev before : Record
      before = record_after_calls (ticks d ∷ one_byte w c ∷ []) p

      abbrev held : Record
      held = record_after_calls cs before

      resumed_here : (record_after_call (one_byte v r) held).phase ≡ Busy (Erase u b d)
      resumed_here =
          let h : held.phase ≡ Suspended (Erase u b d) = at_rest held.phase (Erase u b d) (calls_halted cs before (Erase u b d) (ap halted suspended_phase) none) still in
          ap (λ (t : Answer). t.next.phase) (resumes_now held (Erase u b d) (calls_sound cs before (calls_sound (ticks d ∷ one_byte w c ∷ []) p s)) v r h dr)

      -- it goes on where it was
      pub resumed_phase : (record_after_calls (interrupted d (one_byte w c) cs (one_byte v r)) p).phase ≡ Busy (Erase u b d)
      resumed_phase = ap (λ (t : Record). t.phase) (calls_append cs (one_byte v r ∷ []) before) ∙ resumed_here

      -- and is under way all the time
      never : never_idle (interrupted d (one_byte w c) cs (one_byte v r)) p ≡ true
      never =
          let not-idle : Phase → Bool = λ g. not (is_idle g) in
          and_in (ap not-idle ran_phase) (and_in (ap not-idle suspended_phase) (never_both cs (one_byte v r ∷ []) before (never_halted cs before (Erase u b d) (ap halted suspended_phase) none) (and_in (ap not-idle resumed_here) refl)))

      -- the ticks that are left end it
      pub resumed_ends : let q = record_after_calls (interrupted d (one_byte w c) cs (one_byte v r) ++ (ticks (unit_pages u p.part.blocks - d) ∷ [])) p in
          (q.phase ≡ Idle) × (q.part.wel ≡ false)
      resumed_ends =
          let all = interrupted d (one_byte w c) cs (one_byte v r) in
          let k = unit_pages u p.part.blocks - d in
          let z = ap (unit_pages u) (calls_size all p) in
          let y = ap tick_limit (calls_size all p) in
          let e = call_rests (record_after_calls all p) (Erase u b d) (ap running resumed_phase) (calls_sound all p s) k (omega (arith, z)) (omega (arith, few, y)) (Busy (Erase u b d)) resumed_phase in
          let q = calls_append all (ticks k ∷ []) p in
          (ap (λ (t : Record). t.phase) q ∙ e.phase_is, ap (λ (t : Record). t.part.wel) q ∙ e.latch)

      -- and leave FFh in its whole unit, whatever was there
      pub resumed_whole : (m : Memory) (at x : ℕ) → in_unit (Erase u b 0) p.part.blocks m at ≡ true
          → byte_after_all m at (history (interrupted d (one_byte w c) cs (one_byte v r) ++ (ticks (unit_pages u p.part.blocks - d) ∷ [])) p) x ≡ erased_byte
      resumed_whole m at x i =
          let all = interrupted d (one_byte w c) cs (one_byte v r) in
          let k = unit_pages u p.part.blocks - d in
          let idle : (record_after_call (ticks k) (record_after_calls all p)).phase ≡ Idle = sym (ap (λ (t : Record). t.phase) (calls_append all (ticks k ∷ []) p)) ∙ resumed_ends.0 in
          let none_done : left_in u b p.phase m at x ≡ x = ap (λ (h : Phase). left_in u b h m at x) f ∙ held_so (in_done (Erase u b 0) m at) x (λ t. absurd (nothing_done m at u b t)) in
          ap (byte_after_all m at (history (all ++ (ticks k ∷ [])) p)) (sym none_done)
          ∙ erase_whole u b p.part.blocks all k p s refl (subst⁻¹ (Erasing u b) f refl) never (ap is_idle idle) m at x i
