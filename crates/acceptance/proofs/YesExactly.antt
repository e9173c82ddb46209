-- A check says yes exactly where its run answers 0 at every step, ends idle and leaves the image.
use Prim.Native.Nat.{ℕ, ◌<◌, ◌≤◌}
use mathlib.Core.Path.{◌≡◌, refl, sym, ap, ◌∙◌, subst, subst⁻¹}
use mathlib.Core.Bool.{Bool, true, false, not, cond, false≢true}
use mathlib.Core.List.{List}
use native.Mathlib.Omega.{arith}
use lib.ListN.{length, get_or}
use lib.Seq.{ext_get_or}
use lib.Dec.{eqb, ltb}
use borrow.Author.Tests.{eqb-true, eqb-false, eq-eqb, le-ltb, ltb-false, not-false}
use Rattle.types.specs.declared.Verdict.{Verdict}
use Rattle.types.specs.declared.Verdict.TheVariants.{Yes, Step, Address, Refused}
use Rattle.words.specs.Logic.{◌and◌, ◌or◌, when_zero}
use Rattle.words.specs.Lists.{differ_at}
use Rattle.words.proofs.Tests.{and_in}
use Rattle.words.proofs.Search.{first_le, first_none, first_before}
use Rattle.paper.specs.Phases.{is_idle}
use Rattle.paper.specs.Soundness.{sound}
use Rattle.paper.specs.Board.{Board}
use Rattle.paper.specs.Script.{Script, Scripted, after_steps, unstepped, scripted, stop_before, calls_before}
use Rattle.paper.specs.Check.{stops_at, step_fails, failing_step, ends_idle, differing_address, verdict_on, check_refusal_of, unchecked_by, checked_run, Checked, checked}
use Rattle.paper.proofs.Phases.{idle_is}
use Rattle.paper.proofs.Numbers.{ScriptTaken, script_taken, check_taken}
use Rattle.history.specs.ScriptLaws.{StepsTold}
use Rattle.history.proofs.Told.{run_told}
use Rattle.history.proofs.Scripts.{script_laws}
use Rattle.acceptance.specs.Accepts.{RunsRight, YesExactly}

-- a test of two that fails: both fail
neither : (a b : Bool) → (a or b) ≡ false → (a ≡ false) × (b ≡ false)
unfolding ◌or◌
neither true b e = absurd (false≢true (sym e))
neither false b e = (refl, e)

-- what a verdict of yes says of a run of n steps
abbrev is_yes : Verdict → Bool
is_yes Yes = true
is_yes (Step k) = false
is_yes (Address a) = false
is_yes (Refused k) = false

module _ (n : ℕ) (image : List ℕ) (w : Scripted) where
  record Nothing : Type 0 where
    fails : failing_step n w ≡ n
    idle : ends_idle w ≡ true
    differs : differing_address w.board.array image ≡ length image

  verdict_as : (t u v : Bool) → ltb (failing_step n w) n ≡ t → ends_idle w ≡ u → ltb (differing_address w.board.array image) (length image) ≡ v
      → is_yes (cond t (Step (failing_step n w)) (cond (not u) (Step n) (cond v (Address (differing_address w.board.array image)) Yes))) ≡ true → Nothing
  verdict_as true u v e f g h = absurd (false≢true h)
  verdict_as false false v e f g h = absurd (false≢true h)
  verdict_as false true true e f g h = absurd (false≢true h)
  verdict_as false true false e f g h =
      let l : n ≤ failing_step n w = ltb-false _ _ e in
      let m : failing_step n w ≤ n = first_le (step_fails w) n in
      let x : length image ≤ differing_address w.board.array image = ltb-false _ _ g in
      let y : differing_address w.board.array image ≤ length image = first_le (differ_at w.board.array image) (length image) in
      record { fails = omega arith; idle = f; differs = omega arith }

  nothing_said : verdict_on n image w ≡ Yes → Nothing
  unfolding verdict_on
  nothing_said e =
      verdict_as (ltb (failing_step n w) n) (ends_idle w) (ltb (differing_address w.board.array image) (length image)) refl refl refl (ap is_yes e)

  yes_said : Nothing → verdict_on n image w ≡ Yes
  unfolding verdict_on
  yes_said h =
      rw (h.fails, h.idle, h.differs, le-ltb n n (omega arith), le-ltb (length image) (length image) (omega arith)) refl

  -- and a run that is right
  right_none : RunsRight n image w → (k : ℕ) → k < n → step_fails w k ≡ false
  unfolding ◌and◌ ◌or◌
  right_none r k l = rw (r.answers k l, r.unstopped) refl

  right_nothing : RunsRight n image w → Nothing
  right_nothing r =
      record {
        fails = first_none (step_fails w) n (right_none r);
        idle = ap is_idle r.idle;
        differs = first_none (differ_at w.board.array image) (length image) (λ a l. ap not (eq-eqb _ _ (ap (λ (xs : List ℕ). get_or xs a 0) r.array)));
      }

  pub right_yes : RunsRight n image w → verdict_on n image w ≡ Yes
  right_yes r = yes_said (right_nothing r)

  -- of a run that stops at one of its steps, if at all
  module _ (within : (w.number ≡ 0 → ⊥) → w.step < n) (long : length w.board.array ≡ length image) (h : Nothing) where
    none_fails : (k : ℕ) → k < n → step_fails w k ≡ false
    none_fails k l = first_before (step_fails w) n k (rw h.fails l)

    stops_not : (t : Bool) → eqb w.number 0 ≡ t → w.number ≡ 0
    stops_not true e = eqb-true _ _ e
    stops_not false e =
        let here : stops_at w w.step ≡ true = and_in (ap not e) (eq-eqb w.step w.step refl) in
        absurd (false≢true (sym (neither _ _ (none_fails w.step (within (eqb-false _ _ e)))).1 ∙ here))

    nothing_right : RunsRight n image w
    nothing_right =
        record {
          unstopped = stops_not (eqb w.number 0) refl;
          answers = λ k l. eqb-true _ _ (not-false _ (neither _ _ (none_fails k l)).0);
          idle = idle_is w.board.state.phase h.idle;
          array = ext_get_or 0 w.board.array image long (λ a l. eqb-true _ _ (not-false _ (first_before (differ_at w.board.array image) (length image) a (rw h.differs (subst (λ (k : ℕ). a < k) long l)))));
        }

-- a check that is not refused, on a sound part: its run, told by the calls that it makes
pub record Taken (s : Script) (b : Board) (o n d image : List ℕ) : Type 0 where
  pub same_length : length image ≡ length b.array
  pub lists : ScriptTaken b.state.part.blocks true (length b.array) (length b.rows) s.lengths (length s.ticks) (length n) (length d) (length s.input) (length o)
  pub is : checked true s b o n d image ≡ checked_run (length s.lengths) image (after_steps s (length s.lengths) (unstepped 0 b o n d))
  pub told : StepsTold s b o n d (length s.lengths) (after_steps s (length s.lengths) (unstepped 0 b o n d)) (calls_before s b.state.part.blocks (length s.lengths)) (stop_before s b.state.part.blocks (length s.lengths))

module _ (s : Script) (b : Board) (o n d image : List ℕ) where
  ran : check_refusal_of true s b o n d image ≡ 0 → checked true s b o n d image ≡ checked_run (length s.lengths) image (scripted true s b o n d)
  unfolding checked
  ran e = ap (λ (k : ℕ). when_zero k (checked_run (length s.lengths) image (scripted true s b o n d)) (unchecked_by k b o n d)) e

  refused_as : (t : Bool) → eqb (check_refusal_of true s b o n d image) 0 ≡ t → is_yes (checked true s b o n d image).verdict ≡ true → check_refusal_of true s b o n d image ≡ 0
  unfolding checked
  refused_as true e h = eqb-true _ _ e
  refused_as false e h = absurd (false≢true (rw e at h))

  module _ (is_sound : sound b.state ≡ true) where
    pub check_told : check_refusal_of true s b o n d image ≡ 0 → Taken s b o n d image
    check_told e =
        let blocks = b.state.part.blocks in
        let x = check_taken blocks true (length image) (length b.array) (length b.rows) s.lengths (length s.ticks) (length n) (length d) (length s.input) (length o) e in
        let t = script_taken blocks true (length b.array) (length b.rows) s.lengths (length s.ticks) (length n) (length d) (length s.input) (length o) x.1 in
        record {
          same_length = x.0;
          lists = t;
          is = ran e ∙ ap (checked_run (length s.lengths) image) (script_laws.taken true s b o n d t.size t.rows x.1).0;
          told = script_laws.steps true s b o n d is_sound x.1 (length s.lengths) (omega arith);
        }

    yes_forward : (checked true s b o n d image).verdict ≡ Yes → (check_refusal_of true s b o n d image ≡ 0) × RunsRight (length s.lengths) image (checked true s b o n d image).run
    yes_forward h =
        let e = refused_as (eqb (check_refusal_of true s b o n d image) 0) refl (ap is_yes h) in
        let t = check_told e in
        let w = after_steps s (length s.lengths) (unstepped 0 b o n d) in
        let ys = (run_told t.told.run is_sound t.lists.size t.lists.rows).array_length in (
          e,
          subst⁻¹ (λ (c : Checked). RunsRight (length s.lengths) image c.run) t.is
              (nothing_right (length s.lengths) image w (λ u. (t.told.stopped u).step) (ys ∙ sym t.same_length) (nothing_said (length s.lengths) image w (sym (ap (λ (c : Checked). c.verdict) t.is) ∙ h))),
        )

    yes_backward : (check_refusal_of true s b o n d image ≡ 0) × RunsRight (length s.lengths) image (checked true s b o n d image).run → (checked true s b o n d image).verdict ≡ Yes
    yes_backward (e, r) =
        let x = ran e in
        ap (λ (c : Checked). c.verdict) x
        ∙ right_yes (length s.lengths) image (scripted true s b o n d) (subst (λ (c : Checked). RunsRight (length s.lengths) image c.run) x r)

pub yes_exactly : YesExactly
yes_exactly s b o n d image is_sound = (yes_forward s b o n d image is_sound, yes_backward s b o n d image is_sound)
