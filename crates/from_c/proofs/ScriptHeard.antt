-- What C hears of a script's number, step and entries is what the calls answer that it stands for: step by step, up to the one that stops it.
use Prim.Native.Nat.{ℕ, zero, suc, ◌/◌, ◌%◌, ◌^◌, ◌<◌, ◌≤◌}
use mathlib.Core.Path.{◌≡◌, refl, sym, ap, subst, ◌∙◌}
use mathlib.Core.Bool.{Bool, true, false}
use mathlib.Core.List.{List, [], ◌∷◌, ◌++◌, append-nil}
use mathlib.Core.Logic.{◌⊎◌, inl, inr}
use native.Mathlib.Omega.{arith}
use native.Mathlib.Nat.{mod-eq_of_lt}
use lib.Dec.{eqb}
use lib.ListN.{length, get_or, set}
use lib.Seq.{get_or-set_same, get_or-set_other}
use borrow.Author.Tests.{eqb-true, eqb-false}
use Rattle.words.proofs.Tests.{or_else_zero}
use Rattle.paper.specs.Sizes.{array_bytes, rows_bytes}
use Rattle.paper.specs.Soundness.{sound}
use Rattle.paper.specs.History.{Call}
use Rattle.paper.specs.Board.{Board}
use Rattle.paper.specs.Script.{Script, Scripted, Made, stepped, after_steps, unstepped, refusal_of, scripted, script_calls}
use Rattle.paper.proofs.Numbers.{script_early}
use Rattle.history.specs.Course.{Step, sent, waited}
use Rattle.history.specs.ScriptLaws.{course_from, StepsTold}
use Rattle.history.proofs.ScriptSteps.{StepCourse, whole, alone}
use Rattle.history.proofs.Scripts.{Accepted, after, stop, course, Going, going, Halt, reached, made_then, course_then, course_next, course_made, after_next, in-answers, in-done, number_then, step_then, stop_next, steps_told, script_laws}
use Rattle.yawlspar.specs.Face.{packed}
use Rattle.yawlspar_script.specs.Face.{script_answer}
use Rattle.from_c.specs.Driven.{heard_whole, heard_stop, heard_steps, script_steps}

-- what is heard of number, step and entries
abbrev heard_in : Scripted → List ℕ
heard_in w = heard_steps w.number w.step w.answers w.done

-- number and step are read from the answer
module _ (w : Scripted) (small : w.number < 256) (few : w.step < 2 ^ 56) where
  answer_number : script_answer w % 256 ≡ w.number
  unfolding script_answer
  answer_number = omega arith

  answer_step : script_answer w / 256 ≡ w.step
  unfolding script_answer
  answer_step =
      let e : w.step % 2 ^ 56 ≡ w.step = mod-eq_of_lt few in
      omega arith

  answer_heard : heard_steps (script_answer w % 256) (script_answer w / 256) w.answers w.done ≡ heard_in w
  answer_heard =
      ap (λ (k : ℕ). heard_steps k (script_answer w / 256) w.answers w.done) answer_number
      ∙ ap (λ (k : ℕ). heard_steps w.number k w.answers w.done) answer_step

steps_append : (ss ts : List Step) → script_steps (ss ++ ts) ≡ script_steps ss ++ script_steps ts
steps_append [] ts = refl
steps_append (sent a ∷ ss) ts = ap (λ (ks : List ℕ). a.number ∷ ks) (steps_append ss ts)
steps_append (waited t us ∷ ss) ts = ap (λ (ks : List ℕ). packed t.number t.done ∷ ks) (steps_append ss ts)

-- a step that was made whole, and one that stopped the script
whole_told : {m : Made} {ss : List Step} → StepCourse m ss → m.number ≡ 0 → script_steps ss ≡ m.answer ∷ packed 0 m.done ∷ []
whole_told {m} (whole a t us ea es ed en other) z =
    ap (λ (k : ℕ). k ∷ packed t.number t.done ∷ []) ea
    ∙ ap (λ (k : ℕ). m.answer ∷ packed k t.done ∷ []) (en ∙ z)
    ∙ ap (λ (k : ℕ). m.answer ∷ packed 0 k ∷ []) ed
whole_told {m} (alone a ea ed en three) z = absurd (omega arith)

stop_told : {m : Made} {ss : List Step} → StepCourse m ss → (m.number ≡ 3) ⊎ (m.number ≡ 6) → script_steps ss ≡ heard_stop m.number m.answer m.done
stop_told {m} (whole a t us ea es ed en other) (inl e) = absurd (other e)
stop_told {m} (whole a t us ea es ed en other) (inr e) =
    ap (λ (k : ℕ). k ∷ packed t.number t.done ∷ []) ea
    ∙ ap (λ (k : ℕ). m.answer ∷ packed k t.done ∷ []) (en ∙ e)
    ∙ ap (λ (k : ℕ). m.answer ∷ packed 6 k ∷ []) ed
    ∙ ap (λ (k : ℕ). heard_stop k m.answer m.done) (sym e)
stop_told {m} (alone a ea ed en three) e =
    ap (λ (k : ℕ). k ∷ []) ea
    ∙ ap (λ (k : ℕ). heard_stop k m.answer m.done) (sym three)

-- later entries don't count
heard_set : (k j : ℕ) (n d : List ℕ) (x y : ℕ) → k ≤ j → heard_whole k (set n j x) (set d j y) ≡ heard_whole k n d
heard_set zero j n d x y l = refl
heard_set (suc k) j n d x y l =
    let other : k ≡ j → ⊥ = λ e. omega arith in
    rw (get_or-set_other n j k x 0 other, get_or-set_other d j k y 0 other, heard_set k j n d x y (omega arith)) refl

-- a script that is not refused, on a sound part
module _ (x : Accepted) where
  abbrev left : ℕ → Scripted
  left k = after x k

  abbrev told : ℕ → List ℕ
  told k = script_steps (course x k)

  -- step k, whose entries are heard
  module _ (k : ℕ) (l : k < length x.script.lengths) (g : Going x k) (before : told k ≡ heard_whole k (left k).answers (left k).done) where
    abbrev m : Made
    m = made_then x k l g

    told_next : told (suc k) ≡ heard_whole k (left k).answers (left k).done ++ script_steps (course_then x k l g)
    told_next =
        ap script_steps (course_next x k l g)
        ∙ steps_append (course x k) (course_then x k l g)
        ∙ ap (λ (ks : List ℕ). ks ++ script_steps (course_then x k l g)) before

    heard_before : heard_whole k (left (suc k)).answers (left (suc k)).done ≡ heard_whole k (left k).answers (left k).done
    unfolding stepped
    heard_before =
        ap (λ (w : Scripted). heard_whole k w.answers w.done) (after_next x k l g)
        ∙ heard_set k k (left k).answers (left k).done m.answer m.done (omega arith)

    answer_then : get_or (left (suc k)).answers k 0 ≡ m.answer
    unfolding stepped
    answer_then =
        ap (λ (w : Scripted). get_or w.answers k 0) (after_next x k l g)
        ∙ get_or-set_same (left k).answers k m.answer 0 (in-answers x k l g)

    done_then : get_or (left (suc k)).done k 0 ≡ m.done
    unfolding stepped
    done_then =
        ap (λ (w : Scripted). get_or w.done k 0) (after_next x k l g)
        ∙ get_or-set_same (left k).done k m.done 0 (in-done x k l g)

    whole_heard : m.number ≡ 0 → told (suc k) ≡ heard_whole (suc k) (left (suc k)).answers (left (suc k)).done
    whole_heard e =
        told_next
        ∙ ap (λ (ks : List ℕ). heard_whole k (left k).answers (left k).done ++ ks) (whole_told (course_made x k l g) e)
        ∙ rw (heard_before, answer_then, done_then) refl

    stop_heard : (m.number ≡ 3) ⊎ (m.number ≡ 6) → told (suc k) ≡ heard_steps m.number k (left (suc k)).answers (left (suc k)).done
    stop_heard e =
        told_next
        ∙ ap (λ (ks : List ℕ). heard_whole k (left k).answers (left k).done ++ ks) (stop_told (course_made x k l g) e)
        ∙ rw (heard_before, answer_then, done_then) refl

  going_heard : (k : ℕ) → k ≤ length x.script.lengths → stop x k ≡ 0 → told k ≡ heard_whole k (left k).answers (left k).done
  going_heard zero l e = refl
  going_heard (suc k) l e =
      let u = (or_else_zero _ _ e).0 in
      let g = going x k (omega arith) u in
      whole_heard k l g (going_heard k (omega arith) u) (sym (stop_next x k l g) ∙ e)

  -- all its steps
  abbrev all : ℕ
  all = length x.script.lengths

  heard_as : (stop x all ≡ 0) ⊎ Halt x all → told all ≡ heard_in (left all)
  heard_as (inl e) =
      let g = going x all (omega arith) e in
      going_heard all (omega arith) e
      ∙ sym (append-nil (heard_whole all (left all).answers (left all).done))
      ∙ rw (g.number, g.step) refl
  heard_as (inr h) =
      let k = h.at in
      let l : h.at < all = h.below in
      let g = going x k (omega (arith, h.below)) h.before in
      let e = number_then x k l g h.stops in
      let t = ((steps_told x (suc k) l).stopped (λ u. h.stops (stop_next x k l g ∙ sym e ∙ u))).number in
      ap (λ cs. script_steps (course_from x.board cs)) h.same_calls
      ∙ stop_heard k l g (going_heard k (omega (arith, h.below)) h.before) (subst (λ (j : ℕ). (j ≡ 3) ⊎ (j ≡ 6)) e t)
      ∙ ap (λ (j : ℕ). heard_steps j k (left (suc k)).answers (left (suc k)).done) (sym e)
      ∙ ap (λ (j : ℕ). heard_steps (left (suc k)).number j (left (suc k)).answers (left (suc k)).done) (sym (step_then x k l g h.stops))
      ∙ ap heard_in (sym h.same)

  steps_heard : told all ≡ heard_in (left all)
  steps_heard = heard_as (reached x all (omega arith))

small_either : (k : ℕ) → (k ≡ 3) ⊎ (k ≡ 6) → k < 256
small_either k (inl e) = omega arith
small_either k (inr e) = omega arith

-- number and step are small
module _ (s : Script) (b : Board) (o n d : List ℕ) (k : ℕ) (w : Scripted) (cs : List Call) (number : ℕ) (t : StepsTold s b o n d k w cs number) where
  small_as : (u : Bool) → eqb w.number 0 ≡ u → (w.number < 256) × (w.step ≤ k)
  small_as true e =
      let z : w.number ≡ 0 = eqb-true _ _ e in
      (omega arith, omega (arith, (t.whole z).0))
  small_as false e =
      let h = t.stopped (eqb-false _ _ e) in
      (small_either w.number h.number, omega (arith, h.step))

-- a script on a sound part with its own memory
module _ (ok : Bool) (s : Script) (b : Board) (o n d : List ℕ) (is_sound : sound b.state ≡ true) (ea : length b.array ≡ array_bytes b.state.part.blocks) (er : length b.rows ≡ rows_bytes) (few : length s.lengths < 2 ^ 56) where
  abbrev left_by : Scripted
  left_by = scripted ok s b o n d

  abbrev made_by : List Call
  made_by = script_calls ok s b.state (length o) (length n) (length d)

  either_heard : (u : Bool) → eqb (refusal_of ok s b o n d) 0 ≡ u → heard_steps (script_answer left_by % 256) (script_answer left_by / 256) left_by.answers left_by.done ≡ script_steps (course_from b made_by)
  either_heard true e =
      let z = eqb-true _ _ e in
      let t = script_laws.taken ok s b o n d ea er z in
      let told = script_laws.steps ok s b o n d is_sound z (length s.lengths) (omega arith) in
      let w = after_steps s (length s.lengths) (unstepped 0 b o n d) in
      let small = small_as s b o n d _ _ _ _ told (eqb w.number 0) refl in
      ap (λ (v : Scripted). heard_steps (script_answer v % 256) (script_answer v / 256) v.answers v.done) t.0
      ∙ answer_heard w small.0 (omega (arith, small.1))
      ∙ sym (steps_heard (record { ok = ok; script = s; board = b; output = o; answers = n; done = d; is_sound = is_sound; unrefused = z }))
      ∙ ap (λ (cs : List Call). script_steps (course_from b cs)) (sym t.1)
  either_heard false e =
      let t = script_laws.refused ok s b o n d ea er (eqb-false _ _ e) in
      let r = script_early b.state.part.blocks ok (length b.array) (length b.rows) s.lengths (length s.ticks) (length n) (length d) (length s.input) (length o) in
      ap (λ (v : Scripted). heard_steps (script_answer v % 256) (script_answer v / 256) v.answers v.done) t.0
      ∙ answer_heard (unstepped (refusal_of ok s b o n d) b o n d) r.small (omega arith)
      ∙ rw (r.not_three, r.not_six) refl
      ∙ ap (λ (cs : List Call). script_steps (course_from b cs)) (sym t.1)

  pub script_heard : heard_steps (script_answer left_by % 256) (script_answer left_by / 256) left_by.answers left_by.done ≡ script_steps (course_from b made_by)
  script_heard = either_heard (eqb (refusal_of ok s b o n d) 0) refl
