-- A script keeps a map of blank pages as its calls do, step by step.
use Prim.Native.Nat.{ℕ, zero, suc, ◌+◌, ◌≤◌, ◌<◌}
use mathlib.Core.Path.{◌≡◌, refl, sym, ap, subst⁻¹, ◌∙◌}
use mathlib.Core.Bool.{Bool, true, false, cond}
use mathlib.Core.List.{List, [], ◌++◌, append-nil}
use native.Mathlib.Omega.{arith}
use lib.Dec.{eqb}
use lib.ListN.{length, get_or}
use borrow.Author.Tests.{eqb-true, eqb-false, ne_eqb}
use Rattle.words.specs.Logic.{when_zero}
use Rattle.words.specs.Lists.{between}
use Rattle.words.proofs.Sums.{sum_le}
use Rattle.paper.specs.History.{Call}
use Rattle.paper.specs.Board.{Board, Own, after_calls}
use Rattle.paper.specs.Script.{Script, Scripted, step_at, step_length, calls_at, after_steps, unstepped, refusal_of, stop_before, calls_before, script_calls}
use Rattle.paper.specs.Map.{map_after_calls, map_steps, script_map}
use Rattle.paper.proofs.Numbers.{script_taken}
use Rattle.paper.proofs.Boards.{calls_own}
use Rattle.paper.proofs.Map.{maps_append}
use Rattle.history.specs.ScriptLaws.{StepsTold}
use Rattle.history.specs.ScriptMap.{ScriptMap}
use Rattle.history.proofs.ScriptSteps.{own_calls, step_calls_lem, between_length}
use Rattle.history.proofs.Scripts.{steps_told, refused_script, taken_script}

-- a script that is not refused, on a sound part with its own memory
module _ (ok : Bool) (s : Script) (b : Board) (o n d m : List ℕ) (own : Own b) (z : refusal_of ok s b o n d ≡ 0) where
  abbrev after : ℕ → Scripted
  after k = after_steps s k (unstepped 0 b o n d)

  abbrev stop : ℕ → ℕ
  stop k = stop_before s b.state.part.blocks k

  abbrev calls : ℕ → List Call
  calls k = calls_before s b.state.part.blocks k

  abbrev maps : ℕ → List ℕ
  maps k = map_steps s k (unstepped 0 b o n d) m

  -- step k
  module _ (k : ℕ) (l : k < length s.lengths) where
    abbrev input_at : List ℕ
    input_at = between (step_at s k) (step_length s k) s.input

    abbrev output_at : List ℕ
    output_at = between (step_at s k) (step_length s k) (after k).output

    abbrev step_own : List Call
    step_own = own_calls s.wp input_at (get_or s.ticks k 0) (step_length s k)

    told : StepsTold s b o n d k (after k) (calls k) (stop k)
    told = steps_told (record { ok = ok; script = s; board = b; output = o; answers = n; done = d; is_sound = own.is_sound; unrefused = z }) k (omega arith)

    fits : step_at s k + step_length s k ≤ length s.input
    fits = rw (← (script_taken _ _ _ _ _ _ _ _ _ _ z).input) (sum_le s.lengths (suc k) (length s.lengths) l)

    output_is : length output_at ≡ step_length s k
    output_is =
        between_length (step_at s k) (step_length s k) (after k).output (rw (told.output_length, (script_taken _ _ _ _ _ _ _ _ _ _ z).output) fits)

    -- makes the calls that are told of it
    calls_then_lem : calls_at s k (after k) ≡ step_own
    calls_then_lem =
        let there = subst⁻¹ Own told.board (calls_own (calls k) b own) in
        step_calls_lem s.wp input_at (get_or s.ticks k 0) (after k).board output_at there.is_sound there.own_array there.own_rows (between_length (step_at s k) (step_length s k) s.input fits ∙ sym output_is)
        ∙ ap (own_calls s.wp input_at (get_or s.ticks k 0)) output_is

    step_as : (t : Bool) → eqb (stop k) 0 ≡ t → maps k ≡ map_after_calls (calls k) b m → maps (suc k) ≡ map_after_calls (calls (suc k)) b m
    step_as true e before =
        ap (λ (j : ℕ). when_zero j (map_after_calls (calls_at s k (after k)) (after k).board (maps k)) (maps k)) (told.number_is ∙ eqb-true _ _ e)
        ∙ ap (λ (cs : List Call). map_after_calls cs (after k).board (maps k)) calls_then_lem
        ∙ ap (λ (c : Board). map_after_calls step_own c (maps k)) told.board
        ∙ ap (map_after_calls step_own (after_calls (calls k) b)) before
        ∙ sym (maps_append (calls k) step_own b m)
        ∙ ap (λ (t : Bool). map_after_calls (calls k ++ cond t step_own []) b m) (sym e)
    step_as false e before =
        ap (λ (t : Bool). cond t (map_after_calls (calls_at s k (after k)) (after k).board (maps k)) (maps k)) (ne_eqb _ _ (λ h. eqb-false _ _ e (sym told.number_is ∙ h)))
        ∙ before
        ∙ ap (λ (cs : List Call). map_after_calls cs b m) (sym (append-nil (calls k)))
        ∙ ap (λ (t : Bool). map_after_calls (calls k ++ cond t step_own []) b m) (sym e)

  steps_kept : (k : ℕ) → k ≤ length s.lengths → maps k ≡ map_after_calls (calls k) b m
  steps_kept zero l = refl
  steps_kept (suc k) l = step_as k l (eqb (stop k) 0) refl (steps_kept k (omega arith))

-- refused, it makes no call
module _ (ok : Bool) (s : Script) (b : Board) (o n d m : List ℕ) (own : Own b) where
  map_as : (t : Bool) → eqb (refusal_of ok s b o n d) 0 ≡ t → script_map ok s b o n d m ≡ map_after_calls (script_calls ok s b.state (length o) (length n) (length d)) b m
  unfolding script_map
  map_as true e =
      let z = eqb-true _ _ e in
      ap (λ (x : ℕ). when_zero x (map_steps s (length s.lengths) (unstepped 0 b o n d) m) m) z
      ∙ steps_kept ok s b o n d m own z (length s.lengths) (omega arith)
      ∙ ap (λ (cs : List Call). map_after_calls cs b m) (sym (taken_script ok s b o n d own.own_array own.own_rows z).1)
  map_as false e =
      let h = eqb-false _ _ e in
      ap (λ (t : Bool). cond t (map_steps s (length s.lengths) (unstepped 0 b o n d) m) m) e
      ∙ ap (λ (cs : List Call). map_after_calls cs b m) (sym (refused_script ok s b o n d own.own_array own.own_rows h).1)

pub script_map_lem : ScriptMap
script_map_lem ok s b o n d m own = map_as ok s b o n d m own (eqb (refusal_of ok s b o n d) 0) refl
