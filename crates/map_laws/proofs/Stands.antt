-- Ticks and scripts that are lent a map stand for the plain calls, refused or not: the part and the map are what these leave.
use Prim.Native.Nat.{ℕ}
use mathlib.Core.Path.{◌≡◌, refl, ap}
use mathlib.Core.Bool.{Bool, false}
use mathlib.Core.List.{List, [], ◌∷◌}
use lib.Dec.{eqb}
use lib.ListN.{length}
use borrow.Author.Tests.{ne_eqb}
use Rattle.words.specs.Logic.{◌or_else◌}
use Rattle.paper.specs.Soundness.{sound}
use Rattle.paper.specs.Phases.{running}
use Rattle.paper.specs.Numbers.{map_number, rows_number, sound_number, ticks_number, tick_number, map_tick_number, later_script_refusal, script_refusal, map_script_refusal}
use Rattle.paper.specs.Calls.{ticked, ticked_memory}
use Rattle.paper.specs.History.{Call, ticks}
use Rattle.paper.specs.Board.{Board, Own, waited, after_calls, after_ticks}
use Rattle.paper.specs.Script.{Script, unstepped, refusal_of, scripted, script_calls}
use Rattle.paper.specs.Map.{MapTicked, MapScripted, map_after_call, map_after_calls, map_tick_number_of, map_ticked, script_map, map_refusal_of, map_scripted}
use Rattle.paper.proofs.Map.{none_kept}
use Rattle.history.proofs.ScriptMap.{script_map_lem}
use Rattle.history.proofs.Beside.{own_number, stands, taken_board, no_script_calls}
use Rattle.map_laws.specs.MapLaws.{TicksStand, ScriptsStand}

-- ticks
module _ (n : ℕ) (b : Board) (m : List ℕ) (own : Own b) where
  abbrev plain : ℕ
  plain = tick_number b.state.part.blocks (sound b.state) (length b.array) (length b.rows) n

  pub number_is : map_tick_number_of b n m ≡ (map_number b.state.part.blocks (length m) or_else plain)
  unfolding map_tick_number tick_number
  number_is =
      own_number b own (map_number b.state.part.blocks (length m)) (rows_number (length b.rows) or_else sound_number (sound b.state) or_else ticks_number b.state.part.blocks n)

  -- refused by the plain call's number, it does nothing either
  refused_ticks : (plain ≡ 0 → ⊥) → (after_ticks b n ≡ b) × (map_after_call (ticks n) b m ≡ m)
  unfolding ticked ticked_memory
  refused_ticks h =
      let e : eqb plain 0 ≡ false = ne_eqb plain 0 h in
      (rw e refl, rw e (none_kept (running b.state.phase) b.array m))

  abbrev given : MapTicked
  given = record { board = after_ticks b n; map = map_after_call (ticks n) b m; number = 0; done = (waited b n).done }

  abbrev left : ℕ → MapTicked
  left x = record { board = b; map = m; number = x; done = 0 }

pub ticks_stand : TicksStand
unfolding map_ticked
ticks_stand n b m own =
    let k = map_number b.state.part.blocks (length m) in
    record {
      part = stands (λ (w : MapTicked). w.board) (λ (cs : List Call). after_calls cs b) (ticks n ∷ []) k (plain n b m own) (given n b m own) (left n b m own) (λ j. refl) (λ z. refl) (λ h. (refused_ticks n b m own h).0) (map_tick_number_of b n m) (number_is n b m own);
      map = stands (λ (w : MapTicked). w.map) (λ (cs : List Call). map_after_calls cs b m) (ticks n ∷ []) k (plain n b m own) (given n b m own) (left n b m own) (λ j. refl) (λ z. refl) (λ h. (refused_ticks n b m own h).1) (map_tick_number_of b n m) (number_is n b m own);
    }

-- scripts
module _ (ok : Bool) (s : Script) (b : Board) (o n d m : List ℕ) (own : Own b) where
  abbrev calls : List Call
  calls = script_calls ok s b.state (length o) (length n) (length d)

  pub refusal_is : map_refusal_of ok s b o n d m ≡ (map_number b.state.part.blocks (length m) or_else refusal_of ok s b o n d)
  unfolding map_script_refusal script_refusal
  refusal_is =
      own_number b own (map_number b.state.part.blocks (length m)) (later_script_refusal ok (length b.rows) s.lengths (length s.ticks) (length n) (length d) (length s.input) (length o))

  abbrev ran : MapScripted
  ran = record { run = scripted ok s b o n d; map = script_map ok s b o n d m }

  abbrev unrun : ℕ → MapScripted
  unrun x = record { run = unstepped x b o n d; map = m }

  unmade : (refusal_of ok s b o n d ≡ 0 → ⊥) → calls ≡ []
  unmade = no_script_calls ok s b o n d own

pub scripts_stand : ScriptsStand
unfolding map_scripted
scripts_stand ok s b o n d m own =
    let k = map_number b.state.part.blocks (length m) in
    let x = map_refusal_of ok s b o n d m in
    record {
      part = stands (λ (w : MapScripted). w.run.board) (λ (cs : List Call). after_calls cs b) (calls ok s b o n d m own) k (refusal_of ok s b o n d) (ran ok s b o n d m own) (unrun ok s b o n d m own) (λ j. refl) (taken_board ok s b o n d own) (λ h. ap (λ (cs : List Call). after_calls cs b) (unmade ok s b o n d m own h)) x (refusal_is ok s b o n d m own);
      map = stands (λ (w : MapScripted). w.map) (λ (cs : List Call). map_after_calls cs b m) (calls ok s b o n d m own) k (refusal_of ok s b o n d) (ran ok s b o n d m own) (unrun ok s b o n d m own) (λ j. refl) (λ z. script_map_lem ok s b o n d m own) (λ h. ap (λ (cs : List Call). map_after_calls cs b m) (unmade ok s b o n d m own h)) x (refusal_is ok s b o n d m own);
    }
