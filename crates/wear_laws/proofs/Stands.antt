-- Ticks and scripts that are lent wear records stand for the plain calls, refused or not: the part and the records are what these leave.
use Prim.Native.Nat.{ℕ}
use mathlib.Core.Path.{◌≡◌, refl, ap}
use mathlib.Core.Bool.{Bool, false}
use mathlib.Core.List.{List, [], ◌∷◌}
use lib.Dec.{eqb}
use lib.ListN.{length}
use borrow.Author.Tests.{ne_eqb}
use Rattle.types.specs.declared.Wear.{Wear}
use Rattle.words.specs.Logic.{◌or_else◌}
use Rattle.paper.specs.Soundness.{sound}
use Rattle.paper.specs.Phases.{running}
use Rattle.paper.specs.Numbers.{wear_number, rows_number, sound_number, ticks_number, tick_number, wear_tick_number, later_script_refusal, script_refusal, wear_script_refusal}
use Rattle.paper.specs.Calls.{ticked, ticked_memory}
use Rattle.paper.specs.Reached.{reached}
use Rattle.paper.specs.History.{Call, ticks}
use Rattle.paper.specs.Board.{Board, Own, waited, after_calls, after_ticks}
use Rattle.paper.specs.Script.{Script, unstepped, refusal_of, scripted, script_calls}
use Rattle.paper.specs.Wear.{no_tally, tally_of, worn, WearTicked, WearScripted, wear_after_call, wear_after_calls, wear_tick_number_of, wear_ticked, wear_steps, wear_refusal_of, wear_scripted}
use Rattle.paper.proofs.Wear.{empty_worn, none_tallied}
use Rattle.history.proofs.ScriptOver.{taken_over}
use Rattle.history.proofs.Beside.{own_number, stands, taken_board, no_script_calls}
use Rattle.wear_laws.specs.WearLaws.{TicksStand, ScriptsStand}

-- ticks
module _ (n : ℕ) (b : Board) (ws : List Wear) (own : Own b) where
  abbrev plain : ℕ
  plain = tick_number b.state.part.blocks (sound b.state) (length b.array) (length b.rows) n

  pub number_is : wear_tick_number_of b n (length ws) ≡ (wear_number b.state.part.blocks (length ws) or_else plain)
  unfolding wear_tick_number tick_number
  number_is =
      own_number b own (wear_number b.state.part.blocks (length ws)) (rows_number (length b.rows) or_else sound_number (sound b.state) or_else ticks_number b.state.part.blocks n)

  -- refused by the plain call's number, it does nothing either
  refused_ticks : (plain ≡ 0 → ⊥) → (after_ticks b n ≡ b) × (wear_after_call (ticks n) b ws ≡ ws)
  unfolding ticked ticked_memory
  refused_ticks h =
      let e : eqb plain 0 ≡ false = ne_eqb plain 0 h in
      (rw e refl, rw e (empty_worn (tally_of (record { work = running b.state.phase; count = 0 })) (none_tallied (running b.state.phase)) ws))

  abbrev given : WearTicked
  given = record { board = after_ticks b n; tally = tally_of (reached b.state (waited b n)); number = 0; done = (waited b n).done }

  abbrev left : ℕ → WearTicked
  left x = record { board = b; tally = no_tally; number = x; done = 0 }

pub ticks_stand : TicksStand
unfolding wear_ticked
ticks_stand n b ws own =
    let k = wear_number b.state.part.blocks (length ws) in
    record {
      part = stands (λ (w : WearTicked). w.board) (λ (cs : List Call). after_calls cs b) (ticks n ∷ []) k (plain n b ws own) (given n b ws own) (left n b ws own) (λ j. refl) (λ z. refl) (λ h. (refused_ticks n b ws own h).0) (wear_tick_number_of b n (length ws)) (number_is n b ws own);
      wear = stands (λ (w : WearTicked). worn w.tally ws) (λ (cs : List Call). wear_after_calls cs b ws) (ticks n ∷ []) k (plain n b ws own) (given n b ws own) (left n b ws own) (λ j. empty_worn no_tally (record { erases = refl; programs = refl }) ws) (λ z. refl) (λ h. (refused_ticks n b ws own h).1) (wear_tick_number_of b n (length ws)) (number_is n b ws own);
    }

-- scripts
module _ (ok : Bool) (s : Script) (b : Board) (o n d : List ℕ) (ws : List Wear) (own : Own b) where
  abbrev calls : List Call
  calls = script_calls ok s b.state (length o) (length n) (length d)

  pub refusal_is : wear_refusal_of ok s b o n d (length ws) ≡ (wear_number b.state.part.blocks (length ws) or_else refusal_of ok s b o n d)
  unfolding wear_script_refusal script_refusal
  refusal_is =
      own_number b own (wear_number b.state.part.blocks (length ws)) (later_script_refusal ok (length b.rows) s.lengths (length s.ticks) (length n) (length d) (length s.input) (length o))

  abbrev ran : WearScripted
  ran = record { run = scripted ok s b o n d; wear = wear_steps s (length s.lengths) (unstepped 0 b o n d) ws }

  abbrev unrun : ℕ → WearScripted
  unrun x = record { run = unstepped x b o n d; wear = ws }

  unmade : (refusal_of ok s b o n d ≡ 0 → ⊥) → calls ≡ []
  unmade = no_script_calls ok s b o n d own

pub scripts_stand : ScriptsStand
unfolding wear_scripted
scripts_stand ok s b o n d ws own =
    let k = wear_number b.state.part.blocks (length ws) in
    let x = wear_refusal_of ok s b o n d (length ws) in
    record {
      part = stands (λ (w : WearScripted). w.run.board) (λ (cs : List Call). after_calls cs b) (calls ok s b o n d ws own) k (refusal_of ok s b o n d) (ran ok s b o n d ws own) (unrun ok s b o n d ws own) (λ j. refl) (taken_board ok s b o n d own) (λ h. ap (λ (cs : List Call). after_calls cs b) (unmade ok s b o n d ws own h)) x (refusal_is ok s b o n d ws own);
      wear = stands (λ (w : WearScripted). w.wear) (λ (cs : List Call). wear_after_calls cs b ws) (calls ok s b o n d ws own) k (refusal_of ok s b o n d) (ran ok s b o n d ws own) (unrun ok s b o n d ws own) (λ j. refl) (λ z. taken_over wear_after_call ok s b o n d ws own z) (λ h. ap (λ (cs : List Call). wear_after_calls cs b ws) (unmade ok s b o n d ws own h)) x (refusal_is ok s b o n d ws own);
    }
