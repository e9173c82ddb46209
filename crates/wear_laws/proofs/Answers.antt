-- What ticks and scripts answer that are lent wear records: what the plain calls answer; or 35, where there is not one for each sector.
use Prim.Native.Nat.{ℕ}
use mathlib.Core.Path.{◌≡◌, refl, sym, ◌∙◌}
use mathlib.Core.Bool.{Bool, true, false}
use mathlib.Core.List.{List}
use lib.Dec.{eqb}
use lib.ListN.{length}
use borrow.Author.Tests.{eqb-false}
use Rattle.types.specs.declared.Wear.{Wear}
use Rattle.words.specs.Logic.{unless, ◌or_else◌}
use Rattle.paper.specs.Sizes.{array_sectors}
use Rattle.paper.specs.Soundness.{sound}
use Rattle.paper.specs.Numbers.{wear_number, tick_number}
use Rattle.paper.specs.Calls.{ticked}
use Rattle.paper.specs.Board.{Board, Own, waited}
use Rattle.paper.specs.Script.{Script, unstepped, refusal_of, scripted}
use Rattle.paper.specs.Wear.{wear_tick_number_of, wear_ticked, wear_refusal_of, wear_scripted}
use Rattle.history.proofs.Scripts.{script_laws}
use Rattle.wear_laws.proofs.Stands.{number_is, refusal_is}

-- ticks
module _ (n : ℕ) (b : Board) (ws : List Wear) (own : Own b) where
  abbrev plain : ℕ
  plain = tick_number b.state.part.blocks (sound b.state) (length b.array) (length b.rows) n

  ticks_as : wear_tick_number_of b n (length ws) ≡ plain → (t : Bool) → eqb plain 0 ≡ t → ((wear_ticked b n (length ws)).number ≡ (waited b n).number) × ((wear_ticked b n (length ws)).done ≡ (waited b n).done)
  unfolding wear_ticked ticked
  ticks_as e true z = (rw (e, z) refl, rw (e, z) refl)
  ticks_as e false z = (rw (e, z) refl, rw (e, z) refl)

  pub ticks_answer : eqb (length ws) (array_sectors b.state.part.blocks) ≡ true → ((wear_ticked b n (length ws)).number ≡ (waited b n).number) × ((wear_ticked b n (length ws)).done ≡ (waited b n).done)
  unfolding wear_number unless ◌or_else◌
  ticks_answer e = ticks_as (number_is n b ws own ∙ rw e refl) (eqb plain 0) refl

  pub ticks_35 : eqb (length ws) (array_sectors b.state.part.blocks) ≡ false → ((wear_ticked b n (length ws)).number ≡ 35) × ((wear_ticked b n (length ws)).done ≡ 0)
  unfolding wear_ticked wear_number unless ◌or_else◌
  ticks_35 e =
      let z : wear_tick_number_of b n (length ws) ≡ 35 = number_is n b ws own ∙ rw e refl in
      (rw z refl, rw z refl)

-- scripts
module _ (ok : Bool) (s : Script) (b : Board) (o n d : List ℕ) (ws : List Wear) (own : Own b) where
  script_as : wear_refusal_of ok s b o n d (length ws) ≡ refusal_of ok s b o n d → (t : Bool) → eqb (refusal_of ok s b o n d) 0 ≡ t → (wear_scripted ok s b o n d ws).run ≡ scripted ok s b o n d
  unfolding wear_scripted
  script_as e true z = rw (e, z) refl
  script_as e false z =
      rw (e, z) (sym (script_laws.refused ok s b o n d own.own_array own.own_rows (eqb-false _ _ z)).0)

  pub script_answer_lem : eqb (length ws) (array_sectors b.state.part.blocks) ≡ true → (wear_scripted ok s b o n d ws).run ≡ scripted ok s b o n d
  unfolding wear_number unless ◌or_else◌
  script_answer_lem e = script_as (refusal_is ok s b o n d ws own ∙ rw e refl) (eqb (refusal_of ok s b o n d) 0) refl

  pub script_35 : eqb (length ws) (array_sectors b.state.part.blocks) ≡ false → (wear_scripted ok s b o n d ws).run ≡ unstepped 35 b o n d
  unfolding wear_scripted wear_number unless ◌or_else◌
  script_35 e =
      let z : wear_refusal_of ok s b o n d (length ws) ≡ 35 = refusal_is ok s b o n d ws own ∙ rw e refl in
      rw z refl
