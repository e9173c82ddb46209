-- What ticks and scripts answer that are lent a map: what the plain calls answer; or 36, where the map has not one bit for each page.
use Prim.Native.Nat.{ℕ}
use mathlib.Core.Path.{◌≡◌, refl, sym, ◌∙◌}
use mathlib.Core.Bool.{Bool, true, false}
use mathlib.Core.List.{List}
use lib.Dec.{eqb}
use lib.ListN.{length}
use borrow.Author.Tests.{eqb-false}
use Rattle.words.specs.Logic.{unless, ◌or_else◌}
use Rattle.paper.specs.Sizes.{map_bytes}
use Rattle.paper.specs.Soundness.{sound}
use Rattle.paper.specs.Numbers.{map_number, tick_number}
use Rattle.paper.specs.Calls.{ticked}
use Rattle.paper.specs.Board.{Board, Own, waited}
use Rattle.paper.specs.Script.{Script, unstepped, refusal_of, scripted}
use Rattle.paper.specs.Map.{map_tick_number_of, map_ticked, map_refusal_of, map_scripted}
use Rattle.history.proofs.Scripts.{script_laws}
use Rattle.map_laws.proofs.Stands.{number_is, refusal_is}

-- ticks
module _ (n : ℕ) (b : Board) (m : List ℕ) (own : Own b) where
  abbrev plain : ℕ
  plain = tick_number b.state.part.blocks (sound b.state) (length b.array) (length b.rows) n

  ticks_as : map_tick_number_of b n m ≡ plain → (t : Bool) → eqb plain 0 ≡ t → ((map_ticked b n m).number ≡ (waited b n).number) × ((map_ticked b n m).done ≡ (waited b n).done)
  unfolding map_ticked ticked
  ticks_as e true z = (rw (e, z) refl, rw (e, z) refl)
  ticks_as e false z = (rw (e, z) refl, rw (e, z) refl)

  pub ticks_answer : eqb (length m) (map_bytes b.state.part.blocks) ≡ true → ((map_ticked b n m).number ≡ (waited b n).number) × ((map_ticked b n m).done ≡ (waited b n).done)
  unfolding map_number unless ◌or_else◌
  ticks_answer e = ticks_as (number_is n b m own ∙ rw e refl) (eqb plain 0) refl

  pub ticks_36 : eqb (length m) (map_bytes b.state.part.blocks) ≡ false → ((map_ticked b n m).number ≡ 36) × ((map_ticked b n m).done ≡ 0)
  unfolding map_ticked map_number unless ◌or_else◌
  ticks_36 e =
      let z : map_tick_number_of b n m ≡ 36 = number_is n b m own ∙ rw e refl in
      (rw z refl, rw z refl)

-- scripts
module _ (ok : Bool) (s : Script) (b : Board) (o n d m : List ℕ) (own : Own b) where
  script_as : map_refusal_of ok s b o n d m ≡ refusal_of ok s b o n d → (t : Bool) → eqb (refusal_of ok s b o n d) 0 ≡ t → (map_scripted ok s b o n d m).run ≡ scripted ok s b o n d
  unfolding map_scripted
  script_as e true z = rw (e, z) refl
  script_as e false z =
      rw (e, z) (sym (script_laws.refused ok s b o n d own.own_array own.own_rows (eqb-false _ _ z)).0)

  pub script_answer_lem : eqb (length m) (map_bytes b.state.part.blocks) ≡ true → (map_scripted ok s b o n d m).run ≡ scripted ok s b o n d
  unfolding map_number unless ◌or_else◌
  script_answer_lem e = script_as (refusal_is ok s b o n d m own ∙ rw e refl) (eqb (refusal_of ok s b o n d) 0) refl

  pub script_36 : eqb (length m) (map_bytes b.state.part.blocks) ≡ false → (map_scripted ok s b o n d m).run ≡ unstepped 36 b o n d
  unfolding map_scripted map_number unless ◌or_else◌
  script_36 e =
      let z : map_refusal_of ok s b o n d m ≡ 36 = refusal_is ok s b o n d m own ∙ rw e refl in
      rw z refl
