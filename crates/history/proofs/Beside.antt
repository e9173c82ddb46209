-- A call that is lent something beside the memory, which has a number of its own, stands for the plain calls: where that number refuses it for none, and else for all of them.
use Prim.Native.Nat.{ℕ}
use mathlib.Core.Path.{◌≡◌, refl, sym, ap, ◌∙◌}
use mathlib.Core.Bool.{Bool, true, false, cond}
use mathlib.Core.List.{List, []}
use native.Mathlib.Omega.{arith}
use lib.Dec.{eqb}
use lib.ListN.{length}
use borrow.Author.Tests.{eqb-true, eqb-false}
use Rattle.words.specs.Logic.{when_zero, ◌or_else◌}
use Rattle.words.proofs.Tests.{or_else_on, or_else_first}
use Rattle.paper.specs.Numbers.{size_number}
use Rattle.paper.specs.History.{Call}
use Rattle.paper.specs.Board.{Board, Own, after_calls}
use Rattle.paper.specs.Script.{Script, Scripted, refusal_of, scripted, script_calls}
use Rattle.paper.proofs.Answers.{size_fits}
use Rattle.history.proofs.Scripts.{script_laws}

-- a part with its own memory has the array of its size
pub own_size : (b : Board) → Own b → size_number b.state.part.blocks (length b.array) ≡ 0
own_size b own = ap (size_number b.state.part.blocks) own.own_array ∙ size_fits b.state own.is_sound

-- so its numbers are that of what is lent beside the memory, and the plain call's
pub own_number : (b : Board) → Own b → (k rest : ℕ) → (size_number b.state.part.blocks (length b.array) or_else k or_else rest) ≡ (k or_else size_number b.state.part.blocks (length b.array) or_else rest)
own_number b own k rest =
    or_else_on _ _ (own_size b own) ∙ ap (λ (x : ℕ). k or_else x) (sym (or_else_on _ _ (own_size b own)))

-- what is told of the calls by F, and of what the call gives by told: k is the number of what is lent, plain the plain call's
module _ {B C : Type 0} (told : C → B) (F : List Call → B) (cs : List Call) (k plain : ℕ) (given : C) (left : ℕ → C) (is-left : (j : ℕ) → told (left j) ≡ F []) (is-given : plain ≡ 0 → told given ≡ F cs) (no-calls : (plain ≡ 0 → ⊥) → F cs ≡ F []) where
  stands_as : (x : ℕ) → x ≡ (k or_else plain) → (t u : Bool) → eqb k 0 ≡ t → eqb plain 0 ≡ u → told (when_zero x given (left x)) ≡ F (cond t cs [])
  stands_as x e true true f g =
      let z : x ≡ 0 = e ∙ or_else_on _ _ (eqb-true _ _ f) ∙ eqb-true _ _ g in
      rw z (is-given (eqb-true _ _ g))
  stands_as x e true false f g =
      let z : x ≡ plain = e ∙ or_else_on _ _ (eqb-true _ _ f) in
      rw (z, g) (is-left plain ∙ sym (no-calls (eqb-false _ _ g)))
  stands_as x e false u f g =
      let z : x ≡ k = e ∙ or_else_first _ _ (eqb-false _ _ f) in
      rw (z, f) (is-left k)

  pub stands : (x : ℕ) → x ≡ (k or_else plain) → told (when_zero x given (left x)) ≡ F (when_zero k cs [])
  stands x e = stands_as x e (eqb k 0) (eqb plain 0) refl refl

-- the part after a plain script is the one that its calls lead to; refused, it makes none
module _ (ok : Bool) (s : Script) (b : Board) (o n d : List ℕ) (own : Own b) where
  pub taken_board : refusal_of ok s b o n d ≡ 0 → (scripted ok s b o n d).board ≡ after_calls (script_calls ok s b.state (length o) (length n) (length d)) b
  taken_board z =
      let t = script_laws.taken ok s b o n d own.own_array own.own_rows z in
      ap (λ (w : Scripted). w.board) t.0
      ∙ (script_laws.steps ok s b o n d own.is_sound z (length s.lengths) (omega arith)).board
      ∙ ap (λ (cs : List Call). after_calls cs b) (sym t.1)

  pub no_script_calls : (refusal_of ok s b o n d ≡ 0 → ⊥) → script_calls ok s b.state (length o) (length n) (length d) ≡ []
  no_script_calls h = (script_laws.refused ok s b o n d own.own_array own.own_rows h).1
