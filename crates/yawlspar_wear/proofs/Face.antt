-- What is packed are the answers: no more ticks did work than a call may ask, a text is no longer than its buffer, and a script's step is cut as its answer says.
use Prim.Native.Nat.{ℕ, ◌%◌, ◌^◌, ◌≤◌, ◌<◌}
use mathlib.Core.Path.{◌≡◌, refl, ap, ◌∙◌}
use mathlib.Core.Bool.{Bool, true, false, cond}
use mathlib.Core.List.{List}
use native.Mathlib.Omega.{arith}
use lib.Dec.{eqb}
use lib.ListN.{length}
use borrow.Author.Tests.{eqb-true}
use Rattle.types.specs.declared.Wear.{Wear}
use Rattle.paper.specs.Numbers.{wear_text_number}
use Rattle.paper.specs.Board.{board_of}
use Rattle.paper.specs.Wear.{wear_tick_number_of, WearTicked, wear_ticked}
use Rattle.paper.specs.Script.{Scripted}
use Rattle.paper.specs.WearText.{wear_written, Written as Told}
use Rattle.paper.proofs.Sizes.{size_range, limit_range}
use Rattle.paper.proofs.CallKept.{done_at_most}
use Rattle.record_bytes.specs.Read.{Held, on_held}
use Rattle.counted.specs.declared.Counted.{Counted}
use Rattle.counted.specs.InBytes.{held_wear_ticked, counted_of}
use Rattle.script.specs.declared.Ran.{Ran}
use Rattle.script.specs.InBytes.{ran_of}
use Rattle.wear_text.specs.declared.Written.{Written}
use Rattle.wear_text.specs.Page.{written_of}
use Rattle.wear_text.proofs.TextLaws.{taken}
use Rattle.yawlspar.specs.Face.{packed}
use Rattle.yawlspar.proofs.Face.{packs}
use Rattle.yawlspar_script.specs.Face.{script_answer}
use Rattle.yawlspar_wear.specs.Face.{wear_tick_answer, text_answer}

-- what holds of either holds of the one that is chosen
either : {A : Type 0} (P : A → Type 0) (t : Bool) (x y : A) → (t ≡ true → P x) → P y → P (cond t x y)
either P true x y p q = p refl
either P false x y p q = q

-- ticks: no more did work than a call may ask
module _ (h : Held) (xs rs : List ℕ) (n w : ℕ) where
  abbrev Few : WearTicked → Type 0
  Few k = k.done ≤ 131072

  few_made : Few (wear_ticked (board_of h.state xs rs) n w)
  unfolding wear_ticked
  few_made =
      either Few (eqb (wear_tick_number_of (board_of h.state xs rs) n w) 0) _ _
      (λ e. omega (arith, (done_at_most h.state (length xs) (length rs) n).1, (limit_range h.state.part.blocks).1)) (omega arith)

  few : Few (held_wear_ticked h xs rs n w)
  unfolding held_wear_ticked on_held
  few = either Few h.ok _ _ (λ e. few_made) (omega arith)

  pub counted_answer : (c : Counted) → c ≡ counted_of (held_wear_ticked h xs rs n w) → packed c.number (c.done % 2 ^ 56) ≡ wear_tick_answer (held_wear_ticked h xs rs n w)
  counted_answer c e =
      ap (λ (x : Counted). packed x.number (x.done % 2 ^ 56)) e
      ∙ packs (held_wear_ticked h xs rs n w).number (held_wear_ticked h xs rs n w).done few

-- a script's step is taken as the answer takes it
pub ran_answer : (w : Scripted) (r : Ran) → r ≡ ran_of w → packed r.number (r.step % 2 ^ 56) ≡ script_answer w
unfolding script_answer
ran_answer w r e = ap (λ (x : Ran). packed x.number (x.step % 2 ^ 56)) e

-- a text is within its buffer, which is that of a part
module _ (n : ℕ) (ws : List Wear) (t : List ℕ) where
  abbrev Short : Told → Type 0
  Short w = w.bytes < 2 ^ 56

  short : Short (wear_written n ws t)
  unfolding wear_written
  short =
      either Short (eqb (wear_text_number n (length ws) (length t)) 0) _ _
      (λ e. let k = taken n (length ws) (length t) (eqb-true _ 0 e) in omega (arith, k.2, (size_range n k.0).1))
      (omega arith)

  pub written_answer : (w : Written) → w ≡ written_of (wear_written n ws t) → packed w.number (w.bytes % 2 ^ 56) ≡ text_answer (wear_written n ws t)
  written_answer w e =
      ap (λ (x : Written). packed x.number (x.bytes % 2 ^ 56)) e
      ∙ (let h = short in omega arith)
