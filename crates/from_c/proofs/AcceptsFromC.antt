-- The answer of yawlspar_check on the bytes of a sound record: it is 0 exactly where the verdict is yes, and so for the script of a right flasher.
use Prim.Native.Nat.{ℕ}
use mathlib.Core.Path.{◌≡◌, refl, sym, ap, ◌∙◌}
use mathlib.Core.Bool.{Bool, true, false, not, cond}
use mathlib.Core.List.{List}
use native.Mathlib.Omega.{arith}
use lib.Dec.{eqb, leb, ltb}
use lib.ListN.{length}
use borrow.Author.Tests.{eqb-false}
use Rattle.types.specs.declared.Record.{Record}
use Rattle.types.specs.declared.Verdict.{Verdict}
use Rattle.types.specs.declared.Verdict.TheVariants.{Yes, Step, Address, Refused}
use Rattle.words.proofs.Tests.{and_in}
use Rattle.paper.specs.Board.{Board, board_of}
use Rattle.paper.specs.Script.{Script, Scripted}
use Rattle.paper.specs.Check.{failing_step, ends_idle, differing_address, verdict_on, Checked, check_refusal_of, checked}
use Rattle.record_bytes.specs.Read.{record_in, on_held}
use Rattle.script.specs.InBytes.{script_of}
use Rattle.checker.specs.InBytes.{held_check}
use Rattle.yawlspar_script.specs.Face.{check_answer}
use Rattle.acceptance.proofs.Acceptance.{acceptance}
use Rattle.from_c.specs.Driven.{Lent, check, Given, gives}
use Rattle.from_c.specs.Holding.{Holding}
use Rattle.from_c.specs.LawsFromC.{board_in}
use Rattle.from_c.specs.AcceptsFromC.{AcceptsFromC}
use Rattle.from_c.proofs.Holding.{in_bytes}
use Rattle.from_c.proofs.LawsFromC.{rested_board}

-- a refusal has a number that is not 0
abbrev Told : Verdict → Type 0
Told Yes = Unit {0}
Told (Step k) = Unit {0}
Told (Address a) = Unit {0}
Told (Refused number) = number ≡ 0 → ⊥

said_as : (n a size k : ℕ) (t u v : Bool) → Told (cond t (Step k) (cond u (Step n) (cond v (Address a) Yes)))
said_as n a size k true u v = tt
said_as n a size k false true v = tt
said_as n a size k false false true = tt
said_as n a size k false false false = tt

said : (n : ℕ) (image : List ℕ) (w : Scripted) → Told (verdict_on n image w)
unfolding verdict_on
said n image w =
    said_as n (differing_address w.board.array image) (length image) (failing_step n w) (ltb (failing_step n w) n) (not (ends_idle w)) (ltb (differing_address w.board.array image) (length image))

told_as : (s : Script) (b : Board) (o n d image : List ℕ) (t : Bool) → eqb (check_refusal_of true s b o n d image) 0 ≡ t → Told (checked true s b o n d image).verdict
unfolding checked
told_as s b o n d image true e = rw e (said (length s.lengths) image _)
told_as s b o n d image false e = rw e (eqb-false _ _ e)

-- so 0 is told for yes alone
zero_yes : (v : Verdict) → Told v → check_answer v ≡ 0 → v ≡ Yes
zero_yes Yes h e = refl
zero_yes (Step k) h e = absurd (omega arith)
zero_yes (Address a) h e = absurd (omega arith)
zero_yes (Refused number) h e = absurd (h (omega arith))

module _ (l : Lent) (p : Record) (wp : ℕ) (i ls ts o n d image : List ℕ) (h : Holding l p) (level : leb wp 1 ≡ true) where
  abbrev its : Script
  its = script_of wp i ls ts

  abbrev judged : Checked
  judged = checked true its (board_in l p) o n d image

  held_judged : held_check (record_in l.bytes) wp its l.array l.rows o n d image ≡ judged
  unfolding on_held held_check
  held_judged =
      rw (in_bytes h) (ap (λ (t : Bool). checked t its (board_of p l.array l.rows) o n d image) (and_in h.is_sound level))

  module _ (g : Given) (e : g ≡ gives (check wp i ls ts o n d image) l) where
    answer_is : g.answer ≡ check_answer judged.verdict
    answer_is = ap (λ (x : Given). x.answer) e ∙ ap (λ (c : Checked). check_answer c.verdict) held_judged

    array_is : g.left.array ≡ judged.run.board.array
    array_is = ap (λ (x : Given). x.left.array) e ∙ ap (λ (c : Checked). c.run.board.array) held_judged

    said_yes : judged.verdict ≡ Yes → g.answer ≡ 0
    said_yes y = answer_is ∙ ap check_answer y

    heard_yes : g.answer ≡ 0 → judged.verdict ≡ Yes
    heard_yes z =
        zero_yes judged.verdict (told_as its (board_in l p) o n d image (eqb (check_refusal_of true its (board_in l p) o n d image) 0) refl) (sym answer_is ∙ z)

pub accepts_from_c : AcceptsFromC
accepts_from_c =
    record {
      yes = λ l p wp i ls ts o n d image h level g e. (heard_yes l p wp i ls ts o n d image h level g e, said_yes l p wp i ls ts o n d image h level g e);
      accepts = λ l p wp i ls ts o n d image r free level bytes z right g e.
          let b = board_in l p in
          let s = script_of wp i ls ts in
          let y = acceptance.accepts s b o n d image (rested_board l p r) free bytes z right in
          let right-run = (acceptance.yes_exactly s b o n d image r.holding.is_sound).0 y in
          (said_yes l p wp i ls ts o n d image r.holding level g e y, array_is l p wp i ls ts o n d image r.holding level g e ∙ right-run.1.array);
    }
