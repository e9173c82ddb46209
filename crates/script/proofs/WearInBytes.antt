-- What the definitions for a script with wear records on bytes come to: another number of records than sectors, and the plain script with its records kept.
use Prim.Native.Nat.{ℕ, ◌/◌}
use mathlib.Core.Path.{◌≡◌, refl, sym, ◌∙◌}
use mathlib.Core.Bool.{Bool, true, false}
use mathlib.Core.List.{List}
use native.Mathlib.Nat.{suc-ne-zero}
use lib.Dec.{eqb, leb}
use lib.ListN.{length}
use borrow.Author.Tests.{ne_eqb}
use Rattle.types.specs.declared.Record.{Record}
use Rattle.types.specs.declared.Wear.{Wear}
use Rattle.words.specs.Logic.{◌and◌}
use Rattle.paper.specs.Soundness.{sound}
use Rattle.paper.specs.Numbers.{later_script_refusal, script_refusal, wear_script_refusal}
use Rattle.paper.specs.Board.{board_of}
use Rattle.paper.specs.Script.{Script, unstepped, refusal_of, scripted}
use Rattle.paper.specs.Wear.{wear_refusal_of, wear_scripted}
use Rattle.record_bytes.specs.Read.{Held, record_in}
use Rattle.record_bytes.proofs.Back.{on_none, on_held_lem}
use Rattle.beside.specs.Beside.{beside_refusal}
use Rattle.beside.proofs.Told.{refused_told, passed_fits}
use Rattle.beside.proofs.Records.{passes, judged}
use Rattle.script.specs.InBytes.{held_script, script_wear, held_wear, held_wear_scripted}

module _ (bs : List ℕ) (wp : ℕ) (s : Script) (xs rs o n d : List ℕ) (ws : List Wear) where
  abbrev here : Held
  here = record_in bs

  abbrev state : Record
  state = here.state

  abbrev fit : Bool
  fit = sound state and leb wp 1

  abbrev later : ℕ
  later = later_script_refusal fit (length rs) s.lengths (length s.ticks) (length n) (length d) (length s.input) (length o)

  abbrev fits : Bool
  fits = eqb (length ws) (length xs / 4096)

  module _ (k : ℕ) (ek : k ≡ beside_refusal here fits (length xs) 35) where
    -- another number of records than sectors: a record is held, and the number is 1 or 35
    pub refused_wear_script : (k ≡ 0 → ⊥) → held_wear_scripted here wp s xs rs o n d ws ≡ record { run = unstepped k (board_of state xs rs) o n d; wear = ws }
    unfolding held_wear_scripted wear_scripted wear_script_refusal
    refused_wear_script stop =
        let t = refused_told here fits (length xs) 35 k ek stop in
        let number = judged state.part.blocks (length xs) (length ws) later t.0 ∙ sym t.2 in
        on_held_lem here (λ p. wear_scripted (sound p and leb wp 1) s (board_of p xs rs) o n d ws) _ t.1
        ∙ rw (number, ne_eqb k 0 stop) refl

    -- as many, or there is no record: the plain script, and its records kept
    module _ (pass : k ≡ 0) where
      refusal_is : here.ok ≡ true → wear_refusal_of fit s (board_of state xs rs) o n d (length ws) ≡ refusal_of fit s (board_of state xs rs) o n d
      unfolding wear_script_refusal script_refusal
      refusal_is e = passes state.part.blocks (length xs) (length ws) later (passed_fits here fits (length xs) 35 k ek pass (λ z. suc-ne-zero 34 z) e)

      script_as : (t : Bool) → eqb (refusal_of fit s (board_of state xs rs) o n d) 0 ≡ t → here.ok ≡ true
          → wear_scripted fit s (board_of state xs rs) o n d ws ≡ record { run = scripted fit s (board_of state xs rs) o n d; wear = script_wear fit s (board_of state xs rs) o n d ws }
      unfolding wear_scripted scripted
      script_as true z e = rw (refusal_is e, z) refl
      script_as false z e = rw (refusal_is e, z) refl

      ran_as : (t : Bool) → here.ok ≡ t → held_wear_scripted here wp s xs rs o n d ws ≡ record { run = held_script here wp s xs rs o n d; wear = held_wear here wp s xs rs o n d ws }
      unfolding held_wear_scripted held_script held_wear
      ran_as true e =
          on_held_lem here (λ p. wear_scripted (sound p and leb wp 1) s (board_of p xs rs) o n d ws) _ e
          ∙ script_as (eqb (refusal_of fit s (board_of state xs rs) o n d) 0) refl e
          ∙ sym (rw (on_held_lem here (λ p. scripted (sound p and leb wp 1) s (board_of p xs rs) o n d) (unstepped (later_script_refusal false (length rs) s.lengths (length s.ticks) (length n) (length d) (length s.input) (length o)) (board_of state xs rs) o n d) e, on_held_lem here (λ p. script_wear (sound p and leb wp 1) s (board_of p xs rs) o n d ws) ws e) refl)
      ran_as false e =
          on_none here (λ p. wear_scripted (sound p and leb wp 1) s (board_of p xs rs) o n d ws) _ e
          ∙ sym (rw (on_none here (λ p. scripted (sound p and leb wp 1) s (board_of p xs rs) o n d) (unstepped (later_script_refusal false (length rs) s.lengths (length s.ticks) (length n) (length d) (length s.input) (length o)) (board_of state xs rs) o n d) e, on_none here (λ p. script_wear (sound p and leb wp 1) s (board_of p xs rs) o n d ws) ws e) refl)

      pub passed_wear_script : held_wear_scripted here wp s xs rs o n d ws ≡ record { run = held_script here wp s xs rs o n d; wear = held_wear here wp s xs rs o n d ws }
      passed_wear_script = ran_as here.ok refl
