-- What the definitions for a script on bytes come to: how its refusal is told, a script that is refused, with or without a record held, and one that runs.
use Prim.Native.Nat.{ℕ}
use mathlib.Core.Path.{◌≡◌, refl, sym, ap, ◌∙◌}
use mathlib.Core.Bool.{Bool, true, false, false≢true}
use mathlib.Core.List.{List}
use borrow.Author.Tests.{eq-eqb, ne_eqb}
use lib.Dec.{leb}
use lib.ListN.{length}
use Rattle.types.specs.declared.Record.{Record}
use Rattle.types.specs.declared.Wear.{Wear}
use Rattle.words.specs.Logic.{◌and◌, ◌or_else◌}
use Rattle.words.proofs.Tests.{and_l, or_else_zero, unless_zero}
use Rattle.paper.specs.Soundness.{sound}
use Rattle.paper.specs.Numbers.{size_number, sound_number, later_script_refusal, script_refusal}
use Rattle.paper.specs.Board.{board_of}
use Rattle.paper.specs.Script.{Script, Scripted, after_steps, unstepped, scripted}
use Rattle.paper.specs.Map.{map_steps, script_map}
use Rattle.paper.specs.Wear.{wear_steps}
use Rattle.paper.proofs.Numbers.{ScriptTaken, script_taken}
use Rattle.record_bytes.specs.Layout.{record_bytes}
use Rattle.record_bytes.specs.declared.Found.{Found}
use Rattle.record_bytes.specs.Read.{Held, record_in, found_of}
use Rattle.record_bytes.proofs.Back.{held_bytes, on_none, on_held_lem}
use Rattle.script.specs.declared.Ran.{Ran}
use Rattle.script.specs.Steps.{Ready, Fit}
use Rattle.script.specs.InBytes.{held_refusal, held_script, ran_of, script_bytes, held_map, script_wear, held_wear}

-- what a script gives, of its answer and of each buffer but the record's bytes
pub record Gives (given : Scripted) (number step : ℕ) (xs rs o n d : List ℕ) : Type 0 where
  pub answer : ◌≡◌ {A = Ran} record { number = number; step = step } (ran_of given)
  pub array : xs ≡ given.board.array
  pub rows : rs ≡ given.board.rows
  pub output : o ≡ given.output
  pub answers : n ≡ given.answers
  pub done : d ≡ given.done

pub gives : (given w : Scripted) → w ≡ given → Gives given w.number w.step w.board.array w.board.rows w.output w.answers w.done
gives given w f =
    record { answer = ap ran_of f; array = ap (λ (v : Scripted). v.board.array) f; rows = ap (λ (v : Scripted). v.board.rows) f; output = ap (λ (v : Scripted). v.output) f; answers = ap (λ (v : Scripted). v.answers) f; done = ap (λ (v : Scripted). v.done) f }

-- its refusal, by what was found in the bytes
module _ (h : Held) (wp : ℕ) (s : Script) (a r o n d : ℕ) where
  abbrev later : Bool → ℕ
  later t = later_script_refusal t r s.lengths (length s.ticks) n d (length s.input) o

  pub unread_refusal : h.ok ≡ false → (k : ℕ) → k ≡ later false → k ≡ held_refusal h wp s a r o n d
  unfolding held_refusal
  unread_refusal e k ek = ek ∙ sym (on_none h _ _ e)

  pub read_refusal : h.ok ≡ true → (x : Found) → x ≡ found_of h.state → (k : ℕ) → k ≡ (size_number x.part.blocks a or_else later (x.sound and leb wp 1)) → k ≡ held_refusal h wp s a r o n d
  unfolding held_refusal script_refusal
  read_refusal e x ex k ek =
      ek ∙ ap (λ (f : Found). size_number f.part.blocks a or_else later (f.sound and leb wp 1)) ex ∙ sym (on_held_lem h _ _ e)

-- no record held is a refusal
none_refused : (r : ℕ) (ls : List ℕ) (t n d i o : ℕ) → later_script_refusal false r ls t n d i o ≡ 0 → ⊥
unfolding later_script_refusal sound_number
none_refused r ls t n d i o e =
    false≢true (unless_zero false 4 (or_else_zero _ _ (or_else_zero _ _ (or_else_zero _ _ e).1).1).1)

-- a script of s on bytes, with memory, output and lists, and the level of WP#
module _ (bs : List ℕ) (wp : ℕ) (s : Script) (xs rs o n d : List ℕ) where
  abbrev given : Scripted
  given = held_script (record_in bs) wp s xs rs o n d

  abbrev pub number : ℕ
  number = held_refusal (record_in bs) wp s (length xs) (length rs) (length o) (length n) (length d)

  abbrev held : Record
  held = (record_in bs).state

  abbrev fit : Bool
  fit = sound held and leb wp 1

  -- no record held
  module _ (e : (record_in bs).ok ≡ false) where
    number_none : number ≡ later_script_refusal false (length rs) s.lengths (length s.ticks) (length n) (length d) (length s.input) (length o)
    unfolding held_refusal
    number_none = on_none (record_in bs) _ _ e

    none_zero : number ≡ 0 → ⊥
    none_zero z = none_refused _ _ _ _ _ _ _ (sym number_none ∙ z)

    given_none : given ≡ unstepped number (board_of held xs rs) o n d
    unfolding held_script
    given_none = on_none (record_in bs) _ _ e ∙ ap (λ (j : ℕ). unstepped j (board_of held xs rs) o n d) (sym number_none)

  -- a record held
  module _ (e : (record_in bs).ok ≡ true) where
    number_is : number ≡ script_refusal held.part.blocks fit (length xs) (length rs) s.lengths (length s.ticks) (length n) (length d) (length s.input) (length o)
    unfolding held_refusal
    number_is = on_held_lem (record_in bs) _ _ e

    given_is : given ≡ scripted fit s (board_of held xs rs) o n d
    unfolding held_script
    given_is = on_held_lem (record_in bs) _ _ e

    map_is : (m : List ℕ) → held_map (record_in bs) wp s xs rs o n d m ≡ script_map fit s (board_of held xs rs) o n d m
    unfolding held_map
    map_is m = on_held_lem (record_in bs) _ m e

    wear_is : (ws : List Wear) → held_wear (record_in bs) wp s xs rs o n d ws ≡ script_wear fit s (board_of held xs rs) o n d ws
    unfolding held_wear
    wear_is ws = on_held_lem (record_in bs) _ ws e

  -- refused: all is as it was
  module _ (h : number ≡ 0 → ⊥) where
    given_by : (t : Bool) → (record_in bs).ok ≡ t → given ≡ unstepped number (board_of held xs rs) o n d
    unfolding scripted
    given_by true e =
        given_is e ∙ rw (ne_eqb _ _ (λ z. h (number_is e ∙ z))) (ap (λ (j : ℕ). unstepped j (board_of held xs rs) o n d) (sym (number_is e)))
    given_by false e = given_none e

    pub refused_given : given ≡ unstepped number (board_of held xs rs) o n d
    refused_given = given_by (record_in bs).ok refl

    left_by : (t : Bool) → (record_in bs).ok ≡ t → bs ≡ script_bytes (record_in bs) given bs
    left_by true e =
        sym (on_held_lem (record_in bs) _ bs e ∙ ap (λ (w : Scripted). record_bytes w.board.state) refused_given ∙ held_bytes bs e)
    left_by false e = sym (on_none (record_in bs) _ bs e)

    pub refused_left : bs ≡ script_bytes (record_in bs) given bs
    refused_left = left_by (record_in bs).ok refl

    map_by : (m : List ℕ) (t : Bool) → (record_in bs).ok ≡ t → m ≡ held_map (record_in bs) wp s xs rs o n d m
    unfolding held_map script_map
    map_by m true e = sym (map_is e m ∙ rw (ne_eqb _ _ (λ z. h (number_is e ∙ z))) refl)
    map_by m false e = sym (on_none (record_in bs) _ m e)

    pub refused_map : (m : List ℕ) → m ≡ held_map (record_in bs) wp s xs rs o n d m
    refused_map m = map_by m (record_in bs).ok refl

    wear_by : (ws : List Wear) (t : Bool) → (record_in bs).ok ≡ t → ws ≡ held_wear (record_in bs) wp s xs rs o n d ws
    unfolding held_wear
    wear_by ws true e = sym (wear_is e ws ∙ rw (ne_eqb _ _ (λ z. h (number_is e ∙ z))) refl)
    wear_by ws false e = sym (on_none (record_in bs) _ ws e)

    pub refused_wear : (ws : List Wear) → ws ≡ held_wear (record_in bs) wp s xs rs o n d ws
    refused_wear ws = wear_by ws (record_in bs).ok refl

  -- or not: what the steps find
  module _ (z : number ≡ 0) where
    held_by : (t : Bool) → (record_in bs).ok ≡ t → (record_in bs).ok ≡ true
    held_by true e = e
    held_by false e = absurd (none_zero e z)

    pub is_held : (record_in bs).ok ≡ true
    is_held = held_by (record_in bs).ok refl

    taken : ScriptTaken held.part.blocks fit (length xs) (length rs) s.lengths (length s.ticks) (length n) (length d) (length s.input) (length o)
    taken = script_taken _ _ _ _ _ _ _ _ _ _ (sym (number_is is_held) ∙ z)

    pub begins_fit : Fit s (length o) (length n) (length d)
    begins_fit = record { ticks = taken.ticks; answers = taken.answers; done = taken.done; output = taken.output; sum = taken.input }

    pub begins_ready : Ready bs (length xs) (length rs)
    begins_ready = record { ok = is_held; is_sound = and_l _ _ taken.is_sound; array = taken.size; rows = taken.rows }

    -- and what they leave
    abbrev pub first : Scripted
    first = unstepped 0 (board_of held xs rs) o n d

    pub ran_given : (w : Scripted) → w ≡ after_steps s (length s.lengths) first → w ≡ given
    unfolding scripted
    ran_given w e = e ∙ sym (given_is is_held ∙ rw (eq-eqb _ _ (sym (number_is is_held) ∙ z)) refl)

    pub ran_left : (bs' : List ℕ) (w : Scripted) → w ≡ given → w.board.state ≡ (record_in bs').state → (record_in bs').ok ≡ true → bs' ≡ script_bytes (record_in bs) given bs
    ran_left bs' w e es ok =
        sym (on_held_lem (record_in bs) _ bs is_held ∙ ap (λ (v : Scripted). record_bytes v.board.state) (sym e) ∙ ap record_bytes es ∙ held_bytes bs' ok)

    pub ran_map : (m m' : List ℕ) → m' ≡ map_steps s (length s.lengths) first m → m' ≡ held_map (record_in bs) wp s xs rs o n d m
    unfolding script_map
    ran_map m m' em = em ∙ sym (map_is is_held m ∙ rw (eq-eqb _ _ (sym (number_is is_held) ∙ z)) refl)

    pub ran_wear : (ws ws' : List Wear) → ws' ≡ wear_steps s (length s.lengths) first ws → ws' ≡ held_wear (record_in bs) wp s xs rs o n d ws
    ran_wear ws ws' ew = ew ∙ sym (wear_is is_held ws ∙ rw (eq-eqb _ _ (sym (number_is is_held) ∙ z)) refl)
