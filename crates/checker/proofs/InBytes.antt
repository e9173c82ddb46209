-- What the definitions for a check on bytes come to: an image of another length, a script that is refused, and one that runs.
use Prim.Native.Nat.{ℕ, zero, suc}
use mathlib.Core.Path.{◌≡◌, refl, sym, ap, subst⁻¹, ◌∙◌}
use mathlib.Core.Bool.{Bool, true, false, cond, false≢true}
use mathlib.Core.List.{List}
use mathlib.Core.Logic.{◌⊎◌, inl, inr}
use native.Mathlib.Omega.{arith}
use borrow.Author.Tests.{eq-eqb, ne_eqb, eqb-true, eqb-false}
use lib.Dec.{eqb, leb}
use lib.ListN.{length, length-set}
use Rattle.types.specs.declared.Record.{Record}
use Rattle.types.specs.declared.Verdict.TheVariants.{Refused}
use Rattle.words.specs.Logic.{◌and◌, ◌or◌, ◌or_else◌, when_zero}
use Rattle.words.proofs.Tests.{and_l, or_else_zero}
use Rattle.paper.specs.Soundness.{sound}
use Rattle.paper.specs.Numbers.{size_number, later_script_refusal}
use Rattle.paper.specs.History.{Call}
use Rattle.paper.specs.Board.{Board, board_of}
use Rattle.paper.specs.Script.{Script, Scripted, stepped, made_at, after_steps, unstepped, refusal_of, scripted, stop_before, calls_before}
use Rattle.paper.specs.Check.{Checked, verdict_on, unchecked_by, checked_run, check_refusal_of, checked}
use Rattle.paper.proofs.Numbers.{ScriptTaken, script_taken, Early, later_early, script_early, unsound_refused, later_check, same_check, later_image, image_refused}
use Rattle.record_bytes.specs.Layout.{record_bytes}
use Rattle.record_bytes.specs.Read.{Held, held, record_in}
use Rattle.record_bytes.proofs.Back.{read_back, held_bytes, on_none, on_held_lem}
use Rattle.record_bytes.proofs.Fits.{sound_fits, held_page_length}
use Rattle.script.specs.declared.Ran.{Ran}
use Rattle.script.specs.InBytes.{held_script, ran_of, script_bytes}
use Rattle.history.specs.PageData.{Page}
use Rattle.history.specs.ScriptLaws.{StepsTold}
use Rattle.history.proofs.PageKept.{calls_page}
use Rattle.history.proofs.Told.{Told, run_told}
use Rattle.history.proofs.Scripts.{script_laws}
use Rattle.checker.specs.InBytes.{held_check, image_refusal, has_run, left_of, Ended}

-- a number that refuses a script is none of a run
refuses : (k : ℕ) → Early k → (k ≡ 0 → ⊥) → has_run k ≡ false
unfolding has_run ◌or◌
refuses k e h = rw (ne_eqb k 0 h, e.not_three, e.not_six) refl

-- and 0, 3 and 6 are of one
runs_0 : (k : ℕ) → k ≡ 0 → has_run k ≡ true
unfolding has_run ◌or◌
runs_0 k e = rw e refl

runs_stopped : (k : ℕ) → (k ≡ 3) ⊎ (k ≡ 6) → has_run k ≡ true
unfolding has_run ◌or◌
runs_stopped k (inl e) = rw e refl
runs_stopped k (inr e) = rw e refl

-- steps write into the answers, and leave their number
answers_as : (s : Script) (k : ℕ) (v : Scripted) (t : Bool) → length (cond t (stepped s k v (made_at s k v)) v).answers ≡ length v.answers
unfolding stepped
answers_as s k v true = length-set v.answers k (made_at s k v).answer
answers_as s k v false = refl

answers_length : (s : Script) (k : ℕ) (w : Scripted) → length (after_steps s k w).answers ≡ length w.answers
answers_length s zero w = refl
answers_length s (suc k) w = answers_as s k (after_steps s k w) (eqb (after_steps s k w).number 0) ∙ answers_length s k w

-- what a check leaves of the buffers that are lent to it, by the run that it made
pub record Left (bs : List ℕ) (w : Scripted) (bs' xs' rs' o' n' d' : List ℕ) : Type 0 where
  pub bytes : bs' ≡ script_bytes (record_in bs) w bs
  pub array : xs' ≡ w.board.array
  pub rows : rs' ≡ w.board.rows
  pub output : o' ≡ w.output
  pub answers : n' ≡ w.answers
  pub done : d' ≡ w.done

-- a check of s on bytes, with memory, output and lists, the level of WP#, and an image
module _ (bs : List ℕ) (wp : ℕ) (s : Script) (xs rs o n d image : List ℕ) where
  abbrev p : Record
  p = (record_in bs).state

  abbrev board : Board
  board = board_of p xs rs

  abbrev fit : Bool
  fit = sound p and leb wp 1

  abbrev steps : ℕ
  steps = length s.lengths

  abbrev given : Checked
  given = held_check (record_in bs) wp s xs rs o n d image

  -- and the script alone
  abbrev ran : Scripted
  ran = held_script (record_in bs) wp s xs rs o n d

  abbrev refusal : ℕ
  refusal = refusal_of fit s board o n d

  abbrev later : ℕ
  later = later_script_refusal false (length rs) s.lengths (length s.ticks) (length n) (length d) (length s.input) (length o)

  refused_check : (k : ℕ) (w : Scripted) → (k ≡ 0 → ⊥) → when_zero k (checked_run steps image w) (unchecked_by k board o n d) ≡ unchecked_by k board o n d
  refused_check k w h = rw (ne_eqb k 0 h) refl

  held_given : (record_in bs).ok ≡ true → given ≡ checked fit s board o n d image
  unfolding held_check
  held_given e = on_held_lem (record_in bs) _ _ e

  -- the image is not as long as the array
  module _ (other : length image ≡ length xs → ⊥) where
    image_as : (t : Bool) → (record_in bs).ok ≡ t → given ≡ unchecked_by (image_refusal (record_in bs) (length xs)) board o n d
    unfolding held_check checked image_refusal
    image_as true e =
        let k : check_refusal_of fit s board o n d image ≡ (size_number p.part.blocks (length xs) or_else 38) = image_refused p.part.blocks fit (length image) (length xs) (length rs) s.lengths (length s.ticks) (length n) (length d) (length s.input) (length o) other in
        held_given e
        ∙ ap (λ (j : ℕ). when_zero j (checked_run steps image (scripted fit s board o n d)) (unchecked_by j board o n d)) k
        ∙ refused_check _ _ (λ z. let f : 38 ≡ 0 = (or_else_zero _ 38 z).1 in absurd (omega arith))
        ∙ ap (λ (j : ℕ). unchecked_by j board o n d) (sym (on_held_lem (record_in bs) _ 38 e))
    image_as false e =
        on_none (record_in bs) _ _ e
        ∙ ap (λ (j : ℕ). unchecked_by j board o n d) (later_image p.part.blocks false (length image) (length xs) (length rs) s.lengths (length s.ticks) (length n) (length d) (length s.input) (length o) other ∙ sym (on_none (record_in bs) _ 38 e))

    image_given : given ≡ unchecked_by (image_refusal (record_in bs) (length xs)) board o n d
    image_given = image_as (record_in bs).ok refl

    pub image_verdict : Refused (image_refusal (record_in bs) (length xs)) ≡ given.verdict
    image_verdict = sym (ap (λ (c : Checked). c.verdict) image_given)

    left_as : (t : Bool) → (record_in bs).ok ≡ t → bs ≡ script_bytes (record_in bs) (unstepped (image_refusal (record_in bs) (length xs)) board o n d) bs
    left_as true e = sym (on_held_lem (record_in bs) _ bs e ∙ held_bytes bs e)
    left_as false e = sym (on_none (record_in bs) _ bs e)

    pub image_left : Left bs given.run bs xs rs o n d
    image_left =
        subst⁻¹ (λ (w : Scripted). Left bs w bs xs rs o n d) (ap (λ (c : Checked). c.run) image_given) (record { bytes = left_as (record_in bs).ok refl; array = refl; rows = refl; output = refl; answers = refl; done = refl })

  -- it is
  module _ (same : length image ≡ length xs) where
    -- the script is refused
    record IsRefused : Type 0 where
      run : given.run ≡ ran
      verdict : given.verdict ≡ Refused ran.number
      off : has_run ran.number ≡ false

    -- or it runs
    record IsRun : Type 0 where
      run : given.run ≡ ran
      verdict : given.verdict ≡ verdict_on steps image ran
      on : has_run ran.number ≡ true
      ok : (record_in bs).ok ≡ true
      none : refusal ≡ 0

    refused_with : (k : ℕ) → Early k → (k ≡ 0 → ⊥) → given ≡ unchecked_by k board o n d → ran ≡ unstepped k board o n d → IsRefused
    refused_with k early h eg er =
        record { run = ap (λ (c : Checked). c.run) eg ∙ sym er; verdict = ap (λ (c : Checked). c.verdict) eg ∙ ap (λ (w : Scripted). Refused w.number) (sym er); off = ap (λ (w : Scripted). has_run w.number) er ∙ refuses k early h }

    -- no record held
    unheld : (record_in bs).ok ≡ false → IsRefused
    unfolding held_check held_script
    unheld e =
        refused_with later (later_early false (length rs) s.lengths (length s.ticks) (length n) (length d) (length s.input) (length o)) (unsound_refused (length rs) s.lengths (length s.ticks) (length n) (length d) (length s.input) (length o)) (on_none (record_in bs) _ _ e ∙ ap (λ (j : ℕ). unchecked_by j board o n d) (later_check p.part.blocks false (length image) (length xs) (length rs) s.lengths (length s.ticks) (length n) (length d) (length s.input) (length o) same)) (on_none (record_in bs) _ _ e)

    -- a record held
    module _ (ok : (record_in bs).ok ≡ true) where
      held_ran : ran ≡ scripted fit s board o n d
      unfolding held_script
      held_ran = on_held_lem (record_in bs) _ _ ok

      given_is : given ≡ when_zero refusal (checked_run steps image (scripted fit s board o n d)) (unchecked_by refusal board o n d)
      unfolding checked
      given_is =
          held_given ok
          ∙ ap (λ (j : ℕ). when_zero j (checked_run steps image (scripted fit s board o n d)) (unchecked_by j board o n d)) (same_check p.part.blocks fit (length image) (length xs) (length rs) s.lengths (length s.ticks) (length n) (length d) (length s.input) (length o) same)

      held_refused : (refusal ≡ 0 → ⊥) → IsRefused
      unfolding scripted
      held_refused h =
          refused_with refusal (script_early p.part.blocks fit (length xs) (length rs) s.lengths (length s.ticks) (length n) (length d) (length s.input) (length o)) h (given_is ∙ refused_check _ _ h) (held_ran ∙ rw (ne_eqb refusal 0 h) refl)

      module _ (z : refusal ≡ 0) where
        abbrev end : Scripted
        end = after_steps s steps (unstepped 0 board o n d)

        abbrev calls : List Call
        calls = calls_before s p.part.blocks steps

        its : ScriptTaken p.part.blocks fit (length xs) (length rs) s.lengths (length s.ticks) (length n) (length d) (length s.input) (length o)
        its = script_taken _ _ _ _ _ _ _ _ _ _ z

        is_sound : sound p ≡ true
        is_sound = and_l _ _ its.is_sound

        its_steps : StepsTold s board o n d steps end calls (stop_before s p.part.blocks steps)
        its_steps = script_laws.steps fit s board o n d is_sound z steps (omega arith)

        ran_is : ran ≡ end
        unfolding scripted
        ran_is = held_ran ∙ rw (eq-eqb refusal 0 z) refl

        on_as : (t : Bool) → eqb end.number 0 ≡ t → has_run end.number ≡ true
        on_as true e = runs_0 _ (eqb-true _ _ e)
        on_as false e = runs_stopped _ (its_steps.stopped (eqb-false _ _ e)).number

        held_run : IsRun
        held_run =
            let g : given ≡ checked_run steps image (scripted fit s board o n d) = given_is ∙ rw (eq-eqb refusal 0 z) refl in
            record { run = ap (λ (c : Checked). c.run) g ∙ sym held_ran; verdict = ap (λ (c : Checked). c.verdict) g ∙ ap (verdict_on steps image) (sym held_ran); on = ap (λ (w : Scripted). has_run w.number) ran_is ∙ on_as (eqb end.number 0) refl; ok = ok; none = z }

        -- what its bytes hold at the end
        told : Told calls p xs rs end.board.state end.board.array end.board.rows
        told = run_told its_steps.run is_sound its.size its.rows

        end_held : record_in (record_bytes end.board.state) ≡ held end.board.state
        end_held =
            read_back _ (sound_fits _ told.next_sound (subst⁻¹ Page told.next (calls_page calls p (held_page_length bs ok))))

        -- and what it leaves
        module _ (r : Ran) (bs' xs' n' : List ℕ) (er : r ≡ ran_of ran) (eb : bs' ≡ script_bytes (record_in bs) ran bs) (ex : xs' ≡ ran.board.array) (en : n' ≡ ran.answers) where
          r_is : r ≡ ran_of end
          r_is = er ∙ ap ran_of ran_is

          left_held : record_in bs' ≡ held end.board.state
          left_held =
              ap record_in (eb ∙ on_held_lem (record_in bs) _ bs ok ∙ ap (λ (w : Scripted). record_bytes w.board.state) ran_is) ∙ end_held

          array_is : xs' ≡ end.board.array
          array_is = ex ∙ ap (λ (w : Scripted). w.board.array) ran_is

          answers_is : n' ≡ end.answers
          answers_is = en ∙ ap (λ (w : Scripted). w.answers) ran_is

          count : length n' ≡ steps
          count = ap length answers_is ∙ answers_length s steps (unstepped 0 board o n d) ∙ its.answers

          left_ended : Ended r bs' (length n')
          left_ended =
              record { ok = ap (λ (h : Held). h.ok) left_held; whole = λ e. rw (r_is, count) (its_steps.whole (sym (ap (λ (q : Ran). q.number) r_is) ∙ e)).0; stopped = λ h. rw (r_is, count) (its_steps.stopped (λ e. h (ap (λ (q : Ran). q.number) r_is ∙ e))).step }

          left_image : length image ≡ length xs'
          left_image = same ∙ sym (ap length array_is ∙ told.array_length)

          left_said : verdict_on (length n') image (left_of r bs' xs' n') ≡ verdict_on steps image ran
          unfolding verdict_on
          left_said = rw (count, r_is, array_is, answers_is, left_held, ran_is) refl

      outcome_held : (t : Bool) → eqb refusal 0 ≡ t → IsRefused ⊎ IsRun
      outcome_held true e = inr (held_run (eqb-true _ _ e))
      outcome_held false e = inl (held_refused (eqb-false _ _ e))

    outcome_as : (t : Bool) → (record_in bs).ok ≡ t → IsRefused ⊎ IsRun
    outcome_as true e = outcome_held e (eqb refusal 0) refl
    outcome_as false e = inl (unheld e)

    outcome : IsRefused ⊎ IsRun
    outcome = outcome_as (record_in bs).ok refl

    -- it changes what its script's run changes
    run_of : IsRefused ⊎ IsRun → given.run ≡ ran
    run_of (inl x) = x.run
    run_of (inr x) = x.run

    pub same_run : given.run ≡ ran
    same_run = run_of outcome

    pub same_left : (bs' xs' rs' o' n' d' : List ℕ) → Left bs ran bs' xs' rs' o' n' d' → Left bs given.run bs' xs' rs' o' n' d'
    same_left bs' xs' rs' o' n' d' l = subst⁻¹ (λ (w : Scripted). Left bs w bs' xs' rs' o' n' d') same_run l

    -- what it says, by what the script answers
    module _ (r : Ran) (er : r ≡ ran_of ran) where
      number_is : r.number ≡ ran.number
      number_is = ap (λ (q : Ran). q.number) er

      refused_of : has_run r.number ≡ false → IsRefused ⊎ IsRun → Refused r.number ≡ given.verdict
      refused_of f (inl x) = ap Refused number_is ∙ sym x.verdict
      refused_of f (inr x) = absurd (false≢true (sym f ∙ ap has_run number_is ∙ x.on))

      pub refused_verdict : has_run r.number ≡ false → Refused r.number ≡ given.verdict
      refused_verdict f = refused_of f outcome

      -- where it ran
      module _ (t : has_run r.number ≡ true) where
        ran_of_lem : IsRefused ⊎ IsRun → IsRun
        ran_of_lem (inl x) = absurd (false≢true (sym x.off ∙ ap has_run (sym number_is) ∙ t))
        ran_of_lem (inr x) = x

        this : IsRun
        this = ran_of_lem outcome

        module _ (bs' xs' n' : List ℕ) (eb : bs' ≡ script_bytes (record_in bs) ran bs) (ex : xs' ≡ ran.board.array) (en : n' ≡ ran.answers) where
          pub run_ended : Ended r bs' (length n') × (length image ≡ length xs')
          run_ended =
              (left_ended this.ok this.none r bs' xs' n' er eb ex en, left_image this.ok this.none r bs' xs' n' er eb ex en)

          pub run_verdict : verdict_on (length n') image (left_of r bs' xs' n') ≡ given.verdict
          run_verdict = left_said this.ok this.none r bs' xs' n' er eb ex en ∙ sym this.verdict
