-- A script is the calls that it stands for, step by step: what its steps leave is what the calls before its stop lead to, its entries are what they answer, and nothing after the stop is written.
use Prim.Native.Nat.{ℕ, zero, suc, ◌+◌, ◌<◌, ◌≤◌}
use mathlib.Core.Path.{◌≡◌, refl, sym, ap, subst⁻¹, ◌∙◌}
use mathlib.Core.Bool.{Bool, true, false, cond}
use mathlib.Core.List.{List, [], ◌∷◌, ◌++◌, append_assoc, append-nil}
use mathlib.Core.Logic.{◌⊎◌, inl, inr}
use native.Mathlib.Omega.{arith}
use native.Mathlib.Numerals.{add-one}
use lib.Dec.{eqb, leb}
use lib.ListN.{length, take, drop, get_or, length-set}
use lib.Seq.{drop-drop, drop-set-lt, take-suc-set, get_or-set_same}
use borrow.Author.Tests.{eqb-true, eqb-false, leb-true, leb-false, ne_eqb}
use Rattle.words.specs.Logic.{when_zero, ◌or_else◌}
use Rattle.words.specs.Lists.{every, between, put_between}
use Rattle.words.proofs.Tests.{or_else_zero, or_else_on, or_else_first}
use Rattle.words.proofs.Lists.{every_both}
use Rattle.words.proofs.Sums.{sum_le}
use Rattle.paper.specs.Sizes.{array_bytes, rows_bytes}
use Rattle.paper.specs.Soundness.{sound}
use Rattle.paper.specs.Numbers.{length_number, ticks_number, script_refusal}
use Rattle.paper.specs.Calls.{transacted_output}
use Rattle.paper.specs.History.{Call}
use Rattle.paper.specs.Board.{Board, after_call, after_calls}
use Rattle.paper.specs.Script.{Script, Scripted, Made, made, step_at, step_length, made_at, stepped, after_steps, unstepped, refusal_of, scripted, stop_before, calls_before, script_calls}
use Rattle.paper.proofs.Numbers.{ScriptTaken, script_taken}
use Rattle.history.specs.Run.{Run}
use Rattle.history.specs.Course.{Step}
use Rattle.history.specs.ScriptLaws.{goes_on, answers_in, done_in, LastStops, steps_made, course_from, board_before, step_output, Stopped, StepsTold, ScriptLaws}
use Rattle.history.proofs.Told.{run_told}
use Rattle.history.proofs.Joined.{run_exists, course_joined}
use Rattle.history.proofs.ScriptSteps.{own_calls, StepCourse, three_or_six, step_number_lem, step_board, step_output_lem, step_kept, step_none, step_course, course_answers, course_done, answers_append, course_goes, course_stops, between_length, put_same, put_length, put_after, put_at, put_before}

-- lists that are the same from a place on are the same further on
drop_more : (k j : ℕ) (xs ys : List ℕ) → drop k xs ≡ drop k ys → drop (k + j) xs ≡ drop (k + j) ys
drop_more k j xs ys e = sym (drop-drop j k xs) ∙ ap (drop j) e ∙ drop-drop j k ys

drop_next : (k : ℕ) (xs ys : List ℕ) → drop k xs ≡ drop k ys → drop (suc k) xs ≡ drop (suc k) ys
drop_next k xs ys e = ap (λ (j : ℕ). drop j xs) (sym (add-one k)) ∙ drop_more k 1 xs ys e ∙ ap (λ (j : ℕ). drop j ys) (add-one k)

-- calls and then others
pub after_append : (cs ds : List Call) (b : Board) → after_calls (cs ++ ds) b ≡ after_calls ds (after_calls cs b)
after_append [] ds b = refl
after_append (c ∷ cs) ds b = after_append cs ds (after_call c b)

last_after : {number : ℕ} (ss ts : List Step) → every goes_on ss ≡ true → LastStops number ts → LastStops number (ss ++ ts)
last_after ss ts h t =
    record { earlier = ss ++ t.earlier; last = t.last; is = ap (λ (us : List Step). ss ++ us) t.is ∙ sym (append_assoc ss t.earlier (t.last ∷ [])); others = every_both goes_on ss t.earlier h t.others; answered = t.answered }

-- a script that is not refused, on a sound part, with its output and its lists
pub record Accepted : Type 0 where
  pub ok : Bool
  pub script : Script
  pub board : Board
  pub output : List ℕ
  pub answers : List ℕ
  pub done : List ℕ
  pub is_sound : sound board.state ≡ true
  pub unrefused : refusal_of ok script board output answers done ≡ 0

module _ (x : Accepted) where
  abbrev s : Script
  s = x.script

  abbrev b : Board
  b = x.board

  abbrev o : List ℕ
  o = x.output

  abbrev n : List ℕ
  n = x.answers

  abbrev d : List ℕ
  d = x.done

  abbrev blocks : ℕ
  blocks = b.state.part.blocks

  abbrev steps : ℕ
  steps = length s.lengths

  taken : ScriptTaken blocks x.ok (length b.array) (length b.rows) s.lengths (length s.ticks) (length n) (length d) (length s.input) (length o)
  taken = script_taken _ _ _ _ _ _ _ _ _ _ x.unrefused

  -- what its first k steps leave, what stops them, the calls that they make, and the course of these
  abbrev pub after : ℕ → Scripted
  after k = after_steps s k (unstepped 0 b o n d)

  abbrev pub stop : ℕ → ℕ
  stop k = stop_before s blocks k

  abbrev pub calls : ℕ → List Call
  calls k = calls_before s blocks k

  abbrev pub course : ℕ → List Step
  course k = course_from b (calls k)

  -- so many steps were made
  record Written (k : ℕ) : Type 0 where
    board : (after k).board ≡ after_calls (calls k) b
    output_length : length (after k).output ≡ length o
    answers_length : length (after k).answers ≡ length n
    done_length : length (after k).done ≡ length d
    answers : take k (after k).answers ≡ answers_in (course k)
    done : take k (after k).done ≡ done_in (course k)
    output : (j : ℕ) → j < k → between (step_at s j) (step_length s j) (after k).output ≡ step_output s b o j
    later_answers : drop k (after k).answers ≡ drop k n
    later_done : drop k (after k).done ≡ drop k d
    later_output : drop (step_at s k) (after k).output ≡ drop (step_at s k) o

  -- and nothing stopped them
  pub record Going (k : ℕ) : Type 0 where
    pub unstopped : stop k ≡ 0
    pub number : (after k).number ≡ 0
    pub step : (after k).step ≡ k
    written : Written k
    goes : every goes_on (course k) ≡ true

  -- a board that is sound with its own memory, of the same size
  record Own (c : Board) : Type 0 where
    sound_is : sound c.state ≡ true
    size : c.state.part.blocks ≡ blocks
    array : length c.array ≡ array_bytes c.state.part.blocks
    rows : length c.rows ≡ rows_bytes

  own_after : (cs : List Call) → Own (after_calls cs b)
  own_after cs =
      let t = run_told (run_exists cs b) x.is_sound taken.size taken.rows in
      record { sound_is = t.next_sound; size = t.size; array = t.array_length ∙ taken.size ∙ ap array_bytes (sym t.size); rows = t.rows_length ∙ taken.rows }

  -- step k, where nothing stopped the script before it
  module _ (k : ℕ) (l : k < steps) (g : Going k) where
    abbrev input_at : List ℕ
    input_at = between (step_at s k) (step_length s k) s.input

    abbrev output_at : List ℕ
    output_at = between (step_at s k) (step_length s k) (after k).output

    abbrev ticks_at : ℕ
    ticks_at = get_or s.ticks k 0

    abbrev pub made_then : Made
    made_then = made_at s k (after k)

    abbrev calls_then : List Call
    calls_then = own_calls s.wp input_at ticks_at (length output_at)

    abbrev pub course_then : List Step
    course_then = course_from (after k).board calls_then

    own : Own (after k).board
    own = subst⁻¹ Own g.written.board (own_after (calls k))

    fits : step_at s k + step_length s k ≤ length s.input
    fits = rw (← taken.input) (sum_le s.lengths (suc k) steps l)

    fits_output : step_at s k + step_length s k ≤ length (after k).output
    fits_output = rw (g.written.output_length, taken.output) fits

    output_is : length output_at ≡ step_length s k
    output_is = between_length (step_at s k) (step_length s k) (after k).output fits_output

    same_length : length input_at ≡ length output_at
    same_length = between_length (step_at s k) (step_length s k) s.input fits ∙ sym output_is

    made_number : made_then.number ≡ (length_number (step_length s k) or_else ticks_number blocks ticks_at)
    made_number =
        step_number_lem s.wp input_at ticks_at (after k).board output_at own.sound_is own.array own.rows same_length
        ∙ ap (λ (j : ℕ). length_number j or_else ticks_number (after k).board.state.part.blocks ticks_at) output_is
        ∙ ap (λ (j : ℕ). length_number (step_length s k) or_else ticks_number j ticks_at) own.size

    pub stop_next : stop (suc k) ≡ made_then.number
    stop_next = or_else_on (stop k) _ g.unstopped ∙ sym made_number

    calls_next : calls (suc k) ≡ calls k ++ calls_then
    calls_next =
        ap (λ (j : ℕ). calls k ++ when_zero j (own_calls s.wp input_at ticks_at (step_length s k)) []) g.unstopped
        ∙ ap (λ (j : ℕ). calls k ++ own_calls s.wp input_at ticks_at j) (sym output_is)

    pub course_next : course (suc k) ≡ course k ++ course_then
    course_next =
        ap (course_from b) calls_next
        ∙ course_joined (run_exists (calls k) b) calls_then
        ∙ ap (λ (c : Board). course k ++ course_from c calls_then) (sym g.written.board)

    pub course_made : StepCourse made_then course_then
    course_made = step_course s.wp input_at ticks_at (after k).board output_at own.sound_is own.array own.rows same_length

    pub after_next : after (suc k) ≡ stepped s k (after k) made_then
    after_next = ap (λ (j : ℕ). when_zero j (stepped s k (after k) made_then) (after k)) g.number

    made_output : length made_then.output ≡ step_length s k
    made_output = step_output_lem s.wp input_at ticks_at (after k).board output_at own.sound_is own.array own.rows same_length ∙ output_is

    -- its output is that of its transaction, and that of the steps before stays
    step_written : made_then.output ≡ step_output s b o k
    unfolding made
    step_written =
        ap (λ (c : Board). transacted_output c.state c.array c.rows s.wp input_at output_at) g.written.board
        ∙ ap (λ (xs : List ℕ). transacted_output (board_before s b k).state (board_before s b k).array (board_before s b k).rows s.wp input_at (take (step_length s k) xs)) g.written.later_output

    output_as : (j : ℕ) (t : Bool) → leb (suc j) k ≡ t → j < suc k
        → between (step_at s j) (step_length s j) (put_between (step_at s k) (step_length s k) (after k).output made_then.output) ≡ step_output s b o j
    output_as j true e u =
        put_before (step_at s k) (step_length s k) (after k).output made_then.output fits_output made_output (step_at s j) (step_length s j) (sum_le s.lengths (suc j) k (leb-true _ _ e))
        ∙ g.written.output j (leb-true _ _ e)
    output_as j false e u =
        let v : k < suc j = leb-false _ _ e in
        let same : j ≡ k = omega arith in
        rw same (put_at (step_at s k) (step_length s k) (after k).output made_then.output fits_output made_output ∙ step_written)

    pub in-answers : k < length (after k).answers
    in-answers = rw (g.written.answers_length, taken.answers) l

    pub in-done : k < length (after k).done
    in-done = rw (g.written.done_length, taken.done) l

    -- it is made
    written_next : Written (suc k)
    unfolding stepped
    written_next =
        record {
          board = ap (λ (w : Scripted). w.board) after_next
              ∙ step_board s.wp input_at ticks_at (after k).board output_at own.sound_is own.array own.rows same_length
              ∙ ap (after_calls calls_then) g.written.board
              ∙ sym (after_append (calls k) calls_then b)
              ∙ ap (λ (cs : List Call). after_calls cs b) (sym calls_next);
          output_length = ap (λ (w : Scripted). length w.output) after_next
              ∙ put_length (step_at s k) (step_length s k) (after k).output made_then.output fits_output made_output
              ∙ g.written.output_length;
          answers_length = ap (λ (w : Scripted). length w.answers) after_next
              ∙ length-set (after k).answers k made_then.answer
              ∙ g.written.answers_length;
          done_length = ap (λ (w : Scripted). length w.done) after_next ∙ length-set (after k).done k made_then.done ∙ g.written.done_length;
          answers = ap (λ (w : Scripted). take (suc k) w.answers) after_next
              ∙ take-suc-set (after k).answers k made_then.answer in-answers
              ∙ ap (λ (ns : List ℕ). ns ++ (made_then.answer ∷ [])) g.written.answers
              ∙ ap (λ (ns : List ℕ). answers_in (course k) ++ ns) (sym (course_answers course_made))
              ∙ sym (answers_append (course k) course_then)
              ∙ ap answers_in (sym course_next);
          done = ap (λ (w : Scripted). take (suc k) w.done) after_next
              ∙ take-suc-set (after k).done k made_then.done in-done
              ∙ ap (λ (ns : List ℕ). ns ++ (made_then.done ∷ [])) g.written.done
              ∙ sym (course_done (course k) course_made)
              ∙ ap done_in (sym course_next);
          output = λ j u. ap (λ (w : Scripted). between (step_at s j) (step_length s j) w.output) after_next ∙ output_as j (leb (suc j) k) refl u;
          later_answers = ap (λ (w : Scripted). drop (suc k) w.answers) after_next
              ∙ drop-set-lt (suc k) (after k).answers k made_then.answer (omega arith)
              ∙ drop_next k (after k).answers n g.written.later_answers;
          later_done = ap (λ (w : Scripted). drop (suc k) w.done) after_next
              ∙ drop-set-lt (suc k) (after k).done k made_then.done (omega arith)
              ∙ drop_next k (after k).done d g.written.later_done;
          later_output = ap (λ (w : Scripted). drop (step_at s (suc k)) w.output) after_next
              ∙ put_after (step_at s k) (step_length s k) (after k).output made_then.output fits_output made_output
              ∙ drop_more (step_at s k) (step_length s k) (after k).output o g.written.later_output;
        }

    -- and the script goes on, or stops
    going_next : stop (suc k) ≡ 0 → Going (suc k)
    unfolding stepped
    going_next e =
        let m = sym stop_next ∙ e in
        record {
          unstopped = e;
          number = ap (λ (w : Scripted). w.number) after_next ∙ m;
          step = ap (λ (w : Scripted). w.step) after_next ∙ ap (λ (j : ℕ). when_zero j (k + 1) k) m ∙ add-one k;
          written = written_next;
          goes = ap (every goes_on) course_next ∙ every_both goes_on (course k) course_then g.goes (course_goes course_made m);
        }

    module _ (h : stop (suc k) ≡ 0 → ⊥) where
      made_stops : made_then.number ≡ 0 → ⊥
      made_stops e = h (stop_next ∙ e)

      pub number_then : (after (suc k)).number ≡ made_then.number
      unfolding stepped
      number_then = ap (λ (w : Scripted). w.number) after_next

      pub step_then : (after (suc k)).step ≡ k
      unfolding stepped
      step_then = ap (λ (w : Scripted). w.step) after_next ∙ ap (λ (t : Bool). cond t (k + 1) k) (ne_eqb _ _ made_stops)

      made_then_lem : steps_made (after (suc k)) ≡ suc k
      made_then_lem =
          ap (λ (t : Bool). cond t (after (suc k)).step ((after (suc k)).step + 1)) (ne_eqb _ _ (λ e. made_stops (sym number_then ∙ e)))
          ∙ ap (λ (j : ℕ). j + 1) step_then
          ∙ add-one k

      kept_then : made_then.number ≡ 3 → (after (suc k)).output ≡ (after k).output
      unfolding stepped
      kept_then e =
          ap (λ (w : Scripted). w.output) after_next
          ∙ rw (step_kept s.wp input_at ticks_at (after k).board output_at own.sound_is own.array own.rows same_length e) (put_same (step_at s k) (step_length s k) (after k).output)

      none_then : get_or (after (suc k)).done k 0 ≡ 0
      unfolding stepped
      none_then =
          ap (λ (w : Scripted). get_or w.done k 0) after_next
          ∙ get_or-set_same (after k).done k made_then.done 0 in-done
          ∙ step_none s.wp input_at ticks_at (after k).board output_at own.sound_is own.array own.rows same_length made_stops

      stopped_then : (j : ℕ) → k < j → Stopped s b o j (course (suc k)) (after (suc k))
      stopped_then j below =
          record {
            number = subst⁻¹ (λ (j : ℕ). (j ≡ 3) ⊎ (j ≡ 6)) (number_then ∙ made_number) (three_or_six (step_length s k) blocks ticks_at (λ e. made_stops (made_number ∙ e)));
            step = rw step_then below;
            before = ap stop step_then ∙ g.unstopped;
            here = ap stop (ap (λ (i : ℕ). i + 1) step_then ∙ add-one k) ∙ stop_next ∙ sym number_then;
            last = subst⁻¹ (λ (j : ℕ). LastStops j (course (suc k))) number_then (subst⁻¹ (LastStops made_then.number) course_next (last_after (course k) course_then g.goes (course_stops course_made)));
            none_done = rw (step_then, none_then) refl;
            unwritten = λ e.
                ap (λ (i : ℕ). drop (step_at s i) (after (suc k)).output) step_then
                ∙ ap (drop (step_at s k)) (kept_then (sym number_then ∙ e))
                ∙ g.written.later_output
                ∙ ap (λ (i : ℕ). drop (step_at s i) o) (sym step_then);
          }

  -- the start
  going_none : Going 0
  going_none =
      record { unstopped = refl; number = refl; step = refl; written = record { board = refl; output_length = refl; answers_length = refl; done_length = refl; answers = refl; done = refl; output = λ j u. absurd (omega arith); later_answers = refl; later_done = refl; later_output = refl }; goes = refl }

  -- as long as nothing stops it, it goes on
  pub going : (k : ℕ) → k ≤ steps → stop k ≡ 0 → Going k
  going zero l e = going_none
  going (suc k) l e = going_next k l (going k (omega arith) (or_else_zero _ _ e).0) e

  -- or it stopped at a step, after which nothing changed
  pub record Halt (k : ℕ) : Type 0 where
    pub at : ℕ
    pub below : at < k
    pub before : stop at ≡ 0
    pub stops : stop (suc at) ≡ 0 → ⊥
    pub same : after k ≡ after (suc at)
    pub same_calls : calls k ≡ calls (suc at)
    pub same_stop : stop k ≡ stop (suc at)

  -- told with what the first j steps wrote
  module _ (k j : ℕ) (w : Written j) (made-is : steps_made (after j) ≡ j) where
    told : (after j).number ≡ stop j → ((after j).number ≡ 0 → ((after j).step ≡ k) × (every goes_on (course j) ≡ true)) → (((after j).number ≡ 0 → ⊥) → Stopped s b o k (course j) (after j))
        → StepsTold s b o n d k (after j) (calls j) (stop j)
    told e f h =
        record {
          number_is = e;
          board = w.board;
          run = subst⁻¹ (λ (c : Board). Run b.state b.array b.rows (calls j) c.state c.array c.rows) w.board (run_exists (calls j) b);
          answers = ap (λ (i : ℕ). take i (after j).answers) made-is ∙ w.answers;
          done = ap (λ (i : ℕ). take i (after j).done) made-is ∙ w.done;
          output = λ i u. w.output i (rw (← made-is) u);
          later_answers = ap (λ (i : ℕ). drop i (after j).answers) made-is ∙ w.later_answers ∙ ap (λ (i : ℕ). drop i n) (sym made-is);
          later_done = ap (λ (i : ℕ). drop i (after j).done) made-is ∙ w.later_done ∙ ap (λ (i : ℕ). drop i d) (sym made-is);
          later_output = ap (λ (i : ℕ). drop (step_at s i) (after j).output) made-is ∙ w.later_output ∙ ap (λ (i : ℕ). drop (step_at s i) o) (sym made-is);
          output_length = w.output_length;
          whole = f;
          stopped = h;
        }

  going_told : (k : ℕ) → Going k → StepsTold s b o n d k (after k) (calls k) (stop k)
  going_told k g =
      told k k g.written (ap (λ (i : ℕ). when_zero i (after k).step ((after k).step + 1)) g.number ∙ g.step) (g.number ∙ sym g.unstopped) (λ e. (g.step, g.goes)) (λ h. absurd (h g.number))

  module _ (k : ℕ) (l : k ≤ steps) (h : Halt k) where
    abbrev goes_until : Going h.at
    goes_until = going h.at (omega (arith, h.below)) h.before

    until : h.at < steps
    until = omega (arith, h.below)

    halt_number : (after (suc h.at)).number ≡ stop (suc h.at)
    halt_number = number_then h.at until goes_until h.stops ∙ sym (stop_next h.at until goes_until)

    halted_number : (after k).number ≡ 0 → ⊥
    halted_number e = h.stops (sym halt_number ∙ ap (λ (w : Scripted). w.number) (sym h.same) ∙ e)

    halt_told : StepsTold s b o n d k (after (suc h.at)) (calls (suc h.at)) (stop (suc h.at))
    halt_told =
        told k (suc h.at) (written_next h.at until goes_until) (made_then_lem h.at until goes_until h.stops) halt_number (λ e. absurd (h.stops (sym halt_number ∙ e)))
        (λ u. stopped_then h.at until goes_until h.stops k h.below)

    halted_told : StepsTold s b o n d k (after k) (calls k) (stop k)
    halted_told =
        subst⁻¹ (λ (w : Scripted). StepsTold s b o n d k w (calls k) (stop k)) h.same (subst⁻¹ (λ (cs : List Call). StepsTold s b o n d k (after (suc h.at)) cs (stop k)) h.same_calls (subst⁻¹ (StepsTold s b o n d k (after (suc h.at)) (calls (suc h.at))) h.same_stop halt_told))

    -- nothing more is made
    halt_next : Halt (suc k)
    halt_next =
        let stopped-before : stop k ≡ 0 → ⊥ = λ e. h.stops (sym h.same_stop ∙ e) in
        record {
          at = h.at;
          below = omega (arith, h.below);
          before = h.before;
          stops = h.stops;
          same = ap (λ (t : Bool). cond t (stepped s k (after k) (made_at s k (after k))) (after k)) (ne_eqb _ _ halted_number) ∙ h.same;
          same_calls = ap (λ (t : Bool). calls k ++ cond t (own_calls s.wp (between (step_at s k) (step_length s k) s.input) (get_or s.ticks k 0) (step_length s k)) []) (ne_eqb _ _ stopped-before)
              ∙ append-nil (calls k)
              ∙ h.same_calls;
          same_stop = or_else_first _ _ stopped-before ∙ h.same_stop;
        }

  reached_as : (k : ℕ) (t : Bool) → eqb (stop (suc k)) 0 ≡ t → stop k ≡ 0 → (stop (suc k) ≡ 0) ⊎ Halt (suc k)
  reached_as k true e z = inl (eqb-true _ _ e)
  reached_as k false e z =
      inr (record { at = k; below = omega arith; before = z; stops = eqb-false _ _ e; same = refl; same_calls = refl; same_stop = refl })

  reached_next : (k : ℕ) → k ≤ steps → (stop k ≡ 0) ⊎ Halt k → (stop (suc k) ≡ 0) ⊎ Halt (suc k)
  reached_next k l (inl e) = reached_as k (eqb (stop (suc k)) 0) refl e
  reached_next k l (inr h) = inr (halt_next k l h)

  pub reached : (k : ℕ) → k ≤ steps → (stop k ≡ 0) ⊎ Halt k
  reached zero l = inl refl
  reached (suc k) l = reached_next k (omega arith) (reached k (omega arith))

  told_as_lem : (k : ℕ) → k ≤ steps → (stop k ≡ 0) ⊎ Halt k → StepsTold s b o n d k (after k) (calls k) (stop k)
  told_as_lem k l (inl e) = going_told k (going k l e)
  told_as_lem k l (inr h) = halted_told k l h

  pub steps_told : (k : ℕ) → k ≤ steps → StepsTold s b o n d k (after k) (calls k) (stop k)
  steps_told k l = told_as_lem k l (reached k l)

-- with its own memory, a script and its calls are refused alike
module _ (ok : Bool) (s : Script) (b : Board) (o n d : List ℕ) (ea : length b.array ≡ array_bytes b.state.part.blocks) (er : length b.rows ≡ rows_bytes) where
  abbrev own_refusal : ℕ
  own_refusal = script_refusal b.state.part.blocks ok (array_bytes b.state.part.blocks) rows_bytes s.lengths (length s.ticks) (length n) (length d) (length s.input) (length o)

  same_refusal : own_refusal ≡ refusal_of ok s b o n d
  same_refusal = rw (ea, er) refl

  pub refused_script : (refusal_of ok s b o n d ≡ 0 → ⊥)
      → (scripted ok s b o n d ≡ unstepped (refusal_of ok s b o n d) b o n d) × (script_calls ok s b.state (length o) (length n) (length d) ≡ [])
  unfolding scripted
  refused_script h = (
    ap (λ (t : Bool). cond t (after_steps s (length s.lengths) (unstepped 0 b o n d)) (unstepped (refusal_of ok s b o n d) b o n d)) (ne_eqb _ _ h),
    ap (λ (t : Bool). cond t (calls_before s b.state.part.blocks (length s.lengths)) []) (ne_eqb own_refusal 0 (λ e. h (sym same_refusal ∙ e))),
  )

  pub taken_script : refusal_of ok s b o n d ≡ 0
      → (scripted ok s b o n d ≡ after_steps s (length s.lengths) (unstepped 0 b o n d))
      × (script_calls ok s b.state (length o) (length n) (length d) ≡ calls_before s b.state.part.blocks (length s.lengths))
  unfolding scripted
  taken_script e = (
    ap (λ (x : ℕ). when_zero x (after_steps s (length s.lengths) (unstepped 0 b o n d)) (unstepped (refusal_of ok s b o n d) b o n d)) e,
    ap (λ (x : ℕ). when_zero x (calls_before s b.state.part.blocks (length s.lengths)) []) (same_refusal ∙ e),
  )

pub script_laws : ScriptLaws
script_laws =
    record { refused = refused_script; taken = taken_script; steps = λ ok s b o n d is_sound z k l. steps_told (record { ok = ok; script = s; board = b; output = o; answers = n; done = d; is_sound = is_sound; unrefused = z }) k l }
