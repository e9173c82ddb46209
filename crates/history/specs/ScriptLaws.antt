-- Request 2: what a script does, told by the calls that it stands for, on a sound part with its own memory.
use Rattle.std.specs.Prelude.{ℕ, ◌+◌, ◌<◌, ◌≤◌, ◌≡◌, Bool, true, List, [], ◌∷◌, ◌++◌, ◌⊎◌, eqb, length, take, drop, get_or}
use Rattle.words.specs.Logic.{when_zero}
use Rattle.words.specs.Lists.{every, between}
use Rattle.paper.specs.Sizes.{array_bytes, rows_bytes}
use Rattle.paper.specs.Soundness.{sound}
use Rattle.paper.specs.Calls.{transacted_output}
use Rattle.paper.specs.History.{Call}
use Rattle.paper.specs.Board.{Board, after_calls}
use Rattle.paper.specs.Script.{Script, Scripted, stopping, step_at, step_length, after_steps, unstepped, refusal_of, scripted, stop_before, calls_before, script_calls}
use Rattle.history.specs.Run.{Run}
use Rattle.history.specs.Course.{Step, sent, waited, course_of}

-- the number that a call of a course answered
abbrev pub number_of : Step → ℕ
number_of (sent a) = a.number
number_of (waited t us) = t.number

-- it is none of 1 to 6
abbrev pub goes_on : Step → Bool
goes_on u = eqb (stopping (number_of u)) 0

-- the numbers of a course's transactions, in order
abbrev pub answers_in : List Step → List ℕ
answers_in [] = []
answers_in (sent a ∷ ss) = a.number ∷ answers_in ss
answers_in (waited t us ∷ ss) = answers_in ss

-- the ticks that its first call did, 0 where that is no tick call
abbrev pub done_first : List Step → ℕ
done_first [] = 0
done_first (sent a ∷ ss) = 0
done_first (waited t us ∷ ss) = t.done

-- for each transaction, the ticks that the call after it did
abbrev pub done_in : List Step → List ℕ
done_in [] = []
done_in (sent a ∷ ss) = done_first ss ∷ done_in ss
done_in (waited t us ∷ ss) = done_in ss

-- a course whose last call answered the number, and of whose others none answered 1 to 6
pub record LastStops (number : ℕ) (ss : List Step) : Type 0 where
  pub earlier : List Step
  pub last : Step
  pub is : ss ≡ earlier ++ (last ∷ [])
  pub others : every goes_on earlier ≡ true
  pub answered : number_of last ≡ number

-- how many steps of a script were made, the one that stopped it among them
abbrev pub steps_made : Scripted → ℕ
steps_made w = when_zero w.number w.step (w.step + 1)

-- the course of calls on a board
abbrev pub course_from : Board → List Call → List Step
course_from b cs = course_of cs b.state (length b.array) (length b.rows)

-- the board that the steps before step j lead to, and what the transaction of step j makes there of its bytes of the output o
abbrev pub board_before : Script → Board → ℕ → Board
board_before s b j = after_calls (calls_before s b.state.part.blocks j) b

abbrev pub step_output : Script → Board → List ℕ → ℕ → List ℕ
step_output s b o j =
    transacted_output (board_before s b j).state (board_before s b j).array (board_before s b j).rows s.wp (between (step_at s j) (step_length s j) s.input) (between (step_at s j) (step_length s j) o)

-- a script on the board b, with an output o, that left w when it stopped within its first k steps; ss is the course of its calls
pub record Stopped (s : Script) (b : Board) (o : List ℕ) (k : ℕ) (ss : List Step) (w : Scripted) : Type 0 where
  -- only 3 and 6 stop it
  pub number : (w.number ≡ 3) ⊎ (w.number ≡ 6)
  -- at the first step that it can stop
  pub step : w.step < k
  pub before : stop_before s b.state.part.blocks w.step ≡ 0
  pub here : stop_before s b.state.part.blocks (w.step + 1) ≡ w.number
  -- by its last call, which alone answers 1 to 6
  pub last : LastStops w.number ss
  -- with 0 ticks done; and a transaction that stops it writes no output
  pub none_done : get_or w.done w.step 0 ≡ 0
  pub unwritten : w.number ≡ 3 → drop (step_at s w.step) w.output ≡ drop (step_at s w.step) o

-- the first k steps of a script on the board b, with an output and two lists o, n and d, left w; cs are the calls that they made, and number is the one that stopped it, or 0
pub record StepsTold (s : Script) (b : Board) (o n d : List ℕ) (k : ℕ) (w : Scripted) (cs : List Call) (number : ℕ) : Type 0 where
  -- what stopped it goes by lengths and tick counts alone
  pub number_is : w.number ≡ number
  -- the board is the one that the calls lead to
  pub board : w.board ≡ after_calls cs b
  pub run : Run b.state b.array b.rows cs w.board.state w.board.array w.board.rows
  -- each step that was made has its transaction's answer, and the ticks done of its tick call, 0 where it had none
  pub answers : take (steps_made w) w.answers ≡ answers_in (course_from b cs)
  pub done : take (steps_made w) w.done ≡ done_in (course_from b cs)
  -- and its transaction's output
  pub output : (j : ℕ) → j < steps_made w → between (step_at s j) (step_length s j) w.output ≡ step_output s b o j
  -- entries and output of all other steps are as they were
  pub later_answers : drop (steps_made w) w.answers ≡ drop (steps_made w) n
  pub later_done : drop (steps_made w) w.done ≡ drop (steps_made w) d
  pub later_output : drop (step_at s (steps_made w)) w.output ≡ drop (step_at s (steps_made w)) o
  pub output_length : length w.output ≡ length o
  -- where nothing stopped it, all k steps were made, and no call answered 1 to 6
  pub whole : w.number ≡ 0 → (w.step ≡ k) × (every goes_on (course_from b cs) ≡ true)
  pub stopped : (w.number ≡ 0 → ⊥) → Stopped s b o k (course_from b cs) w

-- every script on a sound part with its own memory; ok is false where its level of WP# is none
pub record ScriptLaws : Type 0 where
  -- refused before its first step, it leaves all as it was, reports step 0, and makes no call
  pub refused : (ok : Bool) (s : Script) (b : Board) (o n d : List ℕ) → length b.array ≡ array_bytes b.state.part.blocks → length b.rows ≡ rows_bytes
      → (refusal_of ok s b o n d ≡ 0 → ⊥)
      → (scripted ok s b o n d ≡ unstepped (refusal_of ok s b o n d) b o n d) × (script_calls ok s b.state (length o) (length n) (length d) ≡ [])
  -- else it is all its steps, and makes their calls
  pub taken : (ok : Bool) (s : Script) (b : Board) (o n d : List ℕ) → length b.array ≡ array_bytes b.state.part.blocks → length b.rows ≡ rows_bytes
      → refusal_of ok s b o n d ≡ 0
      → (scripted ok s b o n d ≡ after_steps s (length s.lengths) (unstepped 0 b o n d))
      × (script_calls ok s b.state (length o) (length n) (length d) ≡ calls_before s b.state.part.blocks (length s.lengths))
  -- and its first steps are told by their calls
  pub steps : (ok : Bool) (s : Script) (b : Board) (o n d : List ℕ) → sound b.state ≡ true → refusal_of ok s b o n d ≡ 0 → (k : ℕ) → k ≤ length s.lengths
      → StepsTold s b o n d k (after_steps s k (unstepped 0 b o n d)) (calls_before s b.state.part.blocks k) (stop_before s b.state.part.blocks k)
