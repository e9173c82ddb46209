-- A whole script in one call: the calls made one by one, up to and including the first that answers 1 to 6, where it stops. Steps are numbered from 0.
use Rattle.std.specs.Prelude.{ℕ, zero, suc, ◌+◌, List, [], ◌∷◌, ◌++◌, Bool, cond, length, get_or, set, leb}
use Rattle.types.specs.declared.Record.{Record}
use Rattle.words.specs.Logic.{◌or_else◌, when_zero}
use Rattle.words.specs.Lists.{sum_to, between, put_between}
use Rattle.paper.specs.Sizes.{array_bytes, rows_bytes}
use Rattle.paper.specs.Numbers.{length_number, ticks_number, script_refusal}
use Rattle.paper.specs.Calls.{transacted_output}
use Rattle.paper.specs.History.{Call, transaction, ticks}
use Rattle.paper.specs.Board.{Board, answer_to, waited, after_call, after_calls, over_calls}

-- one input buffer, one pin level, a list of transaction lengths and one of tick counts
pub record Script : Type 0 where
  pub wp : Bool
  pub input : List ℕ
  pub lengths : List ℕ
  pub ticks : List ℕ

-- what a script changes: the part with its memory, the output buffer, and the lists that take each step's transaction answer and ticks done; and what it answers: the number that stops it, 0 where none does, and the step
pub record Scripted : Type 0 where
  pub board : Board
  pub output : List ℕ
  pub answers : List ℕ
  pub done : List ℕ
  pub number : ℕ
  pub step : ℕ

-- the number of a call that stops a script, 1 to 6; 0 for any other
abbrev pub stopping : ℕ → ℕ
stopping number = cond (leb number 6) number 0

-- a step: a transaction of the input i with the level wp, whose output goes to o bytes, on a part with its memory
module _ (wp : Bool) (i : List ℕ) (b : Board) (o : ℕ) where
  abbrev pub step_answer : ℕ
  step_answer = (answer_to b wp i o).number

  abbrev pub step_sent : Board
  step_sent = after_call (transaction wp i o) b

  -- and t ticks, which run after a transaction that does not stop the script
  module _ (t : ℕ) where
    abbrev pub step_calls : List Call
    step_calls = transaction wp i o ∷ when_zero (stopping step_answer) (ticks t ∷ []) []

    abbrev pub step_done : ℕ
    step_done = when_zero (stopping step_answer) (waited step_sent t).done 0

    -- the number that stops the script: the transaction's, or the ticks'
    abbrev pub step_number : ℕ
    step_number = stopping step_answer or_else stopping (waited step_sent t).number

-- what a step gives: the part after its calls, its output, its transaction's answer, its ticks done, and the number that stops the script, or 0
pub record Made : Type 0 where
  pub board : Board
  pub output : List ℕ
  pub answer : ℕ
  pub done : ℕ
  pub number : ℕ

unfoldable pub made : Bool → List ℕ → ℕ → Board → List ℕ → Made
made wp i t b o =
    record { board = after_calls (step_calls wp i b (length o) t) b; output = transacted_output b.state b.array b.rows wp i o; answer = step_answer wp i b (length o); done = step_done wp i b (length o) t; number = step_number wp i b (length o) t }

-- where step k begins in input and output, and how many bytes it has
abbrev pub step_at : Script → ℕ → ℕ
step_at s k = sum_to s.lengths k

abbrev pub step_length : Script → ℕ → ℕ
step_length s k = get_or s.lengths k 0

-- step k of a script
abbrev pub made_at : Script → ℕ → Scripted → Made
made_at s k w =
    made s.wp (between (step_at s k) (step_length s k) s.input) (get_or s.ticks k 0) w.board (between (step_at s k) (step_length s k) w.output)

-- the calls that it makes
abbrev pub calls_at : Script → ℕ → Scripted → List Call
calls_at s k w =
    step_calls s.wp (between (step_at s k) (step_length s k) s.input) w.board (length (between (step_at s k) (step_length s k) w.output)) (get_or s.ticks k 0)

-- its output and its entries written
unfoldable pub stepped : Script → ℕ → Scripted → Made → Scripted
stepped s k w m =
    record { board = m.board; output = put_between (step_at s k) (step_length s k) w.output m.output; answers = set w.answers k m.answer; done = set w.done k m.done; number = m.number; step = when_zero m.number (k + 1) k }

-- the first k steps, up to and including the one that stops the script: nothing after the stop is written
abbrev pub after_steps : Script → ℕ → Scripted → Scripted
after_steps s zero w = w
after_steps s (suc k) w = when_zero (after_steps s k w).number (stepped s k (after_steps s k w) (made_at s k (after_steps s k w))) (after_steps s k w)

-- something that each call changes, as f says, after the first k steps, up to and including the one that stops the script
abbrev pub over_steps : {A : Type 0} → (Call → Board → A → A) → Script → ℕ → Scripted → A → A
over_steps f s zero w x = x
over_steps f s (suc k) w x =
    when_zero (after_steps s k w).number
    (over_calls f (calls_at s k (after_steps s k w)) (after_steps s k w).board (over_steps f s k w x))
    (over_steps f s k w x)

-- before the first step, with the number of a refusal or 0
abbrev pub unstepped : ℕ → Board → List ℕ → List ℕ → List ℕ → Scripted
unstepped number b o n d = record { board = b; output = o; answers = n; done = d; number = number; step = 0 }

-- 1, 2, 7, 4 or 5 of a script on a part with its memory, of a record that is sound or is not
abbrev pub refusal_of : Bool → Script → Board → List ℕ → List ℕ → List ℕ → ℕ
refusal_of sound s b o n d =
    script_refusal b.state.part.blocks sound (length b.array) (length b.rows) s.lengths (length s.ticks) (length n) (length d) (length s.input) (length o)

-- the whole: refused, it writes nothing and reports step 0; else all its steps
unfoldable pub scripted : Bool → Script → Board → List ℕ → List ℕ → List ℕ → Scripted
scripted sound s b o n d =
    when_zero (refusal_of sound s b o n d)
    (after_steps s (length s.lengths) (unstepped 0 b o n d))
    (unstepped (refusal_of sound s b o n d) b o n d)

-- The calls that it makes on a part of so many blocks, where it is not refused. Only 3 and 6 can stop it then, so which number of the first k steps does goes by lengths and tick counts alone
abbrev pub stop_before : Script → ℕ → ℕ → ℕ
stop_before s blocks zero = 0
stop_before s blocks (suc k) =
    stop_before s blocks k or_else length_number (step_length s k) or_else ticks_number blocks (get_or s.ticks k 0)

-- its transactions, each with its ticks after it, up to and including the one that stops it
abbrev pub calls_before : Script → ℕ → ℕ → List Call
calls_before s blocks zero = []
calls_before s blocks (suc k) =
    calls_before s blocks k
    ++ when_zero (stop_before s blocks k)
    (transaction s.wp (between (step_at s k) (step_length s k) s.input) (step_length s k)
    ∷ when_zero (length_number (step_length s k)) (ticks (get_or s.ticks k 0) ∷ []) [])
    []

-- all of them, of a record that is sound or is not, with the part's own memory lent, and an output and two lists of o, n and d bytes or entries; refused before its first step, it makes none
abbrev pub script_calls : Bool → Script → Record → ℕ → ℕ → ℕ → List Call
script_calls sound s p o n d =
    when_zero (script_refusal p.part.blocks sound (array_bytes p.part.blocks) rows_bytes s.lengths (length s.ticks) n d (length s.input) o)
    (calls_before s p.part.blocks (length s.lengths))
    []
