-- The steps of a script in code: the record stays in its bytes. What steps must find, and what they carry and are lent, as the script's own values.
use Rattle.std.specs.Prelude.{ℕ, ◌≡◌, true, List, eqb, length}
use Rattle.types.specs.declared.Change.{Change}
use Rattle.types.specs.declared.Change.TheVariants.{Same, Marked, Live, Anew, Runs, Halts, GoesOn, Clears}
use Rattle.types.specs.declared.Record.{Record}
use Rattle.types.specs.declared.Reached.{Reached}
use Rattle.types.specs.declared.Worked.{Worked}
use Rattle.types.specs.declared.Wear.{Wear}
use Rattle.words.specs.Lists.{sum_to}
use Rattle.paper.specs.Sizes.{array_bytes, rows_bytes}
use Rattle.paper.specs.Soundness.{sound}
use Rattle.paper.specs.Reached.{reached}
use Rattle.paper.specs.Calls.{ticked}
use Rattle.paper.specs.History.{Call}
use Rattle.paper.specs.Board.{Board, board_of}
use Rattle.paper.specs.Script.{Script, Scripted, Made, made_at, stepped}
use Rattle.paper.specs.Map.{map_after_calls}
use Rattle.paper.specs.Wear.{tally_of, worn, wear_after_calls}
use Rattle.blank_map.specs.Marked.{marked}
use Rattle.record_bytes.specs.Read.{record_in}
use Rattle.script.specs.declared.Stepped.{Stepped}
use Rattle.script.specs.declared.State.{State}
use Rattle.script.specs.declared.Script.{Script as Lent}

-- bytes that hold a sound record, with an array of a and rows of r bytes, which are its own
pub record Ready (bs : List ℕ) (a r : ℕ) : Type 0 where
  pub ok : (record_in bs).ok ≡ true
  pub is_sound : sound (record_in bs).state ≡ true
  pub array : a ≡ array_bytes (record_in bs).state.part.blocks
  pub rows : r ≡ rows_bytes

-- what ticks change: nothing, or what runs
abbrev pub OnlyRuns : Change → Type 0
OnlyRuns Same = Unit {0}
OnlyRuns (Marked armed) = ⊥
OnlyRuns (Live v) = ⊥
OnlyRuns (Anew q) = ⊥
OnlyRuns (Runs q d w) = Unit {0}
OnlyRuns (Halts q) = ⊥
OnlyRuns (GoesOn q) = ⊥
OnlyRuns (Clears q) = ⊥

-- what t ticks of a record answer and reach, for an array of a and rows of r bytes
abbrev pub worked_of : Record → ℕ → ℕ → ℕ → Worked
worked_of p a r t = record { number = (ticked p a r t).number; reached = reached p (ticked p a r t) }

-- what a step gives, with the record in its bytes, the memory and its output
abbrev pub made_of : Stepped → List ℕ → List ℕ → List ℕ → List ℕ → Made
made_of q bs xs rs o =
    record { board = board_of (record_in bs).state xs rs; output = o; answer = q.answer; done = q.reached.count; number = q.number }

-- what a step reached, which left the array xs: a map that is marked by it is as after the step's calls
abbrev pub Marks : Reached → List ℕ → List Call → Board → Type 0
Marks r xs cs b = (m : List ℕ) → marked r xs m ≡ map_after_calls cs b m

-- and wear records that are worn by it are as after them
abbrev pub Wears : Reached → List Call → Board → Type 0
Wears r cs b = (ws : List Wear) → worn (tally_of r) ws ≡ wear_after_calls cs b ws

-- a script as it is lent
abbrev pub script_in : Lent → Script
script_in s = record { wp = eqb s.wp 1; input = s.input.now; lengths = s.lengths.now; ticks = s.ticks.now }

-- where a script is, with these, the output and the two lists
abbrev pub world : State → List ℕ → List ℕ → List ℕ → List ℕ → List ℕ → List ℕ → Scripted
world q bs xs rs o n d =
    record { board = board_of (record_in bs).state xs rs; output = o; answers = n; done = d; number = q.number; step = q.step }

-- the same after step k
abbrev pub turned : Script → ℕ → Scripted → Scripted
turned s k w = stepped s k w (made_at s k w)

-- a script whose lists are as long as each other, and whose lengths add up to input and output: of o, n and d bytes or entries
pub record Fit (s : Script) (o n d : ℕ) : Type 0 where
  pub ticks : length s.ticks ≡ length s.lengths
  pub answers : n ≡ length s.lengths
  pub done : d ≡ length s.lengths
  pub output : o ≡ length s.input
  pub sum : sum_to s.lengths (length s.lengths) ≡ length s.input
