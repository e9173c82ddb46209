-- A check of the flasher's script: a script of request 2, run on a starting array, against a wanted image.
use Rattle.std.specs.Prelude.{ℕ, List, [], Bool, not, cond, length, get_or, eqb, ltb}
use Rattle.types.specs.declared.Record.{Record}
use Rattle.types.specs.declared.Verdict.{Verdict}
use Rattle.types.specs.declared.Verdict.TheVariants.{Yes, Step, Address, Refused}
use Rattle.words.specs.Logic.{◌and◌, ◌or◌, when_zero}
use Rattle.words.specs.Lists.{first_of, differ_at}
use Rattle.paper.specs.Sizes.{array_bytes}
use Rattle.paper.specs.Phases.{is_idle}
use Rattle.paper.specs.Numbers.{image_number, check_refusal}
use Rattle.paper.specs.History.{Call}
use Rattle.paper.specs.Board.{Board}
use Rattle.paper.specs.Script.{Script, Scripted, unstepped, scripted, script_calls}

-- the run stopped at step k
abbrev pub stops_at : Scripted → ℕ → Bool
stops_at w k = not (eqb w.number 0) and eqb k w.step

-- step k fails: its transaction's answer is not 0, or the run stops at it
abbrev pub step_fails : Scripted → ℕ → Bool
step_fails w k = not (eqb (get_or w.answers k 0) 0) or stops_at w k

-- the first failing step of n; n where none fails
abbrev pub failing_step : ℕ → Scripted → ℕ
failing_step n w = first_of n (step_fails w)

-- "ends idle": nothing runs and nothing is suspended
abbrev pub ends_idle : Scripted → Bool
ends_idle w = is_idle w.board.state.phase

-- the first differing address; the image's length where none differs
abbrev pub differing_address : List ℕ → List ℕ → ℕ
differing_address xs image = first_of (length image) (differ_at xs image)

-- what is said of a run of n steps that was not refused: "yes exactly when the run answers 0 at every step, ends idle and leaves the array equal to the image; otherwise the first failing step, or the number of steps if none failed but the part is not idle, or else the first differing address"
unfoldable pub verdict_on : ℕ → List ℕ → Scripted → Verdict
verdict_on n image w =
    cond (ltb (failing_step n w) n) (Step (failing_step n w))
    (cond (not (ends_idle w)) (Step n)
    (cond (ltb (differing_address w.board.array image) (length image)) (Address (differing_address w.board.array image)) Yes))

-- what a check changes, which is what the script's run changes; and what it says
pub record Checked : Type 0 where
  pub run : Scripted
  pub verdict : Verdict

-- 1, 38, 2, 7, 4 or 5 of a check, of a record that is sound or is not
abbrev pub check_refusal_of : Bool → Script → Board → List ℕ → List ℕ → List ℕ → List ℕ → ℕ
check_refusal_of sound s b o n d image =
    check_refusal b.state.part.blocks sound (length image) (length b.array) (length b.rows) s.lengths (length s.ticks) (length n) (length d) (length s.input) (length o)

-- it was refused with a number: nothing is written
abbrev pub unchecked_by : ℕ → Board → List ℕ → List ℕ → List ℕ → Checked
unchecked_by number b o n d = record { run = unstepped number b o n d; verdict = Refused number }

-- it ran
abbrev pub checked_run : ℕ → List ℕ → Scripted → Checked
checked_run n image w = record { run = w; verdict = verdict_on n image w }

-- the whole
unfoldable pub checked : Bool → Script → Board → List ℕ → List ℕ → List ℕ → List ℕ → Checked
checked sound s b o n d image =
    when_zero (check_refusal_of sound s b o n d image)
    (checked_run (length s.lengths) image (scripted sound s b o n d))
    (unchecked_by (check_refusal_of sound s b o n d image) b o n d)

-- the calls that it makes, of a record that is sound or is not, with the part's own memory lent, and an output, two lists and an image of o, n, d and m bytes or entries: its script's; refused by 38, it makes none
abbrev pub check_calls : Bool → Script → Record → ℕ → ℕ → ℕ → ℕ → List Call
check_calls sound s p o n d m =
    when_zero (image_number m (array_bytes p.part.blocks)) (script_calls sound s p o n d) []
