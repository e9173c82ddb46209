-- A script on the record that bytes hold.
use Rattle.std.specs.Prelude.{ℕ, Bool, false, List, eqb, leb, length}
use Rattle.types.specs.declared.Wear.{Wear}
use Rattle.words.specs.Logic.{◌and◌, when_zero}
use Rattle.paper.specs.Soundness.{sound}
use Rattle.paper.specs.Numbers.{later_script_refusal, script_refusal}
use Rattle.paper.specs.Board.{Board, board_of}
use Rattle.paper.specs.Script.{Script, Scripted, unstepped, refusal_of, scripted}
use Rattle.paper.specs.Map.{script_map}
use Rattle.paper.specs.Wear.{wear_steps, WearScripted, wear_scripted}
use Rattle.record_bytes.specs.Layout.{record_bytes}
use Rattle.record_bytes.specs.Read.{Held, record_in, on_held}
use Rattle.script.specs.declared.Ran.{Ran}

-- a script with the number that stands for the level of WP#: low for 0, high for 1
abbrev pub script_of : ℕ → List ℕ → List ℕ → List ℕ → Script
script_of wp i ls ts = record { wp = eqb wp 1; input = i; lengths = ls; ticks = ts }

-- its 1, 2, 7, 4 or 5, by the lengths of array, rows, output and the two lists: another level counts as an unsound record does; where the bytes hold no record there is no size for 1 to judge
unfoldable pub held_refusal : Held → ℕ → Script → ℕ → ℕ → ℕ → ℕ → ℕ → ℕ
held_refusal h wp s a r o n d =
    on_held h (λ p. script_refusal p.part.blocks (sound p and leb wp 1) a r s.lengths (length s.ticks) n d (length s.input) o)
    (later_script_refusal false r s.lengths (length s.ticks) n d (length s.input) o)

-- what it gives: another level counts as an unsound record does; where the bytes hold no record there is no size for 1 to judge, and it is 2, 7, 4 or 5
unfoldable pub held_script : Held → ℕ → Script → List ℕ → List ℕ → List ℕ → List ℕ → List ℕ → Scripted
held_script h wp s xs rs o n d =
    on_held h (λ p. scripted (sound p and leb wp 1) s (board_of p xs rs) o n d)
    (unstepped (later_script_refusal false (length rs) s.lengths (length s.ticks) (length n) (length d) (length s.input) (length o)) (board_of h.state xs rs) o n d)

-- its number and its step
abbrev pub ran_of : Scripted → Ran
ran_of w = record { number = w.number; step = w.step }

-- refused with a number: no step was made
abbrev pub refused_by : ℕ → Ran
refused_by number = record { number = number; step = 0 }

-- its number and its step with the record in its bytes, the memory, the output and the two lists
abbrev pub left_as : Ran → List ℕ → List ℕ → List ℕ → List ℕ → List ℕ → List ℕ → Scripted
left_as r bs xs rs o n d =
    record { board = board_of (record_in bs).state xs rs; output = o; answers = n; done = d; number = r.number; step = r.step }

-- the record's bytes after it: the last record's; where none was held, as they were
abbrev pub script_bytes : Held → Scripted → List ℕ → List ℕ
script_bytes h w bs = on_held h (λ p. record_bytes w.board.state) bs

-- and a map after it: where none was held, as it was
unfoldable pub held_map : Held → ℕ → Script → List ℕ → List ℕ → List ℕ → List ℕ → List ℕ → List ℕ → List ℕ
held_map h wp s xs rs o n d m = on_held h (λ p. script_map (sound p and leb wp 1) s (board_of p xs rs) o n d m) m

-- and wear records after it, however many: refused, or where none was held, as they were
abbrev pub script_wear : Bool → Script → Board → List ℕ → List ℕ → List ℕ → List Wear → List Wear
script_wear fit s b o n d ws =
    when_zero (refusal_of fit s b o n d) (wear_steps s (length s.lengths) (unstepped 0 b o n d) ws) ws

unfoldable pub held_wear : Held → ℕ → Script → List ℕ → List ℕ → List ℕ → List ℕ → List ℕ → List Wear → List Wear
held_wear h wp s xs rs o n d ws = on_held h (λ p. script_wear (sound p and leb wp 1) s (board_of p xs rs) o n d ws) ws

-- a script that is lent wear records: what it gives, and its records; where the bytes hold no record there is no size for 1 and 35 to judge
unfoldable pub held_wear_scripted : Held → ℕ → Script → List ℕ → List ℕ → List ℕ → List ℕ → List ℕ → List Wear → WearScripted
held_wear_scripted h wp s xs rs o n d ws =
    on_held h (λ p. wear_scripted (sound p and leb wp 1) s (board_of p xs rs) o n d ws)
    (record { run = unstepped (later_script_refusal false (length rs) s.lengths (length s.ticks) (length n) (length d) (length s.input) (length o)) (board_of h.state xs rs) o n d; wear = ws })
