-- A check of the flasher's script on the record that bytes hold.
use Rattle.std.specs.Prelude.{ℕ, ◌<◌, ◌≡◌, Bool, true, false, not, List, [], eqb, leb, length, get_or}
use Rattle.words.specs.Logic.{◌and◌, ◌or◌, ◌or_else◌}
use Rattle.words.specs.Lists.{first_of}
use Rattle.paper.specs.Soundness.{sound}
use Rattle.paper.specs.Numbers.{size_number, later_check_refusal}
use Rattle.paper.specs.Board.{board_of}
use Rattle.paper.specs.Script.{Script, Scripted}
use Rattle.paper.specs.Check.{Checked, unchecked_by, checked}
use Rattle.record_bytes.specs.Read.{Held, record_in, on_held}
use Rattle.script.specs.declared.Ran.{Ran}

-- what it gives: where the bytes hold no record there is no size for 1 to judge, and it is 38, 2, 7, 4 or 5
unfoldable pub held_check : Held → ℕ → Script → List ℕ → List ℕ → List ℕ → List ℕ → List ℕ → List ℕ → Checked
held_check h wp s xs rs o n d image =
    on_held h (λ p. checked (sound p and leb wp 1) s (board_of p xs rs) o n d image)
    (unchecked_by (later_check_refusal false (length image) (length xs) (length rs) s.lengths (length s.ticks) (length n) (length d) (length s.input) (length o)) (board_of h.state xs rs) o n d)

-- 1 or 38 of a check whose image is not as long as the array, of a bytes: without a record 38
unfoldable pub image_refusal : Held → ℕ → ℕ
image_refusal h a = on_held h (λ p. size_number p.part.blocks a or_else 38) 38

-- a script with this number ran: 3 and 6 stop it at a step, and any other number refuses it
unfoldable pub has_run : ℕ → Bool
has_run number = eqb number 0 or eqb number 3 or eqb number 6

-- answer k of a list is not 0; the first that is not, or the list's length where all are
abbrev pub non_zero : List ℕ → ℕ → Bool
non_zero n k = not (eqb (get_or n k 0) 0)

abbrev pub first_failing : List ℕ → ℕ
first_failing n = first_of (length n) (non_zero n)

-- what a run left, as far as a verdict goes by it: number and step, the record in its bytes, the array and the answers
abbrev pub left_of : Ran → List ℕ → List ℕ → List ℕ → Scripted
left_of r bs xs n =
    record { board = board_of (record_in bs).state xs []; output = []; answers = n; done = []; number = r.number; step = r.step }

-- a run of n steps has ended: all of them were made, or one of them stopped it; its bytes hold a record
pub record Ended (r : Ran) (bs : List ℕ) (n : ℕ) : Type 0 where
  pub ok : (record_in bs).ok ≡ true
  pub whole : r.number ≡ 0 → r.step ≡ n
  pub stopped : (r.number ≡ 0 → ⊥) → r.step < n
