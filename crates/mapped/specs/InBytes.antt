-- Ticks and a script that are lent a map of blank pages, on the record that bytes hold.
use Rattle.std.specs.Prelude.{ℕ, ◌/◌, false, List, eqb, leb, length}
use Rattle.words.specs.Logic.{◌and◌, ◌or_else◌}
use Rattle.paper.specs.Soundness.{sound}
use Rattle.paper.specs.Numbers.{rows_number, sound_number, later_script_refusal}
use Rattle.paper.specs.Board.{board_of}
use Rattle.paper.specs.Script.{Script, unstepped}
use Rattle.paper.specs.Map.{MapTicked, map_ticked, MapScripted, map_scripted}
use Rattle.record_bytes.specs.Read.{Held, on_held}
use Rattle.beside.specs.Beside.{beside_refusal}
use Rattle.mapped.specs.declared.Kept.{Kept}

-- ticks: where the bytes hold no record there is no size for 1 and 36 to judge by, and it is 2 or 5
unfoldable pub held_map_ticked : Held → List ℕ → List ℕ → ℕ → List ℕ → MapTicked
held_map_ticked h xs rs n m =
    on_held h (λ p. map_ticked (board_of p xs rs) n m)
    (record { board = board_of h.state xs rs; map = m; number = rows_number (length rs) or_else sound_number false; done = 0 })

-- their number, and how many did work
abbrev pub kept_of : MapTicked → Kept
kept_of w = record { number = w.number; done = w.done }

-- a script: another level of WP# than 0 and 1 counts as an unsound record does; where the bytes hold no record it is 2, 7, 4 or 5
unfoldable pub held_map_scripted : Held → ℕ → Script → List ℕ → List ℕ → List ℕ → List ℕ → List ℕ → List ℕ → MapScripted
held_map_scripted h wp s xs rs o n d m =
    on_held h (λ p. map_scripted (sound p and leb wp 1) s (board_of p xs rs) o n d m)
    (record { run = unstepped (later_script_refusal false (length rs) s.lengths (length s.ticks) (length n) (length d) (length s.input) (length o)) (board_of h.state xs rs) o n d; map = m })

-- 1 or 36, where a map of m bytes hasn't one bit for each page of an array of a bytes; else 0, and the plain call judges what is left. A byte of the map has 8 pages of 256 bytes
unfoldable pub map_refusal : Held → ℕ → ℕ → ℕ
map_refusal h a m = beside_refusal h (eqb m (a / 2048)) a 36
