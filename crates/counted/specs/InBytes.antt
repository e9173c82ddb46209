-- Ticks that are lent wear records, on the record that bytes hold.
use Rattle.std.specs.Prelude.{ℕ, ◌/◌, false, List, eqb, length}
use Rattle.words.specs.Logic.{◌or_else◌}
use Rattle.paper.specs.Numbers.{rows_number, sound_number}
use Rattle.paper.specs.Board.{board_of}
use Rattle.paper.specs.Wear.{no_tally, WearTicked, wear_ticked}
use Rattle.record_bytes.specs.Read.{Held, on_held}
use Rattle.beside.specs.Beside.{beside_refusal}
use Rattle.counted.specs.declared.Counted.{Counted}

-- where the bytes hold no record there is no size for 1 and 35 to judge by, and it is 2 or 5
unfoldable pub held_wear_ticked : Held → List ℕ → List ℕ → ℕ → ℕ → WearTicked
held_wear_ticked h xs rs n w =
    on_held h (λ p. wear_ticked (board_of p xs rs) n w)
    (record { board = board_of h.state xs rs; tally = no_tally; number = rows_number (length rs) or_else sound_number false; done = 0 })

-- the number, how many did work, and what they count
abbrev pub counted_of : WearTicked → Counted
counted_of w = record { number = w.number; done = w.done; tally = w.tally }

-- 1 or 35, where w records aren't one for each sector of an array of a bytes; else 0, and the plain call judges what is left. A sector has 4,096 bytes
unfoldable pub wear_refusal : Held → ℕ → ℕ → ℕ
wear_refusal h a w = beside_refusal h (eqb w (a / 4096)) a 35
