-- A part with its memory, and what calls make of it.
use Rattle.std.specs.Prelude.{ℕ, ◌≡◌, List, [], ◌∷◌, Bool, true, length}
use Rattle.types.specs.declared.Memory.TheVariants.{Array, Rows}
use Rattle.types.specs.declared.Record.{Record}
use Rattle.types.specs.declared.Answer.{Answer}
use Rattle.types.specs.declared.Ticked.{Ticked}
use Rattle.paper.specs.Sizes.{array_bytes, rows_bytes}
use Rattle.paper.specs.Soundness.{sound}
use Rattle.paper.specs.Reads.{undriven}
use Rattle.paper.specs.Calls.{transacted, transacted_output, ticked, ticked_memory}
use Rattle.paper.specs.History.{Call, transaction, ticks}

-- its record, its array and its rows
pub record Board : Type 0 where
  pub state : Record
  pub array : List ℕ
  pub rows : List ℕ

abbrev pub board_of : Record → List ℕ → List ℕ → Board
board_of p xs rs = record { state = p; array = xs; rows = rs }

-- a sound part with its own memory
pub record Own (b : Board) : Type 0 where
  pub is_sound : sound b.state ≡ true
  pub own_array : length b.array ≡ array_bytes b.state.part.blocks
  pub own_rows : length b.rows ≡ rows_bytes

-- the answer to a transaction with an output buffer of o bytes, and to a tick call
abbrev pub answer_to : Board → Bool → List ℕ → ℕ → Answer
answer_to b wp i o = transacted b.state (length b.array) (length b.rows) wp i o

abbrev pub waited : Board → ℕ → Ticked
waited b n = ticked b.state (length b.array) (length b.rows) n

-- the part after a call: a transaction leaves its memory
abbrev pub after_call : Call → Board → Board
after_call (transaction wp i o) b = record { state = (answer_to b wp i o).next; array = b.array; rows = b.rows }
after_call (ticks n) b =
    record { state = (waited b n).next; array = ticked_memory Array b.state (length b.array) (length b.rows) n b.array; rows = ticked_memory Rows b.state (length b.array) (length b.rows) n b.rows }

-- and after a list of calls
abbrev pub after_calls : List Call → Board → Board
after_calls [] b = b
after_calls (c ∷ cs) b = after_calls cs (after_call c b)

-- something that each call changes, as f says by the call and the part before it, after a list of calls
abbrev pub over_calls : {A : Type 0} → (Call → Board → A → A) → List Call → Board → A → A
over_calls f [] b x = x
over_calls f (c ∷ cs) b x = over_calls f cs (after_call c b) (f c b x)

-- on the bench a transaction's output goes into a buffer of FFh, as long as its input: its answer, its output, and the part after it
abbrev pub sent_to : Board → Bool → List ℕ → Answer
sent_to b wp i = answer_to b wp i (length i)

abbrev pub driven_by : Board → Bool → List ℕ → List ℕ
driven_by b wp i = transacted_output b.state b.array b.rows wp i (undriven (length i))

abbrev pub after_sent : Board → Bool → List ℕ → Board
after_sent b wp i = after_call (transaction wp i (length i)) b

-- and after ticks
abbrev pub after_ticks : Board → ℕ → Board
after_ticks b n = after_call (ticks n) b
