-- Demand 3's history, worked out from the power-up values, the inputs and the pin levels alone: no definition here takes the array or the rows.
use Rattle.std.specs.Prelude.{ℕ, zero, suc, List, [], ◌∷◌, ◌++◌, Bool, true, not, cond, length, eqb, leb}
use Rattle.types.specs.declared.Memory.{Memory}
use Rattle.types.specs.declared.Identity.{Identity}
use Rattle.types.specs.declared.Stored.{Stored}
use Rattle.types.specs.declared.Answer.{Answer}
use Rattle.types.specs.declared.Record.{Record}
use Rattle.words.specs.Logic.{◌and◌, when_zero}
use Rattle.paper.specs.Sizes.{array_bytes, rows_bytes, page_bytes, same_memory, from_on, tick_limit}
use Rattle.paper.specs.Program.{narrowed_byte}
use Rattle.paper.specs.Erase.{erased_byte}
use Rattle.paper.specs.Operations.{free, Touch, none, blank, narrow}
use Rattle.paper.specs.Ticks.{record_after, touch_of}
use Rattle.paper.specs.Soundness.{sound}
use Rattle.paper.specs.Numbers.{transaction_refusal}
use Rattle.paper.specs.Calls.{powered_up, transacted, ticked}

-- a call: a transaction with the pin's level (true where WP# is high), its input and the length of its output buffer; or so many ticks
pub data Call : Type 0 where
  transaction : Bool → List ℕ → ℕ → Call
  ticks : ℕ → Call

-- a transaction of one byte
abbrev pub one_byte : Bool → ℕ → Call
one_byte wp c = transaction wp (c ∷ []) 1

-- the record after a call, with the part's own memory lent
abbrev pub record_after_call : Call → Record → Record
record_after_call (transaction wp i o) p = (transacted p (array_bytes p.part.blocks) rows_bytes wp i o).next
record_after_call (ticks n) p = (ticked p (array_bytes p.part.blocks) rows_bytes n).next

-- what a record answers to a transaction of one byte
abbrev pub answer_to_byte : Bool → ℕ → Record → Answer
answer_to_byte wp c p = transacted p (array_bytes p.part.blocks) rows_bytes wp (c ∷ []) 1

-- the record after a list of calls
abbrev pub record_after_calls : List Call → Record → Record
record_after_calls [] p = p
record_after_calls (c ∷ cs) p = record_after_calls cs (record_after_call c p)

-- the ticks that a call gives to a part of n blocks: as many as it asks, if a call may ask so many
abbrev pub ticks_by : ℕ → Call → ℕ
ticks_by n (transaction wp i o) = 0
ticks_by n (ticks k) = cond (leb k (tick_limit n)) k 0

-- what n ticks reach, in order
abbrev pub tick_touches : ℕ → Record → List Touch
tick_touches zero p = []
tick_touches (suc n) p = tick_touches n p ++ (touch_of (record_after n p) ∷ [])

-- what a tick call of n ticks that answered a number reaches: refused, nothing
abbrev pub reached_by : ℕ → ℕ → Record → List Touch
reached_by number n p = when_zero number (tick_touches n p) []

-- what a call reaches: a transaction nothing
abbrev pub call_touches : Call → Record → List Touch
call_touches (transaction wp i o) p = []
call_touches (ticks n) p = reached_by (ticked p (array_bytes p.part.blocks) rows_bytes n).number n p

-- the history: what a list of calls reaches, in order
abbrev pub history : List Call → Record → List Touch
history [] p = []
history (c ∷ cs) p = call_touches c p ++ history cs (record_after_call c p)

-- the history of a part from its power-up on
abbrev pub history_of : ℕ → Identity → Stored → List Call → List Touch
history_of n id s cs = history cs (powered_up n id s).next

-- the byte x at a place of a memory after a touch: set to FFh by an erase tick that reached it, narrowed by a program tick that did
abbrev pub byte_after : Memory → ℕ → Touch → ℕ → ℕ
byte_after m at none x = x
byte_after m at (blank w b) x = cond (same_memory m w and from_on b page_bytes at) erased_byte x
byte_after m at (narrow w a d) x = cond (same_memory m w and eqb at a) (narrowed_byte x d) x

-- the byte after a history, from its starting value
abbrev pub byte_after_all : Memory → ℕ → List Touch → ℕ → ℕ
byte_after_all m at [] x = x
byte_after_all m at (t ∷ ts) x = byte_after_all m at ts (byte_after m at t x)

-- a byte whose block is protected, or whose row is locked, under the record's registers
abbrev pub shielded : Memory → ℕ → Record → Bool
shielded m at p = not (free m at p.part.blocks p.part.stored)

-- and was so throughout: at first, and after every call
abbrev pub shielded_throughout : Memory → ℕ → List Call → Record → Bool
shielded_throughout m at [] p = shielded m at p
shielded_throughout m at (c ∷ cs) p = shielded m at p and shielded_throughout m at cs (record_after_call c p)

-- a call that is no executed or ignored transaction: ticks, or a transaction that is refused
abbrev pub stands_aside : Call → Record → Bool
stands_aside (transaction wp i o) p =
    not (eqb (transaction_refusal p.part.blocks (sound p) (array_bytes p.part.blocks) rows_bytes (length i) o) 0)
stands_aside (ticks n) p = true
