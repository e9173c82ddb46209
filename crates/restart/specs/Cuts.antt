-- An erase that is cut and begun again, request 14: what happens to a part over several power-ups, what a cut is, and that nothing else is written.
use Rattle.types.specs.declared.Operation.{Operation}
use Rattle.std.specs.Prelude.{ℕ, ◌+◌, ◌-◌, ◌≡◌, Bool, true, false, List, [], ◌∷◌, ◌++◌, None, Option, Some}
use Rattle.types.specs.declared.Memory.{Memory}
use Rattle.types.specs.declared.EraseUnit.{EraseUnit}
use Rattle.types.specs.declared.Operation.TheVariants as o
use Rattle.types.specs.declared.Operation.TheVariants.{Program, Erase}
use Rattle.types.specs.declared.Stored.{Stored}
use Rattle.types.specs.declared.PoweredUp.{PoweredUp}
use Rattle.types.specs.declared.Record.{Record}
use Rattle.words.specs.Logic.{◌and◌}
use Rattle.words.specs.Lists.{every}
use Rattle.paper.specs.Sizes.{page_bytes}
use Rattle.paper.specs.Erase.{memory_of, unit_base}
use Rattle.paper.specs.Registers.{stored_bits}
use Rattle.paper.specs.Phases.{running}
use Rattle.paper.specs.Operations.{Touch, none, blank, narrow}
use Rattle.paper.specs.Calls.{powered_up}
use Rattle.paper.specs.History.{Call, record_after_call, record_after_calls, history}
use Rattle.paper.specs.Halted.{in_done}
use Rattle.paper.specs.Board.{Board, board_of, answer_to, after_call}
use Rattle.reset.specs.Closing.{reset}
use Rattle.laws.specs.Writes.{Write, Makes, place_of, in_unit_of}

-- the same part, powered up again with registers; with those that it had it is `powered_as`. Power-up looks at no stored byte, and changes none
abbrev pub up_again : Stored → Record → PoweredUp
up_again g p = powered_up p.part.blocks p.identity g

abbrev pub powered_again : Stored → Board → Board
powered_again g b = board_of (up_again g b.state).next b.array b.rows

-- a cut: a reset by 99h that is executed; or a loss of power, and a power-up that is not refused, with the registers as they were or with others
pub data Cut (b : Board) : Board → Type 0 where
  by_reset : (wp : Bool) → (answer_to b wp (0x99 ∷ []) 1).number ≡ 0 → Cut b (after_call (reset wp) b)
  by_power : (g : Stored) → (up_again g b.state).number ≡ 0 → Cut b (powered_again g b)

-- the registers that the part has after it: the stored bits of those that it had, or those that power-up got
abbrev pub registers_after : {b c : Board} → Cut b c → Stored
registers_after {b} (by_reset wp z) = stored_bits b.state.part.stored
registers_after (by_power g z) = g

-- what happens to a part: calls, or a loss of power and a power-up with registers
pub data Event : Type 0 where
  calls : List Call → Event
  power : Stored → Event

-- the events of a list, on one board, lead to another; no power-up is refused
pub data Lives : Board → List Event → Board → Type 0 where
  over : {b : Board} → Lives b [] b
  sent : {b c e : Board} {cs : List Call} {es : List Event} → Makes b cs c → Lives c es e → Lives b (calls cs ∷ es) e
  up : {b e : Board} {g : Stored} {es : List Event} → (up_again g b.state).number ≡ 0 → Lives (powered_again g b) es e → Lives b (power g ∷ es) e

-- the record after an event, and what it reaches; and so of a list of events, in order
abbrev pub record_after_event : Event → Record → Record
record_after_event (calls cs) p = record_after_calls cs p
record_after_event (power g) p = (up_again g p).next

abbrev pub event_touches : Event → Record → List Touch
event_touches (calls cs) p = history cs p
event_touches (power g) p = []

abbrev pub record_after_events : List Event → Record → Record
record_after_events [] p = p
record_after_events (e ∷ es) p = record_after_events es (record_after_event e p)

abbrev pub history_through : List Event → Record → List Touch
history_through [] p = []
history_through (e ∷ es) p = event_touches e p ++ history_through es (record_after_event e p)

-- what is reached lies in the unit that holds the place a, on a part of n blocks: a page does if its first and its last byte do
abbrev pub within : EraseUnit → ℕ → ℕ → Touch → Bool
within u n a none = true
within u n a (blank m b) = in_unit_of u n a m b and in_unit_of u n a m (b + (page_bytes - 1))
within u n a (narrow m b d) = in_unit_of u n a m b

-- and is set to FFh
abbrev pub blanks : Touch → Bool
blanks none = true
blanks (blank m b) = true
blanks (narrow m b d) = false

-- no touch outside of the unit; programs of its pages may come
abbrev pub nothing_outside : EraseUnit → ℕ → ℕ → List Touch → Bool
nothing_outside u n a ts = every (within u n a) ts

-- "nothing else written": no touch but pages of the unit set to FFh, as its erase sets them
abbrev pub nothing_else : EraseUnit → ℕ → ℕ → List Touch → Bool
nothing_else u n a ts = nothing_outside u n a ts and every blanks ts

-- the same of what calls reach, from the record p on
abbrev pub alone : Record → EraseUnit → ℕ → List Call → Bool
alone p u a cs = nothing_else u p.part.blocks a (history cs p)

-- what runs, if anything does, is the erase of the unit u that begins at b, or a register write
abbrev pub NoOther : EraseUnit → ℕ → Option Operation → Type 0
NoOther u b None = Unit {0}
NoOther u b (Some (Program m s c k d)) = ⊥
NoOther u b (Some (Erase v c d)) = Erase v c d ≡ Erase u b d
NoOther u b (Some (o.Write r v)) = Unit {0}

-- so before each of the calls; and over events
abbrev pub RunsAlone : EraseUnit → ℕ → List Call → Record → Type 0
RunsAlone u b [] p = Unit {0}
RunsAlone u b (c ∷ cs) p = NoOther u b (running p.phase) × RunsAlone u b cs (record_after_call c p)

abbrev pub AloneThrough : EraseUnit → ℕ → List Event → Record → Type 0
AloneThrough u b [] p = Unit {0}
AloneThrough u b (calls cs ∷ es) p = RunsAlone u b cs p × AloneThrough u b es (record_after_calls cs p)
AloneThrough u b (power g ∷ es) p = AloneThrough u b es (up_again g p).next

-- the place that an erase is aimed at; whether that lies in the unit that holds a; and whether a place lies in the first k pages of such a unit
abbrev pub aim : Record → EraseUnit → Write → ℕ
aim p u w = place_of p (memory_of u) w.input

abbrev pub SameUnit : Record → EraseUnit → ℕ → Write → Type 0
SameUnit p u a w = unit_base u p.part.blocks (aim p u w) ≡ unit_base u p.part.blocks a

abbrev pub in_first : ℕ → EraseUnit → ℕ → ℕ → Memory → ℕ → Bool
in_first k u n a m at = in_done (Erase u (unit_base u n a) k) m at
