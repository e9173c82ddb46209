-- What a driver does to write, as a list of calls: write enable, a program or an erase, and a wait until it is done. And what it leaves of the part and of each byte.
use Rattle.std.specs.Prelude.{ℕ, ◌+◌, ◌-◌, ◌≤◌, ◌<◌, ◌≡◌, Bool, true, false, cond, List, [], ◌∷◌, ◌++◌, length, get_or, ltb, None, Option, Some}
use Rattle.types.specs.declared.Memory.{Memory}
use Rattle.types.specs.declared.Memory.TheVariants.{Array, Rows}
use Rattle.types.specs.declared.EraseUnit.{EraseUnit}
use Rattle.types.specs.declared.Addressing.{Addressing}
use Rattle.types.specs.declared.Addressing.TheVariants.{Three}
use Rattle.types.specs.declared.Operation.{Operation}
use Rattle.types.specs.declared.Operation.TheVariants.{Erase}
use Rattle.types.specs.declared.Phase.TheVariants.{Idle}
use Rattle.types.specs.declared.Effect.{Effect}
use Rattle.types.specs.declared.Effect.TheVariants.{Programs, Erases}
use Rattle.types.specs.declared.Command.{Command}
use Rattle.types.specs.declared.Record.{Record}
use Rattle.words.specs.Logic.{◌and◌}
use Rattle.paper.specs.Sizes.{array_bytes, rows_bytes, page_bytes, transaction_limit, same_memory, from_on}
use Rattle.paper.specs.Address.{place_in}
use Rattle.paper.specs.Program.{page_base, page_place, data_sent, kept_count, passed_count, no_data, program_of, narrowed_byte}
use Rattle.paper.specs.Erase.{memory_of, unit_base, erased_byte, erase_of}
use Rattle.paper.specs.Records.{settled}
use Rattle.paper.specs.Operations.{ticks_in_all, target_free, in_unit}
use Rattle.paper.specs.Soundness.{sound}
use Rattle.paper.specs.Table.{decoded, columns, addressing, length_ok}
use Rattle.paper.specs.Commands.{unarmed}
use Rattle.paper.specs.Numbers.{address_ok}
use Rattle.paper.specs.ByPlace.{byte_for}
use Rattle.paper.specs.History.{Call, transaction, one_byte, record_after_calls}
use Rattle.paper.specs.Board.{Board, answer_to, after_calls}
use Rattle.history.specs.Run.{Run}
use Rattle.laws.specs.Waiting.{all_wait, ticks_given}

-- the kind of a write: a program of a page of the array, or of a row; or an erase of a unit
pub data Kind : Type 0 where
  program : Memory → Kind
  erase : EraseUnit → Kind

-- what the command table says of it
abbrev pub effect_of : Kind → Effect
effect_of (program m) = Programs m
effect_of (erase u) = Erases u

-- the operation that it begins on a part of n blocks, with the input i, in which the address is sent as g says
abbrev pub operation_of : Kind → Addressing → ℕ → List ℕ → Operation
operation_of (program m) g n i = program_of m g n i
operation_of (erase u) g n i = erase_of u g n i

-- a write: 06h, checks, the command with its input, and the wait. WP# has some level at 06h and some level at the command; the checks and the wait are calls
pub record Write : Type 0 where
  pub enabled_at : Bool
  pub checks : List Call
  pub sent_at : Bool
  pub input : List ℕ
  pub wait : List Call

-- 06h
abbrev pub enable : Bool → Call
enable wp = one_byte wp 0x06

-- 06h and the checks
abbrev pub opening : Write → List Call
opening w = enable w.enabled_at ∷ w.checks

-- the command
abbrev pub command : Write → Call
command w = transaction w.sent_at w.input (length w.input)

-- the calls of a write
abbrev pub steps : Write → List Call
steps w = opening w ++ (command w ∷ w.wait)

-- the record at its start, from which on the wait is
abbrev pub at_start : Record → Write → Record
at_start p w = record_after_calls (opening w ++ (command w ∷ [])) p

-- a write with nothing between 06h and the command
abbrev pub write_of : Bool → Bool → List ℕ → List Call → Write
write_of first second i cs = record { enabled_at = first; checks = []; sent_at = second; input = i; wait = cs }

-- how the address of an input is sent to a part, under its bank register
abbrev pub addressing_by : Option Command → ℕ → Addressing
addressing_by (Some k) bank = addressing (columns k).named bank
addressing_by None bank = Three false

abbrev pub sent_as : Record → List ℕ → Addressing
sent_as p i = addressing_by (decoded p.part.blocks p.part.bank (get_or i 0 0)) p.part.bank

-- the operation that an input begins on a part
abbrev pub begun_by : Record → Kind → List ℕ → Operation
begun_by p kind i = operation_of kind (sent_as p i) p.part.blocks i

-- an input of a kind, for a part of n blocks under a bank register: its first byte is the code of such a command
pub record OfKind (n bank : ℕ) (kind : Kind) (i : List ℕ) : Type 0 where
  pub command : Command
  pub known : decoded n bank (get_or i 0 0) ≡ Some command
  pub does : (columns command).effect ≡ effect_of kind

-- it fits the part: it has 1 to 4,096 bytes, its length and its address are right, and its page, row or unit is unprotected or unlocked. CER needs a BP code of 0
pub record Fitting (p : Record) (kind : Kind) (i : List ℕ) : Type 0 where
  pub code : OfKind p.part.blocks p.part.bank kind i
  pub some : 1 ≤ length i
  pub most : length i ≤ transaction_limit
  pub right_length : length_ok (columns code.command).length (length i) ≡ true
  pub right_address : address_ok (columns code.command).named (sent_as p i) i ≡ true
  pub free_target : target_free (begun_by p kind i) p.part.blocks p.part.stored ≡ true

-- a write that is taken: its input fits, and its checks only wait. What comes from its start on may be any calls
pub record Begun (p : Record) (kind : Kind) (w : Write) : Type 0 where
  pub fitting : Fitting p kind w.input
  pub checks_wait : all_wait p.part.blocks p.part.bank w.checks ≡ true

-- and run to the end: its wait only waits, and gives as many ticks as the operation takes, or more
pub record Whole (p : Record) (kind : Kind) (w : Write) : Type 0 where
  pub begun : Begun p kind w
  pub wait_waits : all_wait p.part.blocks p.part.bank w.wait ≡ true
  pub enough : ticks_in_all (begun_by p kind w.input) p.part.blocks ≤ ticks_given p.part.blocks w.wait

-- an idle, awake part of any size, with its own memory
pub record Rested (b : Board) : Type 0 where
  pub is_sound : sound b.state ≡ true
  pub idle : b.state.phase ≡ Idle
  pub awake : b.state.part.asleep ≡ false
  pub own_array : length b.array ≡ array_bytes b.state.part.blocks
  pub own_rows : length b.rows ≡ rows_bytes

-- the calls of a list, run on one board, lead to another
abbrev pub Makes : Board → List Call → Board → Type 0
Makes b cs d = Run b.state b.array b.rows cs d.state d.array d.rows

-- the record at rest: idle, WEL 0, unarmed, page data zero; all else as it was
abbrev pub at_rest : Record → Record
at_rest p =
    record { part = unarmed (settled p.part Idle false); phase = Idle; identity = p.identity; page = no_data }

-- where an input goes, the place in a memory that its address names; and the data of a program
abbrev pub place_of : Record → Memory → List ℕ → ℕ
place_of p m i = place_in m (sent_as p i) p.part.blocks i

abbrev pub data_of : Record → List ℕ → List ℕ
data_of p i = data_sent (sent_as p i) i

-- a place of a memory m lies in the page (row) of a memory w that holds the place a
abbrev pub in_page_of : Memory → ℕ → Memory → ℕ → Bool
in_page_of w a m at = same_memory m w and from_on (page_base a) page_bytes at

-- or in the unit that holds it
abbrev pub in_unit_of : EraseUnit → ℕ → ℕ → Memory → ℕ → Bool
in_unit_of u n a m at = in_unit (Erase u (unit_base u n a) 0) n m at

-- which of the bytes that count, of the data d at the address a, goes to a place of the page (row) of a
abbrev pub byte_to : ℕ → List ℕ → ℕ → ℕ
byte_to a d at = byte_for (page_place a (passed_count d)) (at - page_base a)

-- the program of d at the address a of a memory w writes a place of a memory: it lies in the page (row) of a, and there is such a byte
abbrev pub writes_at : Memory → ℕ → List ℕ → Memory → ℕ → Bool
writes_at w a d m at = in_page_of w a m at and ltb (byte_to a d at) (kept_count d)

-- what the whole program leaves of the byte x there: old AND data; and where it writes nothing, x
abbrev pub byte_programmed : Memory → ℕ → List ℕ → Memory → ℕ → ℕ → ℕ
byte_programmed w a d m at x =
    cond (writes_at w a d m at) (narrowed_byte x (get_or d (passed_count d + byte_to a d at) 0)) x

-- what the whole erase of the unit that holds a leaves of it: FFh in the unit, and outside x
abbrev pub byte_erased : EraseUnit → ℕ → ℕ → Memory → ℕ → ℕ → ℕ
byte_erased u n a m at x = cond (in_unit_of u n a m at) erased_byte x

-- what a whole write leaves of it, on a part
abbrev pub byte_written : Record → Kind → List ℕ → Memory → ℕ → ℕ → ℕ
byte_written p (program w) i m at x = byte_programmed w (place_of p w i) (data_of p i) m at x
byte_written p (erase u) i m at x = byte_erased u p.part.blocks (place_of p (memory_of u) i) m at x

-- a board's memory
abbrev pub memory_in : Memory → Board → List ℕ
memory_in Array b = b.array
memory_in Rows b = b.rows

-- what a whole write does: 06h and the command are executed; the part is idle then, WEL is 0, and its record is at rest; each byte of array and rows is what a write of the kind leaves
pub record Done (b : Board) (kind : Kind) (w : Write) (e : Board) : Type 0 where
  pub enabled : (answer_to b w.enabled_at (0x06 ∷ []) 1).number ≡ 0
  pub executed : (answer_to (after_calls (opening w) b) w.sent_at w.input (length w.input)).number ≡ 0
  pub idle : e.state.phase ≡ Idle
  pub latch : e.state.part.wel ≡ false
  pub rest : e.state ≡ at_rest b.state
  pub lengths : (m : Memory) → length (memory_in m e) ≡ length (memory_in m b)
  pub bytes : (m : Memory) (at : ℕ) → at < length (memory_in m b) → get_or (memory_in m e) at 0 ≡ byte_written b.state kind w.input m at (get_or (memory_in m b) at 0)
