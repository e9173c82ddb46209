-- A record in bytes: a header with every field at its place, and the 256 bytes of page data.
use Rattle.types.specs.declared.Operation.{Operation}
use Rattle.std.specs.Prelude.{ℕ, ◌+◌, cond, List, [], ◌∷◌, ◌++◌, eqb, length, take, drop, replicate, set, Option}
use Rattle.types.specs.declared.Identity.{Identity}
use Rattle.types.specs.declared.Stored.{Stored}
use Rattle.types.specs.declared.Phase.{Phase}
use Rattle.types.specs.declared.Phase.TheVariants.{Idle}
use Rattle.types.specs.declared.Part.{Part}
use Rattle.types.specs.declared.Record.{Record}
use Rattle.types.specs.declared.Change.{Change}
use Rattle.types.specs.declared.Change.TheVariants.{Same, Marked, Live, Anew, Runs, Halts, GoesOn, Clears}
use Rattle.words.specs.Logic.{bit}
use Rattle.paper.specs.Sizes.{page_bytes}
use Rattle.paper.specs.Program.{no_data}
use Rattle.paper.specs.Phases.{running, halted}
use Rattle.paper.specs.Commands.{page_after}
use Rattle.paper.specs.Calls.{no_stored}
use Rattle.address.specs.Bytes.{high_first_bytes}
use Rattle.cells.specs.declared.Cells.{Cells}
use Rattle.cells.specs.Operations.{work_cells}

-- the registers, of which a field has a byte each
abbrev pub stored_bytes : Stored → List ℕ
stored_bytes s = s.status ∷ s.function ∷ s.extended ∷ []

abbrev pub stored_length : ℕ
stored_length = length (stored_bytes no_stored)

-- they stand behind blocks, and behind them WEL, the marks, the live byte and the bank register
abbrev pub stored_at : ℕ
stored_at = 2

abbrev pub marks_at : ℕ
marks_at = stored_at + stored_length

abbrev pub wel_at : ℕ
wel_at = marks_at

abbrev pub armed_at : ℕ
armed_at = marks_at + 1

abbrev pub asleep_at : ℕ
asleep_at = marks_at + 2

abbrev pub live_at : ℕ
live_at = marks_at + 3

abbrev pub bank_at : ℕ
bank_at = marks_at + 4

-- so many bytes of a header say what a part is
abbrev pub part_length : ℕ
part_length = marks_at + 5

-- an operation has so many: its kind, its start or value, and in eight bytes each its base, its count and its ticks done
abbrev pub base_at : ℕ
base_at = 2

abbrev pub count_at : ℕ
count_at = base_at + 8

abbrev pub done_at : ℕ
done_at = count_at + 8

abbrev pub operation_length : ℕ
operation_length = done_at + 8

-- behind the part stand what runs, what is suspended, and the identity
abbrev pub running_at : ℕ
running_at = part_length

abbrev pub halted_at : ℕ
halted_at = running_at + operation_length

abbrev pub identity_at : ℕ
identity_at = halted_at + operation_length

abbrev pub identity_length : ℕ
identity_length = 4

-- so many bytes say what it does
abbrev pub phase_length : ℕ
phase_length = operation_length + operation_length

-- the bytes of a header, and of a record
abbrev pub header_length : ℕ
header_length = identity_at + identity_length

abbrev pub record_length : ℕ
record_length = header_length + page_bytes

-- what a part is: at 0 blocks, at 2 the registers, then WEL, armed, asleep, the live byte, the bank register
unfoldable pub part_bytes : Part → List ℕ
part_bytes p =
    high_first_bytes 2 p.blocks
    ++ stored_bytes p.stored
    ++ (bit p.wel ∷ bit p.armed ∷ bit p.asleep ∷ p.live ∷ p.bank ∷ [])

-- an operation
unfoldable pub operation_bytes : Cells → List ℕ
operation_bytes s =
    (s.kind ∷ s.value ∷ [])
    ++ high_first_bytes 8 s.base
    ++ high_first_bytes 8 s.count
    ++ high_first_bytes 8 s.done

-- what runs and what is suspended
unfoldable pub works_bytes : Option Operation → Option Operation → List ℕ
works_bytes w h = operation_bytes (work_cells w) ++ operation_bytes (work_cells h)

-- what it does: what runs and what is suspended; of none of them zeros
abbrev pub phase_bytes : Phase → List ℕ
phase_bytes f = works_bytes (running f) (halted f)

-- its identity M, T, C, D
abbrev pub identity_bytes : Identity → List ℕ
identity_bytes d = d.maker ∷ d.kind ∷ d.capacity ∷ d.device ∷ []

-- the header
abbrev pub header : Part → Phase → Identity → List ℕ
header p f d = (part_bytes p ++ phase_bytes f) ++ identity_bytes d

-- the whole
unfoldable pub record_bytes : Record → List ℕ
record_bytes p = header p.part p.phase p.identity ++ p.page

-- a buffer with the record written; one of another length is left as it is
unfoldable pub written : Record → List ℕ → List ℕ
written p bs = cond (eqb (length bs) record_length) (record_bytes p) bs

-- the header of a record's bytes with other work running: the part and what runs are written, what is suspended and the identity stay
abbrev pub header_running : Part → Option Operation → List ℕ → List ℕ
header_running q w bs = part_bytes q ++ (operation_bytes (work_cells w) ++ take (operation_length + identity_length) (drop halted_at bs))

-- the bytes of an operation from a place on
abbrev pub operation_at : List ℕ → ℕ → List ℕ
operation_at bs at = take operation_length (drop at bs)

-- a record's bytes with the part written, and other bytes where what runs and what is suspended stand
abbrev pub works_laid : Part → List ℕ → List ℕ → List ℕ → List ℕ
works_laid q w h bs = part_bytes q ++ (w ++ (h ++ drop identity_at bs))

-- so what runs is suspended, and so what is suspended goes on: its bytes are moved, and zeros stand where they stood
abbrev pub bytes_halted : Part → List ℕ → List ℕ
bytes_halted q bs = works_laid q (replicate operation_length 0) (operation_at bs running_at) bs

abbrev pub bytes_resumed : Part → List ℕ → List ℕ
bytes_resumed q bs = works_laid q (operation_at bs halted_at) (replicate operation_length 0) bs

-- the header of a part that does nothing; the identity stays
abbrev pub header_idle : Part → List ℕ → List ℕ
header_idle q bs = (part_bytes q ++ phase_bytes Idle) ++ take identity_length (drop identity_at bs)

-- so a part that has no page data either
abbrev pub bytes_cleared : Part → List ℕ → List ℕ
bytes_cleared q bs = header_idle q bs ++ no_data

-- the bytes of a record after a change by a call with the input i
abbrev pub bytes_changed : Change → List ℕ → List ℕ → List ℕ
bytes_changed Same i bs = bs
bytes_changed (Marked armed) i bs = set bs armed_at (bit armed)
bytes_changed (Live v) i bs = set (set bs armed_at 0) live_at v
bytes_changed (Anew q) i bs = part_bytes q ++ drop part_length bs
bytes_changed (Runs q d w) i bs = header_running q w bs ++ page_after d i (drop header_length bs)
bytes_changed (Halts q) i bs = bytes_halted q bs
bytes_changed (GoesOn q) i bs = bytes_resumed q bs
bytes_changed (Clears q) i bs = bytes_cleared q bs

-- a buffer with the change written; bytes of another length are left as they are
unfoldable pub change_written : Change → List ℕ → List ℕ → List ℕ
change_written c i bs = cond (eqb (length bs) record_length) (bytes_changed c i bs) bs
