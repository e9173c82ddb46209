-- The record that bytes hold.
use Rattle.types.specs.declared.Operation.{Operation}
use Rattle.std.specs.Prelude.{ℕ, ◌+◌, ◌^◌, ◌<◌, ◌≡◌, Bool, true, false, cond, List, [], ◌∷◌, eqb, leb, length, get_or, take, drop, Option, Some, None}
use Rattle.types.specs.declared.Phase.{Phase}
use Rattle.types.specs.declared.Phase.TheVariants.{Idle}
use Rattle.types.specs.declared.Identity.{Identity}
use Rattle.types.specs.declared.Stored.{Stored}
use Rattle.types.specs.declared.Part.{Part}
use Rattle.types.specs.declared.Record.{Record}
use Rattle.words.specs.Logic.{◌and◌}
use Rattle.paper.specs.Sizes.{page_bytes}
use Rattle.paper.specs.Soundness.{sound}
use Rattle.paper.specs.Phases.{running, halted, phase_of}
use Rattle.paper.specs.Address.{high_first}
use Rattle.paper.specs.Calls.{zero_record}
use Rattle.cells.specs.declared.Cells.{Cells}
use Rattle.cells.specs.Operations.{cells, work_cells, work_of, same_cells}
use Rattle.record_bytes.specs.declared.Found.{Found}
use Rattle.record_bytes.specs.declared.Doing.{Doing}
use Rattle.record_bytes.specs.Layout.{stored_at, wel_at, armed_at, asleep_at, live_at, bank_at, base_at, count_at, done_at, running_at, halted_at, identity_at, header_length, record_length, header, operation_at}

-- the number that k bytes from a place on are
abbrev pub number_at : List ℕ → ℕ → ℕ → ℕ
number_at bs at k = high_first (take k (drop at bs))

-- the cells of the operation in its bytes
unfoldable pub cells_in : List ℕ → Cells
cells_in bs = cells (get_or bs 0 0) (get_or bs 1 0) (number_at bs base_at 8) (number_at bs count_at 8) (number_at bs done_at 8)

-- the operation in the bytes from a place on, or none
abbrev pub work_at : List ℕ → ℕ → Option Operation
work_at bs at = work_of (cells_in (operation_at bs at))

-- the registers that stand in the bytes f 0, f 1, ..
abbrev pub stored_of : (ℕ → ℕ) → Stored
stored_of f = record { status = f stored_at; function = f (stored_at + 1); extended = f (stored_at + 2) }

-- the fields of a part at their places, whatever stands there
unfoldable pub part_in : List ℕ → Part
part_in bs =
    record { blocks = number_at bs 0 2; stored = stored_of (λ j. get_or bs j 0); wel = eqb (get_or bs wel_at 0) 1; armed = eqb (get_or bs armed_at 0) 1; asleep = eqb (get_or bs asleep_at 0) 1; live = get_or bs live_at 0; bank = get_or bs bank_at 0 }

-- the phase so
abbrev pub phase_in : List ℕ → Phase
phase_in bs = phase_of (work_at bs running_at) (work_at bs halted_at)

-- the identity
abbrev pub identity_in : List ℕ → Identity
identity_in bs =
    record { maker = get_or bs identity_at 0; kind = get_or bs (identity_at + 1) 0; capacity = get_or bs (identity_at + 2) 0; device = get_or bs (identity_at + 3) 0 }

-- and the whole record
unfoldable pub fields_in : List ℕ → Record
fields_in bs =
    record { part = part_in bs; phase = phase_in bs; identity = identity_in bs; page = drop header_length bs }

-- WEL and the marks are 0 or 1
unfoldable pub marks_in : List ℕ → Bool
marks_in bs = leb (get_or bs wel_at 0) 1 and leb (get_or bs armed_at 0) 1 and leb (get_or bs asleep_at 0) 1

-- the cells at a place are those of the operation that they are read as, or of none
unfoldable pub own_cells : List ℕ → ℕ → Bool
own_cells bs at = same_cells (work_cells (work_at bs at)) (cells_in (operation_at bs at))

-- what the bytes say that a part does, and that they are the bytes of that
unfoldable pub doing_in : List ℕ → Doing
doing_in bs = record { ok = own_cells bs running_at and own_cells bs halted_at; phase = phase_in bs }

-- two lists are one
abbrev pub same_bytes : List ℕ → List ℕ → Bool
same_bytes [] [] = true
same_bytes [] (y ∷ ys) = false
same_bytes (x ∷ xs) [] = false
same_bytes (x ∷ xs) (y ∷ ys) = eqb x y and same_bytes xs ys

-- bytes hold a record where there are as many as it has, and the header is the one that its fields have
unfoldable pub holds : List ℕ → Bool
holds bs =
    eqb (length bs) record_length
    and same_bytes (header (part_in bs) (phase_in bs) (identity_in bs)) (take header_length bs)

-- what bytes hold: a record, or none where ok is false
pub record Held : Type 0 where
  pub ok : Bool
  pub state : Record

-- no record: the state is that of a refused power-up
unfoldable pub nothing : Held
nothing = record { ok = false; state = zero_record }

-- a record that is held
abbrev pub held : Record → Held
held p = record { ok = true; state = p }

-- the record that bytes hold, or none
unfoldable pub record_in : List ℕ → Held
record_in bs = cond (holds bs) (held (fields_in bs)) nothing

-- the part and the phase of bytes that were judged before, read again without judging; of bytes of another length those of a refused power-up
unfoldable pub part_again : List ℕ → Part
part_again bs = cond (eqb (length bs) record_length) (part_in bs) zero_record.part

unfoldable pub phase_again : List ℕ → Phase
phase_again bs = cond (eqb (length bs) record_length) (phase_in bs) Idle

-- what a call makes of bytes that hold a record, and of bytes that hold none
unfoldable pub on_held : {A : Type 0} → Held → (Record → A) → A → A
on_held h call none = cond h.ok (call h.state) none

-- what is found of a record: all but identity and page data, and whether it is sound
abbrev pub found_of : Record → Found
found_of p = record { sound = sound p; part = p.part; phase = p.phase }

-- and of what is held; or none
abbrev pub found : Held → Option Found
found h = cond h.ok (Some (found_of h.state)) None

-- the numbers of an operation, and those of a record, fit their fields, as they do in code
pub record Fitting (s : Cells) : Type 0 where
  pub base : s.base < 2 ^ 64
  pub count : s.count < 2 ^ 64
  pub done : s.done < 2 ^ 64

pub record Fits (p : Record) : Type 0 where
  pub blocks : p.part.blocks < 2 ^ 16
  pub runs : Fitting (work_cells (running p.phase))
  pub suspended : Fitting (work_cells (halted p.phase))
  pub page : length p.page ≡ page_bytes
