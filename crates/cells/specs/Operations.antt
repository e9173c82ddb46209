-- An operation in plain numbers, its cells, and the operation of cells.
use Rattle.std.specs.Prelude.{ℕ, Bool, cond, eqb, None, Option, Some}
use Rattle.types.specs.declared.Memory.{Memory}
use Rattle.types.specs.declared.Memory.TheVariants.{Array, Rows}
use Rattle.types.specs.declared.EraseUnit.{EraseUnit}
use Rattle.types.specs.declared.EraseUnit.TheVariants.{Sector, Block32, Block64, Chip, Row}
use Rattle.types.specs.declared.Register.{Register}
use Rattle.types.specs.declared.Register.TheVariants.{Status, Function, Extended}
use Rattle.types.specs.declared.Operation.{Operation}
use Rattle.types.specs.declared.Operation.TheVariants.{Program, Erase, Write}
use Rattle.words.specs.Logic.{◌and◌}
use Rattle.cells.specs.declared.Cells.{Cells}

-- a kind for each operation: 1 and 2 programs, 3 to 7 erases, 8 to 10 register writes
abbrev pub program_kind : Memory → ℕ
program_kind Array = 1
program_kind Rows = 2

abbrev pub erase_kind : EraseUnit → ℕ
erase_kind Sector = 3
erase_kind Block32 = 4
erase_kind Block64 = 5
erase_kind Chip = 6
erase_kind Row = 7

abbrev pub write_kind : Register → ℕ
write_kind Status = 8
write_kind Function = 9
write_kind Extended = 10

-- the cells of an operation: its kind, and its numbers
abbrev pub cells : ℕ → ℕ → ℕ → ℕ → ℕ → Cells
cells kind value base count done =
    record { kind = kind; value = value; base = base; count = count; done = done }

-- value is a program's start or the byte that a register write holds; what an operation does not have is 0
abbrev pub cells_of : Operation → Cells
cells_of (Program m s b k d) = cells (program_kind m) s b k d
cells_of (Erase u b d) = cells (erase_kind u) 0 b 0 d
cells_of (Write r v) = cells (write_kind r) v 0 0 0

-- of no operation all cells are 0
abbrev pub work_cells : Option Operation → Cells
work_cells None = cells 0 0 0 0 0
work_cells (Some o) = cells_of o

-- the operation of each kind
abbrev pub program_in : Memory → Cells → Operation
program_in m s = Program m s.value s.base s.count s.done

abbrev pub erase_in : EraseUnit → Cells → Operation
erase_in u s = Erase u s.base s.done

abbrev pub write_in : Register → Cells → Operation
write_in r s = Write r s.value

-- the operation of a kind; of one that is none, a write of the extended read register
unfoldable pub operation_of : ℕ → Cells → Operation
operation_of k s =
    cond (eqb k 1) (program_in Array s)
    (cond (eqb k 2) (program_in Rows s)
    (cond (eqb k 3) (erase_in Sector s)
    (cond (eqb k 4) (erase_in Block32 s)
    (cond (eqb k 5) (erase_in Block64 s)
    (cond (eqb k 6) (erase_in Chip s)
    (cond (eqb k 7) (erase_in Row s)
    (cond (eqb k 8) (write_in Status s) (cond (eqb k 9) (write_in Function s) (write_in Extended s)))))))))

-- the operation of cells, whatever stands there
abbrev pub operation_in : Cells → Operation
operation_in s = operation_of s.kind s

-- the same, or none where the kind is 0
abbrev pub work_of : Cells → Option Operation
work_of s = cond (eqb s.kind 0) None (Some (operation_in s))

-- two operations have the same cells
unfoldable pub same_cells : Cells → Cells → Bool
same_cells s t =
    eqb s.kind t.kind
    and eqb s.value t.value
    and eqb s.base t.base
    and eqb s.count t.count
    and eqb s.done t.done

-- cells are those of the operation that they are read as
unfoldable pub own : Cells → Bool
own s = same_cells (cells_of (operation_in s)) s
