-- Erase, over the unit's size.
use Rattle.std.specs.Prelude.{ℕ, ◌+◌, ◌*◌, List, ◌++◌, cond, length, take, drop, replicate, leb}
use Rattle.types.specs.declared.Memory.{Memory}
use Rattle.types.specs.declared.Addressing.{Addressing}
use Rattle.types.specs.declared.Memory.TheVariants.{Array, Rows}
use Rattle.types.specs.declared.EraseUnit.{EraseUnit}
use Rattle.types.specs.declared.EraseUnit.TheVariants.{Sector, Block32, Block64, Chip, Row}
use Rattle.types.specs.declared.Operation.{Operation}
use Rattle.types.specs.declared.Operation.TheVariants.{Erase}
use Rattle.paper.specs.Sizes.{page_bytes, down_to}
use Rattle.paper.specs.Address.{place_in}

-- the memory that a unit is a part of
abbrev pub memory_of : EraseUnit → Memory
memory_of Sector = Array
memory_of Block32 = Array
memory_of Block64 = Array
memory_of Chip = Array
memory_of Row = Rows

-- the pages of a unit, each of which takes one tick: SER takes 16 ticks, BER32 128, BER64 256, CER 256 for each block, a row erase 1
abbrev pub unit_pages : EraseUnit → ℕ → ℕ
unit_pages Sector n = 16
unit_pages Block32 n = 128
unit_pages Block64 n = 256
unit_pages Chip n = n * 256
unit_pages Row n = 1

-- a unit's size in bytes
abbrev pub unit_bytes : EraseUnit → ℕ → ℕ
unit_bytes u n = unit_pages u n * page_bytes

-- where the unit that holds a place begins
abbrev pub unit_base : EraseUnit → ℕ → ℕ → ℕ
unit_base u n a = down_to (unit_bytes u n) a

-- the erase that a transaction begins: the unit that holds A. A row erase disregards the byte address
unfoldable pub erase_of : EraseUnit → Addressing → ℕ → List ℕ → Operation
erase_of u g n i = Erase u (unit_base u n (place_in (memory_of u) g n i)) 0

-- an erased byte is FFh
abbrev pub erased_byte : ℕ
erased_byte = 255

-- the page of 256 bytes from a place on set to FFh. A page that does not fit leaves the bytes as they are
unfoldable pub page_erased : List ℕ → ℕ → List ℕ
page_erased xs b =
    cond (leb (b + page_bytes) (length xs)) (take b xs ++ (replicate page_bytes erased_byte ++ drop (b + page_bytes) xs)) xs
