-- The part on the bench: its sizes.
use Rattle.std.specs.Prelude.{ℕ, ◌+◌, ◌*◌, ◌/◌, Bool, true, false, cond, eqb, ltb, leb}
use Rattle.types.specs.declared.Memory.{Memory}
use Rattle.types.specs.declared.Memory.TheVariants.{Array, Rows}
use Rattle.words.specs.Logic.{◌and◌, ◌or◌}

-- the large part has 512 blocks
abbrev pub is_large : ℕ → Bool
is_large n = eqb n 512

-- 4, 8 or 16 blocks, and one short size of 1 block; and the large part
unfoldable pub size_ok : ℕ → Bool
size_ok n = eqb n 1 or eqb n 4 or eqb n 8 or eqb n 16 or is_large n

-- a block has 65,536 bytes
abbrev pub block_bytes : ℕ
block_bytes = 65536

-- an array of n blocks, in bytes
abbrev pub array_bytes : ℕ → ℕ
array_bytes n = n * block_bytes

-- the large part has two banks of 16,777,216 bytes
abbrev pub bank_bytes : ℕ
bank_bytes = 16777216

-- the rows are a separate 1,024 bytes, four rows of 256
abbrev pub rows_bytes : ℕ
rows_bytes = 1024

-- two memories are the same
abbrev pub same_memory : Memory → Memory → Bool
same_memory Array Array = true
same_memory Array Rows = false
same_memory Rows Array = false
same_memory Rows Rows = true

-- a place is one of size bytes from the place b on
abbrev pub from_on : ℕ → ℕ → ℕ → Bool
from_on b size a = leb b a and ltb a (b + size)

-- the bytes of a memory of a part of n blocks
abbrev pub memory_bytes : Memory → ℕ → ℕ
memory_bytes Array n = array_bytes n
memory_bytes Rows n = rows_bytes

-- a page, or a row, has 256 bytes
abbrev pub page_bytes : ℕ
page_bytes = 256

-- an array of n blocks, in pages
abbrev pub array_pages : ℕ → ℕ
array_pages n = n * 256

-- a map of its pages, one bit for each, in bytes
abbrev pub map_bytes : ℕ → ℕ
map_bytes n = n * 32

-- a sector has 4,096 bytes, 16 pages
abbrev pub sector_bytes : ℕ
sector_bytes = 4096

abbrev pub sector_pages : ℕ
sector_pages = 16

-- an array of n blocks, in sectors
abbrev pub array_sectors : ℕ → ℕ
array_sectors n = n * 16

-- the buffer for the text of its wear records, in bytes
abbrev pub wear_text_bytes : ℕ → ℕ
wear_text_bytes n = n * 512 + 64

-- the last multiple of a size that is not above a place: where the page, or the unit, of that size begins that holds the place
abbrev pub down_to : ℕ → ℕ → ℕ
down_to size a = a / size * size

-- a transaction has 1 to 4,096 bytes
abbrev pub transaction_limit : ℕ
transaction_limit = 4096

-- a tick call asks at most 4,096 ticks, on the large part at most 131,072
abbrev pub tick_limit : ℕ → ℕ
tick_limit n = cond (is_large n) 131072 4096
