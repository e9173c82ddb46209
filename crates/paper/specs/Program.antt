-- Program: which bytes are kept, where they go, and in which order.
use Rattle.std.specs.Prelude.{ℕ, ◌+◌, ◌-◌, ◌%◌, min, List, ◌++◌, length, get_or, drop, set, replicate}
use Rattle.std.specs.Int.Bits.{bit_and}
use Rattle.types.specs.declared.Memory.{Memory}
use Rattle.types.specs.declared.Addressing.{Addressing}
use Rattle.types.specs.declared.Operation.{Operation}
use Rattle.types.specs.declared.Operation.TheVariants.{Program}
use Rattle.paper.specs.Sizes.{page_bytes, down_to}
use Rattle.paper.specs.Address.{address_count, place_in}

-- the page (row) of a place begins at
abbrev pub page_base : ℕ → ℕ
page_base a = down_to page_bytes a

-- past the last byte the address returns to that page's start: the place in the page of byte k of bytes that start at the place s
unfoldable pub page_place : ℕ → ℕ → ℕ
page_place s k = (s + k) % page_bytes

-- the data follows the code and the address bytes
abbrev pub data_sent : Addressing → List ℕ → List ℕ
data_sent g i = drop (1 + address_count g) i

-- of more than 256 bytes the last 256 count
abbrev pub kept_count : List ℕ → ℕ
kept_count d = min (length d) page_bytes

-- how many bytes came before those that count
abbrev pub passed_count : List ℕ → ℕ
passed_count d = length d - kept_count d

-- page data: the kept bytes in order of arrival, zeros after them
unfoldable pub page_data : List ℕ → List ℕ
page_data d = drop (passed_count d) d ++ replicate (page_bytes - kept_count d) 0

-- page data of no program: all zero
unfoldable pub no_data : List ℕ
no_data = replicate page_bytes 0

-- the program that a transaction begins in a memory of a part of n blocks: of the page (row) of A, from the place in it of the first byte that counts
unfoldable pub program_of : Memory → Addressing → ℕ → List ℕ → Operation
program_of m g n i =
    Program m (page_place (place_in m g n i) (passed_count (data_sent g i))) (page_base (place_in m g n i)) (kept_count (data_sent g i)) 0

-- new = old AND data
abbrev pub narrowed_byte : ℕ → ℕ → ℕ
narrowed_byte old d = bit_and old d

-- the byte at the place a narrowed by d
unfoldable pub narrowed : List ℕ → ℕ → ℕ → List ℕ
narrowed xs a d = set xs a (narrowed_byte (get_or xs a 0) d)
