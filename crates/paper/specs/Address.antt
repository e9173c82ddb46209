-- Addresses as sent: bytes, high byte first.
use Rattle.std.specs.Prelude.{ℕ, ◌+◌, ◌*◌, ◌/◌, ◌%◌, List, [], ◌∷◌, Bool, true, get_or, take, drop, eqb}
use Rattle.types.specs.declared.Memory.{Memory}
use Rattle.types.specs.declared.Memory.TheVariants.{Array, Rows}
use Rattle.types.specs.declared.Addressing.{Addressing}
use Rattle.types.specs.declared.Addressing.TheVariants.{Three, Four}
use Rattle.words.specs.Logic.{bit, ◌and◌, ◌or◌}
use Rattle.paper.specs.Sizes.{array_bytes, bank_bytes, page_bytes}

-- the number that bytes are after a number that was read before them, high byte first
abbrev pub read_on : ℕ → List ℕ → ℕ
read_on a [] = a
read_on a (b ∷ bs) = read_on (a * 256 + b) bs

-- the number that bytes are, high byte first
unfoldable pub high_first : List ℕ → ℕ
high_first bs = read_on 0 bs

-- an address is three bytes, or four
abbrev pub address_count : Addressing → ℕ
address_count (Three upper) = 3
address_count Four = 4

-- three bytes are an address in a bank, which begins here; four are one in the whole array
abbrev pub bank_base : Addressing → ℕ
bank_base (Three upper) = bit upper * bank_bytes
bank_base Four = 0

-- so many bytes after the code
abbrev pub address_bytes : ℕ → List ℕ → List ℕ
address_bytes count i = take count (drop 1 i)

-- the address as it was sent
abbrev pub address_sent : Addressing → List ℕ → ℕ
address_sent g i = bank_base g + high_first (address_bytes (address_count g) i)

-- A: the address taken modulo the array size of a part of n blocks
unfoldable pub address_in : Addressing → ℕ → List ℕ → ℕ
address_in g n i = address_sent g i % array_bytes n

-- the place of the three bytes of a row address: behind the code, or behind a fourth byte
abbrev pub row_at : Addressing → ℕ
row_at (Three upper) = 1
row_at Four = 2

-- a fourth byte before them is 00h
abbrev pub fourth_ok : Addressing → List ℕ → Bool
fourth_ok (Three upper) i = true
fourth_ok Four i = eqb (get_or i 1 0) 0x00

-- the byte that names a row: 00h, 10h, 20h or 30h
abbrev pub names_row : ℕ → Bool
names_row b = eqb b 0x00 or eqb b 0x10 or eqb b 0x20 or eqb b 0x30

-- row addresses, as sent, are 00h, then 00h, 10h, 20h or 30h, then a byte address
unfoldable pub row_ok : Addressing → List ℕ → Bool
row_ok g i =
    fourth_ok g i
    and eqb (get_or i (row_at g) 0) 0x00
    and names_row (get_or i (row_at g + 1) 0)

-- where the row begins that a valid row address names
abbrev pub row_base : Addressing → List ℕ → ℕ
row_base g i = get_or i (row_at g + 1) 0 / 16 * page_bytes

-- its byte address. (A byte is below 256; the remainder says so for every list.)
abbrev pub row_byte : Addressing → List ℕ → ℕ
row_byte g i = get_or i (row_at g + 2) 0 % 256

-- the byte's place in the rows
unfoldable pub row_place : Addressing → List ℕ → ℕ
row_place g i = row_base g i + row_byte g i

-- the place in a memory that a transaction names
abbrev pub place_in : Memory → Addressing → ℕ → List ℕ → ℕ
place_in Array g n i = address_in g n i
place_in Rows g n i = row_place g i

-- the third address byte, of which 90h asks bit 0
abbrev pub third_address_byte : List ℕ → ℕ
third_address_byte i = get_or i 3 0
