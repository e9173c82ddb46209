-- Registers: their bits; what a write holds, and what its one tick stores; the live byte of the extended read register; the bank address register.
use Rattle.std.specs.Prelude.{ℕ, ◌+◌, ◌-◌, ◌*◌, ◌/◌, ◌%◌, ◌^◌, Bool, List, get_or, eqb}
use Rattle.std.specs.Int.Bits.{bit_or}
use Rattle.types.specs.declared.Register.{Register}
use Rattle.types.specs.declared.Register.TheVariants.{Status, Function, Extended}
use Rattle.types.specs.declared.Stored.{Stored}
use Rattle.types.specs.declared.Operation.{Operation}
use Rattle.types.specs.declared.Operation.TheVariants.{Program, Erase, Write}
use Rattle.words.specs.Logic.{bit}

-- bit k of a byte
abbrev pub bit_at : ℕ → ℕ → ℕ
bit_at k b = b / 2 ^ k % 2

-- bits h..l of a byte, as a number
abbrev pub bits_at : ℕ → ℕ → ℕ → ℕ
bits_at h l b = b / 2 ^ l % 2 ^ (1 + h - l)

-- status: bit 7 SRWD, 6 QE, 5..2 BP3..BP0, 1 WEL, 0 WIP
abbrev pub SRWD : ℕ → ℕ
SRWD status = bit_at 7 status

abbrev pub QE : ℕ → ℕ
QE status = bit_at 6 status

abbrev pub WEL : ℕ → ℕ
WEL status = bit_at 1 status

abbrev pub WIP : ℕ → ℕ
WIP status = bit_at 0 status

-- function: bits 7..4 IRL3..IRL0, 3 ESUS, 2 PSUS, 1 TBS, 0 zero. TBS is the top or bottom bit of the large part: 0 top, 1 bottom
abbrev pub IRL : ℕ → ℕ → ℕ
IRL k function = bit_at (4 + k) function

abbrev pub ESUS : ℕ → ℕ
ESUS function = bit_at 3 function

abbrev pub PSUS : ℕ → ℕ
PSUS function = bit_at 2 function

abbrev pub TBS : ℕ → ℕ
TBS function = bit_at 1 function

-- the bank address register of the large part: bit 7 EXTADD, bits 6..1 zero, bit 0 the bank bit BA24
abbrev pub EXTADD : ℕ → ℕ
EXTADD bank = bit_at 7 bank

abbrev pub BA24 : ℕ → ℕ
BA24 bank = bit_at 0 bank

-- the byte that a write holds: a status write its byte with bits 1..0 zero, a function write with bits 3..0 zero, a write of the extended read register with bits 4..0 zero
abbrev pub held_byte : Register → ℕ → ℕ
held_byte Status b = b / 4 * 4
held_byte Function b = b / 16 * 16
held_byte Extended b = b / 32 * 32

-- the write that a transaction begins
unfoldable pub write_of : Register → List ℕ → Operation
write_of r i = Write r (held_byte r (get_or i 1 0))

-- the registers with this status and this function; what else they have stays
abbrev pub with_bytes : ℕ → ℕ → Stored → Stored
with_bytes status function s = record { status = status; function = function; extended = s.extended }

-- the registers with this stored byte of the extended read register; what else they have stays
abbrev pub with_extended : ℕ → Stored → Stored
with_extended v s = record { status = s.status; function = s.function; extended = v }

-- the stored bits of registers, without those that other fields define
abbrev pub stored_bits : Stored → Stored
stored_bits s =
    with_bytes (held_byte Status s.status) (held_byte Function s.function + 2 * TBS s.function)
    (with_extended (held_byte Extended s.extended) s)

-- the registers after a write's tick: 01h stores bits 7..2 (the byte that it holds has the others 0); 42h may set IRL bits and never clears one, other bits are disregarded, and TBS stays; 85h stores bits 7..5
abbrev pub register_written : Register → ℕ → Stored → Stored
register_written Status v s = with_bytes v s.function s
register_written Function v s =
    with_bytes s.status (bit_or (s.function / 16) (v / 16) * 16 + 2 * TBS s.function) s
register_written Extended v s = with_extended v s

-- the registers after an operation's last tick
abbrev pub stored_after : Operation → Stored → Stored
stored_after (Program m s b k d) g = g
stored_after (Erase u b d) g = g
stored_after (Write r v) g = register_written r v g

-- the error bits of the extended read register
abbrev pub E_ERR : ℕ
E_ERR = 8

abbrev pub P_ERR : ℕ
P_ERR = 4

abbrev pub PROT_E : ℕ
PROT_E = 2

-- its live byte: bits 7..5, and the error bits. Power-up and reset load it from the stored byte, with the error bits 0
abbrev pub live_loaded : Stored → ℕ
live_loaded s = held_byte Extended s.extended

-- 83h sets bits 7..5 to those of a byte; the error bits stay
abbrev pub live_set : ℕ → ℕ → ℕ
live_set b live = held_byte Extended b + live % 32

-- 82h clears the error bits; bits 7..5 stay
abbrev pub live_cleared : ℕ → ℕ
live_cleared live = held_byte Extended live

-- error bits are set, and those that were set stay
abbrev pub live_failed : ℕ → ℕ → ℕ
live_failed errors live = bit_or live errors

-- what 81h reads, of the live byte and of the status register: bits 7..5 and the error bits of the live byte; bit 4 reads 1; bit 0 is WIP, as in status
abbrev pub extended_read : ℕ → ℕ → ℕ
extended_read live status = held_byte Extended live + 16 + live / 2 % 8 * 2 + status % 2

-- the bank address register is 00h after power-up and reset
abbrev pub bank_loaded : ℕ
bank_loaded = 0

-- EXTADD is 1: a far address, of four bytes
abbrev pub extadd : ℕ → Bool
extadd bank = eqb (EXTADD bank) 1

-- the bank bit is 1: the upper bank
abbrev pub upper_bank : ℕ → Bool
upper_bank bank = eqb (BA24 bank) 1

-- B7h sets EXTADD and 29h clears it; the bank bit stays
abbrev pub bank_turned : Bool → ℕ → ℕ
bank_turned far bank = 128 * bit far + BA24 bank

-- 17h and C5h set both to those of a byte, whose bits 6..1 are disregarded
abbrev pub bank_set : ℕ → ℕ
bank_set b = bank_turned (extadd b) b
