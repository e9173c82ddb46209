-- Reads: what a command drives at each place of the output.
use Rattle.std.specs.Prelude.{ℕ, ◌-◌, ◌%◌, min, cond, List, [], ◌∷◌, length, take, drop, replicate, leb}
use Rattle.types.specs.declared.Source.{Source}
use Rattle.types.specs.declared.Source.TheVariants.{Void, ArrayBytes, RowBytes, StatusByte, FunctionByte, IdentityBytes, MakerPair, DeviceByte, ExtendedByte, BankByte}
use Rattle.types.specs.declared.Columns.{Columns}
use Rattle.types.specs.declared.Identity.{Identity}
use Rattle.types.specs.declared.Part.{Part}
use Rattle.types.specs.declared.Addressing.{Addressing}
use Rattle.words.specs.Logic.{◌and◌}
use Rattle.words.specs.Lists.{up_to, round}
use Rattle.paper.specs.Sizes.{page_bytes}
use Rattle.paper.specs.Address.{address_in, row_base, row_byte, third_address_byte}
use Rattle.paper.specs.Registers.{extended_read}
use Rattle.paper.specs.Table.{addressing_on, is_read}

-- output places that the part doesn't drive hold FFh
abbrev pub undriven_byte : ℕ
undriven_byte = 255

-- an output of n places, none of them driven
abbrev pub undriven : ℕ → List ℕ
undriven n = replicate n undriven_byte

-- the bytes that a command drives, round and round: array reads run on past the end to address 0, row reads wrap inside the row,
-- status, function, the extended read register and the bank register repeat, 9Fh repeats M, T, C, 90h alternates M and D, ABh repeats D of the identity id
abbrev pub source_bytes : Source → Addressing → Identity → Part → List ℕ → List ℕ → List ℕ → List ℕ
source_bytes Void g id p xs rs i = []
source_bytes ArrayBytes g id p xs rs i = xs
source_bytes RowBytes g id p xs rs i = take page_bytes (drop (row_base g i) rs)
source_bytes StatusByte g id p xs rs i = p.stored.status ∷ []
source_bytes FunctionByte g id p xs rs i = p.stored.function ∷ []
source_bytes IdentityBytes g id p xs rs i = id.maker ∷ id.kind ∷ id.capacity ∷ []
source_bytes MakerPair g id p xs rs i = id.maker ∷ id.device ∷ []
source_bytes DeviceByte g id p xs rs i = id.device ∷ []
source_bytes ExtendedByte g id p xs rs i = extended_read p.live p.stored.status ∷ []
source_bytes BankByte g id p xs rs i = p.bank ∷ []

-- at which of them it begins: at A, at the row's byte address; 90h with bit 0 of the third address byte clear: M first, set: D first
abbrev pub source_start : Source → Addressing → ℕ → List ℕ → ℕ
source_start Void g n i = 0
source_start ArrayBytes g n i = address_in g n i
source_start RowBytes g n i = row_byte g i
source_start StatusByte g n i = 0
source_start FunctionByte g n i = 0
source_start IdentityBytes g n i = 0
source_start MakerPair g n i = third_address_byte i % 2
source_start DeviceByte g n i = 0
source_start ExtendedByte g n i = 0
source_start BankByte g n i = 0

-- the byte at place j of an executed command's output
abbrev pub output_byte : Columns → Identity → Part → List ℕ → List ℕ → List ℕ → ℕ → ℕ
output_byte k id p xs rs i j =
    cond (is_read k and leb k.from j)
    (round (source_bytes k.source (addressing_on k p) id p xs rs i)
    (source_start k.source (addressing_on k p) p.blocks i)
    (j - k.from))
    undriven_byte

-- its whole output, as long as the input
unfoldable pub output_of : Columns → Identity → Part → List ℕ → List ℕ → List ℕ → List ℕ
output_of k id p xs rs i = up_to (length i) (output_byte k id p xs rs i)

-- the first driven place of n; it equals the transaction length where nothing is driven
abbrev pub first_driven : Columns → ℕ → ℕ
first_driven k n = cond (is_read k) (min k.from n) n
