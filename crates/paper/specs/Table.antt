-- The command table.
use Rattle.std.specs.Prelude.{ℕ, List, [], ◌∷◌, ◌++◌, Bool, true, false, cond, eqb, leb, None, Option, Some}
use Rattle.types.specs.declared.Memory.TheVariants.{Array, Rows}
use Rattle.types.specs.declared.EraseUnit.TheVariants.{Sector, Block32, Block64, Chip, Row}
use Rattle.types.specs.declared.Register.TheVariants.{Status, Function, Extended}
use Rattle.types.specs.declared.Command.{Command}
use Rattle.types.specs.declared.Command.TheVariants.{Read, FastRead, ReadStatus, ReadFunction, ReadIdentity, ReadMakerDevice, Wake, ReadRow, WriteEnable, WriteDisable, WriteStatus, WriteFunction, PageProgram, SectorErase, BlockErase32, BlockErase64, ChipErase, Suspend, Resume, Sleep, ArmReset, Reset, RowErase, RowProgram, ReadExtended, SetStored, SetLive, ClearErrors, FarRead, FarFastRead, FarPageProgram, FarPageProgramAtRest, FarSectorErase, FarBlockErase32, FarBlockErase64, ReadBank, WriteBank, EnterFar, LeaveFar}
use Rattle.types.specs.declared.Length.{Length}
use Rattle.types.specs.declared.Length.TheVariants.{Exactly, AtLeast}
use Rattle.types.specs.declared.Source.{Source}
use Rattle.types.specs.declared.Source.TheVariants.{Void, ArrayBytes, RowBytes, StatusByte, FunctionByte, IdentityBytes, MakerPair, DeviceByte, ExtendedByte, BankByte}
use Rattle.types.specs.declared.Effect.{Effect}
use Rattle.types.specs.declared.Effect.TheVariants.{Looks, Enables, Disables, Programs, Erases, Writes, Suspends, Resumes, Sleeps, Wakes, Arms, Resets, SetsLive, ClearsErrors, SetsBank, SetsFar}
use Rattle.types.specs.declared.Taken.{Taken}
use Rattle.types.specs.declared.Taken.TheVariants.{Rest, Esus, OrHalted, OrBusy, Awake, OrAsleep}
use Rattle.types.specs.declared.Named.{Named}
use Rattle.types.specs.declared.Named.TheVariants.{Bare, Place, Far, InRow}
use Rattle.types.specs.declared.Wanted.{Wanted}
use Rattle.types.specs.declared.Wanted.TheVariants.{Any, Running, Halted, Armed}
use Rattle.types.specs.declared.Columns.{Columns}
use Rattle.types.specs.declared.Part.{Part}
use Rattle.types.specs.declared.Addressing.{Addressing}
use Rattle.types.specs.declared.Addressing.TheVariants.{Three, Four}
use Rattle.paper.specs.Sizes.{is_large}
use Rattle.paper.specs.Registers.{extadd, upper_bank}

infixl 80 ◌is◌
-- a code and its command
pub record Entry : Type 0 where
  pub code : ℕ
  pub command : Command

abbrev pub ◌is◌ : ℕ → Command → Entry
n is k = record { code = n; command = k }

-- the codes, in the table's order, then those of the extended read register
abbrev pub codes : List Entry
codes =
    0x03 is Read ∷ 0x0B is FastRead ∷ 0x05 is ReadStatus ∷ 0x48 is ReadFunction
    ∷ 0x9F is ReadIdentity ∷ 0x90 is ReadMakerDevice ∷ 0xAB is Wake ∷ 0x68 is ReadRow
    ∷ 0x06 is WriteEnable ∷ 0x04 is WriteDisable ∷ 0x01 is WriteStatus ∷ 0x42 is WriteFunction
    ∷ 0x02 is PageProgram ∷ 0xD7 is SectorErase ∷ 0x20 is SectorErase ∷ 0x52 is BlockErase32
    ∷ 0xD8 is BlockErase64 ∷ 0xC7 is ChipErase ∷ 0x60 is ChipErase ∷ 0x75 is Suspend
    ∷ 0xB0 is Suspend ∷ 0x7A is Resume ∷ 0x30 is Resume ∷ 0xB9 is Sleep
    ∷ 0x66 is ArmReset ∷ 0x99 is Reset ∷ 0x64 is RowErase ∷ 0x62 is RowProgram
    ∷ 0x81 is ReadExtended ∷ 0x85 is SetStored ∷ 0x83 is SetLive ∷ 0x82 is ClearErrors ∷ []

-- the codes of the large part: those of table 8.2 of source document 004, which always have four address bytes, and those of its bank address register
abbrev pub large_codes : List Entry
large_codes =
    0x13 is FarRead ∷ 0x0C is FarFastRead ∷ 0x12 is FarPageProgramAtRest ∷ 0x21 is FarSectorErase
    ∷ 0x5C is FarBlockErase32 ∷ 0xDC is FarBlockErase64 ∷ 0x16 is ReadBank ∷ 0xC8 is ReadBank
    ∷ 0x17 is WriteBank ∷ 0xC5 is WriteBank ∷ 0xB7 is EnterFar ∷ 0x29 is LeaveFar ∷ []

-- the codes of table 8.3, which have four address bytes while EXTADD is 1
abbrev pub far_codes : List Entry
far_codes =
    0x03 is FarRead ∷ 0x0B is FarFastRead ∷ 0x02 is FarPageProgram ∷ 0xD7 is FarSectorErase
    ∷ 0x20 is FarSectorErase ∷ 0x52 is FarBlockErase32 ∷ 0xD8 is FarBlockErase64 ∷ []

-- what a part of n blocks knows under a bank register. The others than the large part know none of these, and their bank register is 0
abbrev pub codes_on : ℕ → ℕ → List Entry
codes_on n bank = cond (extadd bank) far_codes [] ++ (codes ++ cond (is_large n) large_codes [])

-- the command of the first entry that has the code
abbrev pub look_up : List Entry → ℕ → Option Command
look_up [] n = None
look_up (e ∷ es) n = cond (eqb n e.code) (Some e.command) (look_up es n)

-- the command that a first byte c is there, or that it is in no row of the table
unfoldable pub decoded : ℕ → ℕ → ℕ → Option Command
decoded n bank c = look_up (codes_on n bank) c

-- a line of the table
abbrev pub line : Length → Bool → Taken → Named → Wanted → Source → ℕ → Effect → Columns
line l w t a s d f e =
    record { length = l; wel = w; taken = t; named = a; wanted = s; source = d; from = f; effect = e }

-- the entries of the column for WEL
abbrev pub WEL : Bool
WEL = true

abbrev pub no : Bool
no = false

-- the table's other columns: the length; whether WEL is needed, which 26 asks; when the command is taken, which 21, 22 and 23 ask; what its address names, which 27 asks;
-- what it wants of the state, which 25 asks; what it drives and from which place; what it does with the record
-- command = line length WEL taken address wants drives from does
abbrev pub columns : Command → Columns
columns Read = line (AtLeast 4) no OrHalted Place Any ArrayBytes 4 Looks
columns FastRead = line (AtLeast 5) no OrHalted Place Any ArrayBytes 5 Looks
columns ReadStatus = line (AtLeast 1) no Awake Bare Any StatusByte 1 Looks
columns ReadFunction = line (AtLeast 1) no Awake Bare Any FunctionByte 1 Looks
columns ReadIdentity = line (AtLeast 1) no OrHalted Bare Any IdentityBytes 1 Looks
columns ReadMakerDevice = line (AtLeast 4) no OrHalted Bare Any MakerPair 4 Looks
columns Wake = line (AtLeast 1) no OrAsleep Bare Any DeviceByte 4 Wakes
columns ReadRow = line (AtLeast 5) no OrHalted InRow Any RowBytes 5 Looks
columns WriteEnable = line (Exactly 1) no Esus Bare Any Void 0 Enables
columns WriteDisable = line (Exactly 1) no Esus Bare Any Void 0 Disables
columns WriteStatus = line (Exactly 2) WEL Rest Bare Any Void 0 (Writes Status)
columns WriteFunction = line (Exactly 2) WEL Rest Bare Any Void 0 (Writes Function)
columns PageProgram = line (AtLeast 5) WEL Esus Place Any Void 0 (Programs Array)
columns SectorErase = line (Exactly 4) WEL Rest Place Any Void 0 (Erases Sector)
columns BlockErase32 = line (Exactly 4) WEL Rest Place Any Void 0 (Erases Block32)
columns BlockErase64 = line (Exactly 4) WEL Rest Place Any Void 0 (Erases Block64)
columns ChipErase = line (Exactly 1) WEL Rest Bare Any Void 0 (Erases Chip)
columns Suspend = line (Exactly 1) no OrBusy Bare Running Void 0 Suspends
columns Resume = line (Exactly 1) no OrHalted Bare Halted Void 0 Resumes
columns Sleep = line (Exactly 1) no Rest Bare Any Void 0 Sleeps
columns ArmReset = line (Exactly 1) no Awake Bare Any Void 0 Arms
columns Reset = line (Exactly 1) no Awake Bare Armed Void 0 Resets
columns RowErase = line (Exactly 4) WEL Rest InRow Any Void 0 (Erases Row)
columns RowProgram = line (AtLeast 5) WEL Rest InRow Any Void 0 (Programs Rows)
columns ReadExtended = line (AtLeast 1) no Awake Bare Any ExtendedByte 1 Looks
columns SetStored = line (Exactly 2) WEL Rest Bare Any Void 0 (Writes Extended)
columns SetLive = line (Exactly 2) no Rest Bare Any Void 0 SetsLive
columns ClearErrors = line (Exactly 1) no Rest Bare Any Void 0 ClearsErrors
columns FarRead = line (AtLeast 5) no OrHalted Far Any ArrayBytes 5 Looks
columns FarFastRead = line (AtLeast 6) no OrHalted Far Any ArrayBytes 6 Looks
columns FarPageProgram = line (AtLeast 6) WEL Esus Far Any Void 0 (Programs Array)
columns FarPageProgramAtRest = line (AtLeast 6) WEL Rest Far Any Void 0 (Programs Array)
columns FarSectorErase = line (Exactly 5) WEL Rest Far Any Void 0 (Erases Sector)
columns FarBlockErase32 = line (Exactly 5) WEL Rest Far Any Void 0 (Erases Block32)
columns FarBlockErase64 = line (Exactly 5) WEL Rest Far Any Void 0 (Erases Block64)
columns ReadBank = line (AtLeast 1) no OrHalted Bare Any BankByte 1 Looks
columns WriteBank = line (Exactly 2) no Rest Bare Any Void 0 SetsBank
columns EnterFar = line (Exactly 1) no Rest Bare Any Void 0 (SetsFar true)
columns LeaveFar = line (Exactly 1) no Rest Bare Any Void 0 (SetsFar false)

-- how the address of a command is sent under a bank register: a place of the array that has three bytes is in the bank of the bank bit, and nothing else is
abbrev pub addressing : Named → ℕ → Addressing
addressing Bare bank = Three false
addressing Place bank = Three (upper_bank bank)
addressing Far bank = Four
addressing InRow bank = Three false

-- so that of a command with these columns on a part
abbrev pub addressing_on : Columns → Part → Addressing
addressing_on k p = addressing k.named p.bank

-- a command is taken while the part is asleep, busy, or suspended; in this from an erase or from a program
abbrev pub taken_asleep : Taken → Bool
taken_asleep Rest = false
taken_asleep Esus = false
taken_asleep OrHalted = false
taken_asleep OrBusy = false
taken_asleep Awake = false
taken_asleep OrAsleep = true

abbrev pub taken_busy : Taken → Bool
taken_busy Rest = false
taken_busy Esus = false
taken_busy OrHalted = false
taken_busy OrBusy = true
taken_busy Awake = true
taken_busy OrAsleep = false

abbrev pub taken_suspended : Taken → Bool → Bool
taken_suspended Rest erase = false
taken_suspended Esus erase = erase
taken_suspended OrHalted erase = true
taken_suspended OrBusy erase = false
taken_suspended Awake erase = true
taken_suspended OrAsleep erase = true

-- a length that the table asks for
abbrev pub length_ok : Length → ℕ → Bool
length_ok (Exactly l) n = eqb n l
length_ok (AtLeast l) n = leb l n

-- a command that drives something
abbrev pub drives : Source → Bool
drives Void = false
drives ArrayBytes = true
drives RowBytes = true
drives StatusByte = true
drives FunctionByte = true
drives IdentityBytes = true
drives MakerPair = true
drives DeviceByte = true
drives ExtendedByte = true
drives BankByte = true

-- the reads are 03h, 0Bh, 05h, 48h, 9Fh, 90h, ABh, 68h and 81h, and on the large part 13h, 0Ch, 16h and C8h
abbrev pub is_read : Columns → Bool
is_read k = drives k.source
