-- The number that was worked out of a command's columns is the paper's, and a command that is executed has something to drive.
use Rattle.types.specs.declared.Operation.{Operation}
use Rattle.std.specs.Prelude.{Option, Some}
use Prim.Native.Nat.{ℕ}
use mathlib.Core.Path.{◌≡◌, ap, ◌∙◌}
use mathlib.Core.Bool.{Bool, true, false≢true}
use mathlib.Core.List.{List}
use native.Mathlib.Omega.{arith}
use lib.ListN.{length, length-take, length-drop}
use Rattle.types.specs.declared.Command.{Command}
use Rattle.types.specs.declared.Command.TheVariants.{Read, FastRead, ReadStatus, ReadFunction, ReadIdentity, ReadMakerDevice, Wake, ReadRow, WriteEnable, WriteDisable, WriteStatus, WriteFunction, PageProgram, SectorErase, BlockErase32, BlockErase64, ChipErase, Suspend, Resume, Sleep, ArmReset, Reset, RowErase, RowProgram, ReadExtended, SetStored, SetLive, ClearErrors, FarRead, FarFastRead, FarPageProgram, FarPageProgramAtRest, FarSectorErase, FarBlockErase32, FarBlockErase64, ReadBank, WriteBank, EnterFar, LeaveFar}
use Rattle.types.specs.declared.Source.{Source}
use Rattle.types.specs.declared.Source.TheVariants.{Void, ArrayBytes, RowBytes, StatusByte, FunctionByte, IdentityBytes, MakerPair, DeviceByte, ExtendedByte, BankByte}
use Rattle.types.specs.declared.Identity.{Identity}
use Rattle.types.specs.declared.Part.{Part}
use Rattle.types.specs.declared.Phase.{Phase}
use Rattle.types.specs.declared.Addressing.{Addressing}
use Rattle.types.specs.declared.Columns.{Columns}
use Rattle.paper.specs.Sizes.{size_ok, array_bytes, rows_bytes}
use Rattle.paper.specs.Address.{row_ok}
use Rattle.paper.specs.Table.{columns, addressing_on, drives}
use Rattle.paper.specs.Reads.{source_bytes}
use Rattle.paper.specs.Commands.{begins, begun}
use Rattle.paper.specs.Numbers.{address_ok, command_number, ignored_number}
use Rattle.paper.proofs.Sizes.{size_range}
use Rattle.paper.proofs.Addresses.{row_inside}
use Rattle.transact.specs.Shown.{HasBytes}

-- what reads a row was sent a row address
abbrev Asked : Source → Addressing → List ℕ → Type 0
Asked Void g i = Unit {0}
Asked ArrayBytes g i = Unit {0}
Asked RowBytes g i = row_ok g i ≡ true
Asked StatusByte g i = Unit {0}
Asked FunctionByte g i = Unit {0}
Asked IdentityBytes g i = Unit {0}
Asked MakerPair g i = Unit {0}
Asked DeviceByte g i = Unit {0}
Asked ExtendedByte g i = Unit {0}
Asked BankByte g i = Unit {0}

module _ (id : Identity) (p : Part) (xs rs i : List ℕ) (s : size_ok p.blocks ≡ true) (array : length xs ≡ array_bytes p.blocks) (rows : length rs ≡ rows_bytes) where
  some : (w : Source) (g : Addressing) → Asked w g i → drives w ≡ true → length (source_bytes w g id p xs rs i) ≡ 0 → ⊥
  some Void g r d z = false≢true d
  some ArrayBytes g r d z = omega (arith, size_range p.blocks s)
  some RowBytes g r d z =
      omega (arith, row_inside g i r, simp (length-take, length-drop) at z)
  some StatusByte g r d z = omega arith
  some FunctionByte g r d z = omega arith
  some IdentityBytes g r d z = omega arith
  some MakerPair g r d z = omega arith
  some DeviceByte g r d z = omega arith
  some ExtendedByte g r d z = omega arith
  some BankByte g r d z = omega arith

  sent : (k : Command) (w : Source) → let g = addressing_on (columns k) p in Asked w g i → drives w ≡ true → length (source_bytes w g id p xs rs i) ≡ 0 → ⊥
  sent k w = some w (addressing_on (columns k) p)

  pub has_bytes : (k : Command) → address_ok (columns k).named (addressing_on (columns k) p) i ≡ true → HasBytes (columns k) id p xs rs i
  has_bytes Read h = sent Read ArrayBytes tt
  has_bytes FastRead h = sent FastRead ArrayBytes tt
  has_bytes ReadStatus h = sent ReadStatus StatusByte tt
  has_bytes ReadFunction h = sent ReadFunction FunctionByte tt
  has_bytes ReadIdentity h = sent ReadIdentity IdentityBytes tt
  has_bytes ReadMakerDevice h = sent ReadMakerDevice MakerPair tt
  has_bytes Wake h = sent Wake DeviceByte tt
  has_bytes ReadRow h = sent ReadRow RowBytes h
  has_bytes WriteEnable h = sent WriteEnable Void tt
  has_bytes WriteDisable h = sent WriteDisable Void tt
  has_bytes WriteStatus h = sent WriteStatus Void tt
  has_bytes WriteFunction h = sent WriteFunction Void tt
  has_bytes PageProgram h = sent PageProgram Void tt
  has_bytes SectorErase h = sent SectorErase Void tt
  has_bytes BlockErase32 h = sent BlockErase32 Void tt
  has_bytes BlockErase64 h = sent BlockErase64 Void tt
  has_bytes ChipErase h = sent ChipErase Void tt
  has_bytes Suspend h = sent Suspend Void tt
  has_bytes Resume h = sent Resume Void tt
  has_bytes Sleep h = sent Sleep Void tt
  has_bytes ArmReset h = sent ArmReset Void tt
  has_bytes Reset h = sent Reset Void tt
  has_bytes RowErase h = sent RowErase Void tt
  has_bytes RowProgram h = sent RowProgram Void tt
  has_bytes ReadExtended h = sent ReadExtended ExtendedByte tt
  has_bytes SetStored h = sent SetStored Void tt
  has_bytes SetLive h = sent SetLive Void tt
  has_bytes ClearErrors h = sent ClearErrors Void tt
  has_bytes FarRead h = sent FarRead ArrayBytes tt
  has_bytes FarFastRead h = sent FarFastRead ArrayBytes tt
  has_bytes FarPageProgram h = sent FarPageProgram Void tt
  has_bytes FarPageProgramAtRest h = sent FarPageProgramAtRest Void tt
  has_bytes FarSectorErase h = sent FarSectorErase Void tt
  has_bytes FarBlockErase32 h = sent FarBlockErase32 Void tt
  has_bytes FarBlockErase64 h = sent FarBlockErase64 Void tt
  has_bytes ReadBank h = sent ReadBank BankByte tt
  has_bytes WriteBank h = sent WriteBank Void tt
  has_bytes EnterFar h = sent EnterFar Void tt
  has_bytes LeaveFar h = sent LeaveFar Void tt

-- the number that was worked out of a command's columns and of what it begins
module _ (c : Command) (p : Part) (f : Phase) (i : List ℕ) (wp : Bool) where
  pub number_told : {k : Columns} {g : Addressing} {w : Option Operation} {x : ℕ} → k ≡ columns c → g ≡ addressing_on k p → w ≡ begins k.effect g p.blocks i → x ≡ command_number k g w p f i wp
      → x ≡ ignored_number (Some c) p f i wp
  number_told {k} {g} ek eg ew ex =
      ex
      ∙ ap (λ (y : Option Operation). command_number k g y p f i wp) ew
      ∙ ap (λ (y : Addressing). command_number k y (begins k.effect y p.blocks i) p f i wp) eg
      ∙ ap (λ (y : Columns). command_number y (addressing_on y p) (begun y p i) p f i wp) ek
