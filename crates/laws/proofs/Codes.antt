-- The codes that begin a program and those that begin an erase: the commands whose 28 sets P_ERR, and those whose 28 sets E_ERR.
use mathlib.Core.Path.{◌≡◌, refl}
use mathlib.Core.Bool.{Bool}
use mathlib.Core.List.{[], ◌∷◌}
use lib.Dec.{eqb}
use Prim.Native.Nat.{◌+◌}
use Rattle.types.specs.declared.Columns.{Columns}
use Rattle.paper.specs.Registers.{E_ERR, P_ERR, PROT_E}
use Rattle.paper.specs.Table.{codes, far_codes, large_codes}
use Rattle.paper.specs.Commands.{errors_of}
use Rattle.paper.proofs.Table.{codes_of}

abbrev programs : Columns → Bool
programs k = eqb (errors_of k.effect) (P_ERR + PROT_E)

abbrev erases : Columns → Bool
erases k = eqb (errors_of k.effect) (E_ERR + PROT_E)

-- on every part
pub program_codes : codes_of programs codes ≡ 0x02 ∷ 0x62 ∷ []
program_codes = refl

pub erase_codes : codes_of erases codes ≡ 0xD7 ∷ 0x20 ∷ 0x52 ∷ 0xD8 ∷ 0xC7 ∷ 0x60 ∷ 0x64 ∷ []
erase_codes = refl

-- with four address bytes, on the large part: while EXTADD is 1, and always
pub far_codes_lem : (codes_of programs far_codes ≡ 0x02 ∷ []) × (codes_of erases far_codes ≡ 0xD7 ∷ 0x20 ∷ 0x52 ∷ 0xD8 ∷ [])
far_codes_lem = (refl, refl)

pub large_codes_lem : (codes_of programs large_codes ≡ 0x12 ∷ []) × (codes_of erases large_codes ≡ 0x21 ∷ 0x5C ∷ 0xDC ∷ [])
large_codes_lem = (refl, refl)
