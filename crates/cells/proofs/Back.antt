-- What an operation is, or none, comes back from its cells.
use Rattle.std.specs.Prelude.{None, Option, Some}
use Prim.Native.Nat.{ℕ}
use mathlib.Core.Path.{◌≡◌, refl, ap}
use mathlib.Core.Bool.{false}
use lib.Dec.{eqb}
use Rattle.types.specs.declared.Memory.TheVariants.{Array, Rows}
use Rattle.types.specs.declared.EraseUnit.TheVariants.{Sector, Block32, Block64, Chip, Row}
use Rattle.types.specs.declared.Register.TheVariants.{Status, Function, Extended}
use Rattle.types.specs.declared.Operation.{Operation}
use Rattle.types.specs.declared.Operation.TheVariants.{Program, Erase, Write}
use Rattle.cells.specs.Operations.{cells, cells_of, work_cells, operation_of, operation_in, work_of}

-- an operation has a kind
some_kind : (o : Operation) → eqb (cells_of o).kind 0 ≡ false
some_kind (Program Array s b k d) = refl
some_kind (Program Rows s b k d) = refl
some_kind (Erase Sector b d) = refl
some_kind (Erase Block32 b d) = refl
some_kind (Erase Block64 b d) = refl
some_kind (Erase Chip b d) = refl
some_kind (Erase Row b d) = refl
some_kind (Write Status v) = refl
some_kind (Write Function v) = refl
some_kind (Write Extended v) = refl

operation_back : (o : Operation) → operation_in (cells_of o) ≡ o
unfolding operation_of
operation_back (Program Array s b k d) = refl
operation_back (Program Rows s b k d) = refl
operation_back (Erase Sector b d) = refl
operation_back (Erase Block32 b d) = refl
operation_back (Erase Block64 b d) = refl
operation_back (Erase Chip b d) = refl
operation_back (Erase Row b d) = refl
operation_back (Write Status v) = refl
operation_back (Write Function v) = refl
operation_back (Write Extended v) = refl

pub work_back : (w : Option Operation) → work_of (work_cells w) ≡ w
work_back None = refl
work_back (Some o) = rw (some_kind o) (ap Some (operation_back o))

-- cells of which base, count and ticks done are one by one the same
pub same_cells_lem : (k v b b' n n' d d' : ℕ) → b ≡ b' → n ≡ n' → d ≡ d' → cells k v b n d ≡ cells k v b' n' d'
same_cells_lem k v b b' n n' d d' p q r = rw (p, q, r)
