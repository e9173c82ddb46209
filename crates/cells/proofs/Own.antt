-- When cells are those of the operation that they are read as.
use Rattle.std.specs.Prelude.{None, Some}
use Prim.Native.Nat.{ℕ, ◌<◌, ◌≤◌}
use mathlib.Core.Path.{◌≡◌, refl, sym, ap, ◌∙◌}
use mathlib.Core.Bool.{Bool, true, false}
use native.Mathlib.Omega.{arith}
use lib.Dec.{eqb}
use borrow.Author.Tests.{eq-eqb, ne_eqb, eqb-true}
use Rattle.types.specs.declared.Memory.{Memory}
use Rattle.types.specs.declared.Memory.TheVariants.{Array, Rows}
use Rattle.types.specs.declared.EraseUnit.{EraseUnit}
use Rattle.types.specs.declared.EraseUnit.TheVariants.{Sector, Block32, Block64, Chip, Row}
use Rattle.types.specs.declared.Register.{Register}
use Rattle.types.specs.declared.Register.TheVariants.{Status, Function, Extended}
use Rattle.types.specs.declared.Operation.{Operation}
use Rattle.words.specs.Logic.{◌and◌}
use Rattle.words.proofs.Tests.{same_tests, and_true}
use Rattle.cells.specs.declared.Cells.{Cells}
use Rattle.cells.specs.Operations.{program_kind, erase_kind, write_kind, cells_of, work_cells, program_in, erase_in, write_in, operation_of, operation_in, same_cells, own}

-- two numbers are compared either way
either_way : (m n : ℕ) → eqb m n ≡ eqb n m
either_way m n = same_tests _ _ (λ h. eq-eqb n m (sym (eqb-true m n h))) (λ h. eq-eqb m n (sym (eqb-true n m h)))

-- the operation of each kind
pub program_read : (m : Memory) (s : Cells) → s.kind ≡ program_kind m → operation_in s ≡ program_in m s
unfolding operation_of
program_read Array s e = rw e refl
program_read Rows s e = rw e refl

pub erase_read : (u : EraseUnit) (s : Cells) → s.kind ≡ erase_kind u → operation_in s ≡ erase_in u s
unfolding operation_of
erase_read Sector s e = rw e refl
erase_read Block32 s e = rw e refl
erase_read Block64 s e = rw e refl
erase_read Chip s e = rw e refl
erase_read Row s e = rw e refl

pub write_read : (r : Register) (s : Cells) → s.kind ≡ write_kind r → operation_in s ≡ write_in r s
unfolding operation_of
write_read Status s e = rw e refl
write_read Function s e = rw e refl
write_read Extended s e = rw e refl

-- of no operation all cells are 0
pub none_told : (s : Cells) → same_cells (work_cells None) s ≡ (eqb s.kind 0 and eqb s.value 0 and eqb s.base 0 and eqb s.count 0 and eqb s.done 0)
unfolding same_cells
none_told s =
    rw (either_way 0 s.kind, either_way 0 s.value, either_way 0 s.base, either_way 0 s.count, either_way 0 s.done)

-- told of an operation that was read
pub own_told : (s : Cells) (o : Operation) (t : Bool) → o ≡ operation_in s → t ≡ own s → t ≡ same_cells (work_cells (Some o)) s
unfolding own
own_told s o t e h = h ∙ ap (λ (x : Operation). same_cells (cells_of x) s) (sym e)

-- by the kinds
module _ (s : Cells) where
  pub own_program : (m : Memory) → s.kind ≡ program_kind m → own s ≡ true
  unfolding own same_cells ◌and◌
  own_program m e =
      rw (program_read m s e, eq-eqb (program_kind m) s.kind (sym e), eq-eqb s.value s.value refl, eq-eqb s.base s.base refl, eq-eqb s.count s.count refl, eq-eqb s.done s.done refl)

  pub own_erase : (u : EraseUnit) → s.kind ≡ erase_kind u → own s ≡ (eqb s.value 0 and eqb s.count 0)
  unfolding own same_cells ◌and◌
  own_erase u e =
      rw (erase_read u s e, eq-eqb (erase_kind u) s.kind (sym e), either_way 0 s.value, eq-eqb s.base s.base refl, either_way 0 s.count, eq-eqb s.done s.done refl, and_true (eqb s.count 0))

  pub own_write : (r : Register) → s.kind ≡ write_kind r → own s ≡ (eqb s.base 0 and eqb s.count 0 and eqb s.done 0)
  unfolding own same_cells ◌and◌
  own_write r e =
      rw (write_read r s e, eq-eqb (write_kind r) s.kind (sym e), eq-eqb s.value s.value refl, either_way 0 s.base, either_way 0 s.count, either_way 0 s.done)

  -- a number that is no kind's has no cells of its own, and is read as a write of the extended read register
  module _ (h : 1 ≤ s.kind → 10 < s.kind) where
    other : (n : ℕ) → 1 ≤ n → n < 11 → eqb s.kind n ≡ false
    other n l u = ne_eqb s.kind n (λ e. omega (arith, h (omega (arith, e)), e))

    pub none_read : operation_in s ≡ write_in Extended s
    unfolding operation_of
    none_read =
        rw (other 1 (omega arith) (omega arith), other 2 (omega arith) (omega arith), other 3 (omega arith) (omega arith), other 4 (omega arith) (omega arith), other 5 (omega arith) (omega arith), other 6 (omega arith) (omega arith), other 7 (omega arith) (omega arith), other 8 (omega arith) (omega arith), other 9 (omega arith) (omega arith))

    pub none_own : own s ≡ false
    unfolding own same_cells ◌and◌
    none_own = rw (none_read, either_way 10 s.kind, other 10 (omega arith) (omega arith))
