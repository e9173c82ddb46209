-- `operations::in_unit` meets its contract: each arm is a clause of the definition, and a unit's size fits.
use Rattle.paper.proofs.Pages.{unit_pages_le}
use native.Mathlib.Omega.{arith}
use denote.Enum.Bare.{sameb}
use mathlib.Core.Path.{◌≡◌, refl, ◌∙◌}
use Rattle.types.specs.declared.Memory.{Memory}
use Rattle.types.specs.declared.Memory.TheVariants.{Array, Rows}
use Rattle.types.specs.contracts.Memory.{the_type}
use Rattle.paper.specs.Sizes.{same_memory}
use Rattle.operations.proofs.in_unit.Goals as goal

pub overflow_mul-size : goal.overflow_mul-size
overflow_mul-size c =
    let u = c.in-Erase.unit in
    let a = c.args in
    omega (arith, c.unit_pages-size.ensures, unit_pages_le u a.blocks (omega arith))

same : (a b : Memory) → sameb the_type a b ≡ same_memory a b
same Array Array = refl
same Array Rows = refl
same Rows Array = refl
same Rows Rows = refl

pub returns-in-Erase : goal.returns-in-Erase
returns-in-Erase c = rw (c.in-Erase.is, c.both.ensures, c.lies_within.ensures, c.eq-same.ensures ∙ same _ _, c.unit_memory.ensures, c.unit_pages-size.ensures)
