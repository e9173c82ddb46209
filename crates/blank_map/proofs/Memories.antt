-- Whether a memory is the array.
use Rattle.std.specs.Prelude.{Bool, ◌≡◌}
use Rattle.types.specs.declared.Memory.{Memory}
use Rattle.types.specs.declared.Memory.TheVariants.{Array, Rows}
use Rattle.types.specs.contracts.Memory.{the_type}
use denote.Enum.Bare.{sameb}
use Rattle.paper.specs.Sizes.{same_memory}

-- the derived equality is the paper's
pub array_is : (m : Memory) {b : Bool} → b ≡ sameb the_type m Array → b ≡ same_memory Array m
array_is Array h = h
array_is Rows h = h
