-- The register bits that other fields define, as numbers.
use Prim.Native.Nat.{◌+◌, ◌*◌, ◌≤◌}
use mathlib.Core.Bool.{Bool}
use native.Mathlib.Omega.{arith}
use Rattle.types.specs.declared.Operation.{Operation}
use Rattle.types.specs.declared.Operation.TheVariants.{Program, Erase, Write}
use Rattle.types.specs.declared.Phase.{Phase}
use Rattle.types.specs.declared.Phase.TheVariants.{Idle, Busy, Suspended, Nested}
use Rattle.words.specs.Logic.{bit}
use Rattle.words.proofs.Tests.{bit_le}
use Rattle.paper.specs.Phases.{is_erase, is_program, is_busy}
use Rattle.paper.specs.Records.{status_low, function_low}

pub status_low_le : (f : Phase) (wel : Bool) → status_low f wel ≤ 3
status_low_le f wel = omega (arith, bit_le wel, bit_le (is_busy f))

of_suspended_le : (o : Operation) → 8 * bit (is_erase o) + 4 * bit (is_program o) ≤ 8
of_suspended_le (Program m s b k d) = omega arith
of_suspended_le (Erase u b d) = omega arith
of_suspended_le (Write r v) = omega arith

pub function_low_le : (f : Phase) → function_low f ≤ 8
function_low_le Idle = omega arith
function_low_le (Busy o) = omega arith
function_low_le (Suspended o) = of_suspended_le o
function_low_le (Nested o e) = of_suspended_le e
