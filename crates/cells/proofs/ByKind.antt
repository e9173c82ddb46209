-- The operation of cells goes by the kind that their number is read as.
use mathlib.Core.Path.{◌≡◌, sym}
use Rattle.std.specs.Prelude.{Result, Ok, Err}
use Rattle.std.specs.Result.{result_unwrap_or}
use Rattle.types.specs.declared.Register.TheVariants.{Extended}
use Rattle.types.specs.declared.Operation.{Operation}
use Rattle.cells.specs.declared.Cells.{Cells}
use Rattle.cells.specs.declared.Kind.{Kind}
use Rattle.cells.specs.declared.Kind.TheVariants.{Program, Erase, Write}
use Rattle.cells.specs.declared.NoKind.{NoKind}
use Rattle.cells.specs.Kinds.{ReadsKind}
use Rattle.cells.specs.Operations.{program_in, erase_in, write_in, operation_in}
use Rattle.cells.proofs.Own.{program_read, erase_read, write_read, none_read}

abbrev pub of_kind : Kind → Cells → Operation
of_kind (Program m) s = program_in m s
of_kind (Erase u) s = erase_in u s
of_kind (Write r) s = write_in r s

pub kind_read : (s : Cells) (r : Result Kind NoKind) (k : Kind) → ReadsKind s.kind r → k ≡ result_unwrap_or r (Write Extended) → of_kind k s ≡ operation_in s
kind_read s (Ok (Program m)) k h e = rw e (sym (program_read m s (sym h)))
kind_read s (Ok (Erase u)) k h e = rw e (sym (erase_read u s (sym h)))
kind_read s (Ok (Write r)) k h e = rw e (sym (write_read r s (sym h)))
kind_read s (Err n) k h e = rw e (sym (none_read s h))
