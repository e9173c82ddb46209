-- `record_bytes::writing::write_part` meets its contract: what the part is is copied over the first bytes.
use mathlib.Core.Path.{◌∙◌, ap}
use lib.ListN.{drop}
use Prim.Native.Nat.{ℕ}
use mathlib.Core.List.{List, ◌++◌}
use Rattle.record_bytes.specs.Layout.{part_length}
use Rattle.record_bytes.proofs.writing.write_part.Goals as goal

pub returns : goal.returns
returns c = ap (λ (x : List ℕ). x ++ drop part_length c.args.bytes.now) (c.copy_from_slice.ensures.after ∙ c.part_bytes-front.ensures)
