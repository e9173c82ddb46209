-- `record_bytes::writing::operation_bytes` meets its contract: over zeros each cell is written in its place.
use mathlib.Core.Path.{refl, ap, ◌∙◌}
use Rattle.record_bytes.specs.Layout.{operation_bytes}
use Rattle.record_bytes.proofs.Laid.{cells_laid}
use Rattle.record_bytes.proofs.writing.operation_bytes.Goals as goal

pub returns : goal.returns
returns c =
    cells_laid c.cells_of-cells.result _ refl _ (c.copy_from_slice.ensures.after ∙ c.high_first_bytes.ensures) _ (c.copy_from_slice-2.ensures.after ∙ c.high_first_bytes-2.ensures) _ (c.copy_from_slice-3.ensures.after ∙ c.high_first_bytes-3.ensures) ∙ ap operation_bytes c.cells_of-cells.ensures
