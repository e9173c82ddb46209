-- `record_bytes::reading::part_in` meets its contract: every field is read at its place.
use native.Mathlib.Omega.{arith}
use mathlib.Core.Path.{◌∙◌}
use Rattle.record_bytes.specs.Read.{part_in}
use Rattle.record_bytes.proofs.Laid.{two_bytes}
use Rattle.record_bytes.proofs.reading.part_in.Goals as goal

pub returns : goal.returns
unfolding part_in
returns c =
    rw (c.from_be_bytes.ensures ∙ two_bytes c.args.bytes.now (omega (arith, c.told-bytes)), c.stored_in.ensures)
