-- `record_bytes::reading::number_in` meets its contract: the number of eight bytes is the sum of each times its place.
use mathlib.Core.Path.{◌∙◌}
use Rattle.record_bytes.proofs.Laid.{eight_bytes}
use Rattle.record_bytes.proofs.reading.number_in.Goals as goal

pub returns : goal.returns
returns c = c.from_be_bytes.ensures ∙ eight_bytes c.args.bytes.now c.told-bytes
